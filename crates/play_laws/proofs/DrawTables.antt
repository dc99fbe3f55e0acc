-- Streets that draw deal no cards of their own.
use Rattle.std.proofs.Common.{◌≡◌, ℕ, zero, suc, ◌+◌, ◌-◌, Bool, true, false, ◌&&◌, not, ◌==◌, List, [], ◌∷◌, refl, slice_get, sym}
use Rattle.std.specs.List.{list_any}
use Rattle.std.specs.Option.{option_map_or}
use Rattle.std.proofs.lemmas.Bool.{or_parts, and_parts, eqb-true}
use Rattle.play_event.specs.declared.code.Code.{Code}
use Rattle.play_event.specs.declared.code.Code.TheVariants as games
use Rattle.play_event.specs.declared.setup.Setup.{Setup}
use Rattle.play_event.specs.Games.{board_cards_on, game_of, hole_cards_on}
use Rattle.play_event.specs.declared.street.Street.{Street}
use Rattle.play_event.specs.Streets.{has_draw}
use Rattle.card_set.proofs.Tests.{false_true}

is_odd : Street → Bool
is_odd s = s.draws && not ((s.down + s.up == 0) && (s.board == 0))

none_odd : (code : Code) → list_any is_odd (game_of code).streets ≡ false
unfolding is_odd
none_odd games.FT = refl
none_odd games.NT = refl
none_odd games.NS = refl
none_odd games.PO = refl
none_odd games.FO8 = refl
none_odd games.F7S = refl
none_odd games.F7S8 = refl
none_odd games.FR = refl
none_odd games.N2L1D = refl
none_odd games.F2L3D = refl
none_odd games.FB = refl

record NoCards (streets : List Street) (index : ℕ) : Type 0 where
  hole : option_map_or (λ s. s.down + s.up) (slice_get streets index) 0 ≡ 0
  board : option_map_or (λ s. s.board) (slice_get streets index) 0 ≡ 0

not_odd : (draws none : Bool) → draws ≡ true → (draws && not none) ≡ false → none ≡ true
not_odd true true is odd = refl
not_odd true false is odd = false_true (sym odd)
not_odd false none is odd = false_true is

no_cards : (streets : List Street) (index : ℕ) → list_any is_odd streets ≡ false → option_map_or (λ s. s.draws) (slice_get streets index) false ≡ true → NoCards streets index
unfolding is_odd
no_cards [] index none draws = record { hole = refl; board = refl }
no_cards (first ∷ rest) zero none draws =
    let is : ((first.down + first.up == 0) && (first.board == 0)) ≡ true = not_odd first.draws ((first.down + first.up == 0) && (first.board == 0)) draws (or_parts (is_odd first) (list_any is_odd rest) none).0 in
    let parts = and_parts (first.down + first.up == 0) (first.board == 0) is in
    record { hole = eqb-true (first.down + first.up) 0 parts.0; board = eqb-true first.board 0 parts.1 }
no_cards (first ∷ rest) (suc index) none draws =
    let it = no_cards rest index (or_parts (is_odd first) (list_any is_odd rest) none).1 draws in
    record { hole = it.hole; board = it.board }

-- a street that draws and deals nothing else
pub record IsDrawStreet (setup : Setup) (street : ℕ) : Type 0 where
  pub draws : has_draw setup.code street ≡ true
  pub no_hole : hole_cards_on setup.code street ≡ 0
  pub no_board : board_cards_on setup.code street ≡ 0

-- a street that draws deals no cards of its own, in each game
pub draw_tables : (setup : Setup) (street : ℕ) → has_draw setup.code street ≡ true → IsDrawStreet setup street
draw_tables setup street draws =
    let it = no_cards (game_of setup.code).streets (street - 1) (none_odd setup.code) draws in
    record { draws = draws; no_hole = it.hole; no_board = it.board }
