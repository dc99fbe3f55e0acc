-- The most cards and streets that a game has.
use Rattle.std.proofs.Common.{◌≡◌, ℕ, zero, suc, ◌-◌, ◌≤◌, Bool, true, false, ◌&&◌, ◌||◌, not, nat_le, List, [], ◌∷◌, length, slice_get, refl, sym, ◌∙◌, ap, arith}
use Rattle.std.specs.List.{list_all, list_any}
use Rattle.std.specs.Option.{option_map_or}
use Rattle.std.proofs.lemmas.Bool.{and_parts, leb-true, or_left, or_right}
use Rattle.play_event.specs.Games.{Game, board_cards_on, game_of}
use Rattle.play_event.specs.Streets.{has_draw}
use Rattle.play_event.specs.declared.code.Code.{Code}
use Rattle.play_event.specs.declared.code.Code.TheVariants as games
use Rattle.play_event.specs.declared.street.Street.{Street}
use Rattle.card_set.proofs.Tests.{false_true}
use Rattle.play_laws.proofs.HeldFew.{first_holes, all_holes, not_more}

-- a street deals at most five cards to the board
has_small_board : Street → Bool
has_small_board s = nat_le s.board 5

-- if a street draws, hands have at most five cards
has_small_draws : List Street → Bool
has_small_draws streets = not (list_any (λ s. s.draws) streets) || nat_le (all_holes streets) 5

-- a hand has one to seven cards, and a game at most five streets
is_small : Game → Bool
is_small game =
    (list_all has_small_board game.streets && has_small_draws game.streets)
    && ((nat_le 1 game.hole && nat_le game.hole 7) && nat_le (length game.streets) 5)

all_small : (code : Code) → is_small (game_of code) ≡ true
unfolding is_small has_small_board has_small_draws all_holes
all_small games.FT = refl
all_small games.NT = refl
all_small games.NS = refl
all_small games.PO = refl
all_small games.FO8 = refl
all_small games.F7S = refl
all_small games.F7S8 = refl
all_small games.FR = refl
all_small games.N2L1D = refl
all_small games.F2L3D = refl
all_small games.FB = refl

-- the parts of this for a game
record IsSmall (game : Game) : Type 0 where
  boards : list_all has_small_board game.streets ≡ true
  draws : has_small_draws game.streets ≡ true
  some : 1 ≤ game.hole
  seven : game.hole ≤ 7
  five : length game.streets ≤ 5

small_parts : (game : Game) → is_small game ≡ true → IsSmall game
unfolding is_small
small_parts game is =
    let streets : List Street = game.streets in
    let halves = and_parts (list_all has_small_board streets && has_small_draws streets) ((nat_le 1 game.hole && nat_le game.hole 7) && nat_le (length streets) 5) is in
    let tables = and_parts (list_all has_small_board streets) (has_small_draws streets) halves.0 in
    let counts = and_parts (nat_le 1 game.hole && nat_le game.hole 7) (nat_le (length streets) 5) halves.1 in
    let hand = and_parts (nat_le 1 game.hole) (nat_le game.hole 7) counts.0 in
    record { boards = tables.0; draws = tables.1; some = leb-true 1 game.hole hand.0; seven = leb-true game.hole 7 hand.1; five = leb-true (length streets) 5 counts.1 }

small : (code : Code) → IsSmall (game_of code)
small code = small_parts (game_of code) (all_small code)

few_at : (streets : List Street) (index : ℕ) → list_all has_small_board streets ≡ true → option_map_or (λ s. s.board) (slice_get streets index) 0 ≤ 5
unfolding has_small_board
few_at [] index each = omega arith
few_at (first ∷ rest) zero each = leb-true first.board 5 (and_parts (nat_le first.board 5) (list_all has_small_board rest) each).0
few_at (first ∷ rest) (suc index) each = few_at rest index (and_parts (nat_le first.board 5) (list_all has_small_board rest) each).1

-- no street deals more than five cards to the board
pub few_boards : (code : Code) (street : ℕ) → board_cards_on code street ≤ 5
few_boards code street = few_at (game_of code).streets (street - 1) (small code).boards

some_draws : (streets : List Street) (index : ℕ) → option_map_or (λ s. s.draws) (slice_get streets index) false ≡ true → list_any (λ s. s.draws) streets ≡ true
some_draws [] index is = false_true is
some_draws (first ∷ rest) zero is = or_left first.draws (list_any (λ s. s.draws) rest) is
some_draws (first ∷ rest) (suc index) is = or_right first.draws (list_any (λ s. s.draws) rest) (some_draws rest index is)

-- if a street draws, a hand has at most five cards
pub few_drawn : (code : Code) (street count : ℕ) → has_draw code street ≡ true → first_holes (game_of code).streets count ≤ 5
unfolding has_small_draws
few_drawn code street count draws =
    let streets : List Street = (game_of code).streets in
    let is : nat_le (all_holes streets) 5 ≡ true = sym (ap (λ some. not some || nat_le (all_holes streets) 5) (some_draws streets (street - 1) draws)) ∙ (small code).draws in
    omega (arith, not_more streets count, leb-true (all_holes streets) 5 is)

-- a hand has one to seven cards
pub hand_some : (code : Code) → 1 ≤ (game_of code).hole
hand_some code = (small code).some

pub hand_seven : (code : Code) → (game_of code).hole ≤ 7
hand_seven code = (small code).seven
