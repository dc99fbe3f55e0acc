-- A row of a game's table draws if the street does.
use Rattle.std.proofs.Common.{◌≡◌, ℕ, zero, suc, ◌<◌, false, List, [], ◌∷◌, map, get_or, Option, Some, None, refl, sym, ap, ◌∙◌, arith, ◌≤◌, length}
use Rattle.std.specs.Prelude.{slice_get, unwrap_or}
use Rattle.std.specs.Option.{option_map_or}
use Rattle.play_event.specs.Games as tables
use Rattle.play_event.specs.Games.{Game}
use Rattle.play_event.specs.declared.street.Street.{Street}
use Rattle.variant_table.specs.Tables.{no_street, street_at}
use Rattle.play_event.specs.declared.code.Code.{Code}
use Rattle.play_event.specs.declared.code.Code.TheVariants as games

-- the row at an index, and after the rows one that does not draw
draws_row : (rows : List Street) (past : Street) → past.draws ≡ false → (i : ℕ) → option_map_or (λ s. s.draws) (slice_get (rows) i) false ≡ (get_or rows i past).draws
draws_row [] past none zero = sym none
draws_row [] past none (suc i) = sym none
draws_row (row ∷ rows) past none zero = refl
draws_row (row ∷ rows) past none (suc i) = draws_row rows past none i

found_draws : (street : Option Street) → option_map_or (λ s. s.draws) (Some (unwrap_or street no_street)) false ≡ option_map_or (λ s. s.draws) street false
found_draws None = refl
found_draws (Some street) = refl

draws_five : (game : Game) (i : ℕ) → i < 5 → option_map_or (λ s. s.draws) (slice_get (map (street_at game) (1 ∷ 2 ∷ 3 ∷ 4 ∷ 5 ∷ [])) i) false ≡ option_map_or (λ s. s.draws) (slice_get game.streets i) false
draws_five game zero few = found_draws (slice_get game.streets 0)
draws_five game (suc zero) few = found_draws (slice_get game.streets 1)
draws_five game (suc (suc zero)) few = found_draws (slice_get game.streets 2)
draws_five game (suc (suc (suc zero))) few = found_draws (slice_get game.streets 3)
draws_five game (suc (suc (suc (suc zero)))) few = found_draws (slice_get game.streets 4)
draws_five game (suc (suc (suc (suc (suc i))))) few = absurd (omega (arith, few))

-- no game has more than five streets
pub streets_few : (code : Code) → length (tables.game_of code).streets ≤ 5
streets_few games.FT = omega arith
streets_few games.NT = omega arith
streets_few games.NS = omega arith
streets_few games.PO = omega arith
streets_few games.FO8 = omega arith
streets_few games.F7S = omega arith
streets_few games.F7S8 = omega arith
streets_few games.FR = omega arith
streets_few games.N2L1D = omega arith
streets_few games.F2L3D = omega arith
streets_few games.FB = omega arith

pub draws_are : (game : Game) (rows : List Street) (past : Street) (i : ℕ) → rows ≡ map (street_at game) (1 ∷ 2 ∷ 3 ∷ 4 ∷ 5 ∷ []) → past.draws ≡ false → i < 5
    → (get_or rows i past).draws ≡ option_map_or (λ s. s.draws) (slice_get game.streets i) false
draws_are game rows past i same none few =
    sym (draws_row rows past none i) ∙ ap (λ l. option_map_or (λ s. s.draws) (slice_get l i) false) same ∙ draws_five game i few
