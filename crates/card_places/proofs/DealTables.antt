-- The table of a game has the streets of the game, and nothing after the last one.
use Rattle.std.proofs.Common.{◌≡◌, ℕ, zero, suc, ◌+◌, ◌-◌, ◌<◌, ◌≤◌, Option, Some, None, List, [], ◌∷◌, length, map, get_or, slice_get, refl, sym, ap, ◌∙◌, arith}
use Rattle.std.specs.Prelude.{unwrap_or, false}
use Rattle.std.specs.Option.{option_map_or}
use Rattle.play_event.specs.declared.code.Code.{Code}
use Rattle.play_event.specs.declared.code.Code.TheVariants as games
use Rattle.play_event.specs.Games as tables
use Rattle.play_event.specs.Games.{game_of}
use Rattle.play_event.specs.declared.street.Street.{Street}
use Rattle.variant_table.specs.declared.table.GameTable.{GameTable}
use Rattle.variant_table.specs.Tables.{no_street, IsTableOf, street_at}
use Rattle.card_places.specs.Marks.{IsStreetOf}
use Rattle.card_set.proofs.Entries.{past_end}

-- a street that is read from those of the game has what they deal
same_street : (code : Code) (number : ℕ) (row : Street) (found : Option Street) → slice_get (game_of code).streets (number - 1) ≡ found → row ≡ unwrap_or found no_street → IsStreetOf code number row
same_street code number row None here is = record {
  down = ap (λ (s : Street). s.down) is ∙ sym (ap (λ (o : Option Street). option_map_or (λ s. s.down) o 0) here);
  up = ap (λ (s : Street). s.up) is ∙ sym (ap (λ (o : Option Street). option_map_or (λ s. s.up) o 0) here);
  hole = ap (λ (s : Street). s.down + s.up) is ∙ sym (ap (λ (o : Option Street). option_map_or (λ s. s.down + s.up) o 0) here);
  board = ap (λ (s : Street). s.board) is ∙ sym (ap (λ (o : Option Street). option_map_or (λ s. s.board) o 0) here);
  draws = ap (λ (s : Street). s.draws) is ∙ sym (ap (λ (o : Option Street). option_map_or (λ s. s.draws) o false) here);
}
same_street code number row (Some street) here is = record {
  down = ap (λ (s : Street). s.down) is ∙ sym (ap (λ (o : Option Street). option_map_or (λ s. s.down) o 0) here);
  up = ap (λ (s : Street). s.up) is ∙ sym (ap (λ (o : Option Street). option_map_or (λ s. s.up) o 0) here);
  hole = ap (λ (s : Street). s.down + s.up) is ∙ sym (ap (λ (o : Option Street). option_map_or (λ s. s.down + s.up) o 0) here);
  board = ap (λ (s : Street). s.board) is ∙ sym (ap (λ (o : Option Street). option_map_or (λ s. s.board) o 0) here);
  draws = ap (λ (s : Street). s.draws) is ∙ sym (ap (λ (o : Option Street). option_map_or (λ s. s.draws) o false) here);
}

read_at : (rows : List Street) (streets : List Street) (k : ℕ) (d : Street) → rows ≡ streets → k < length rows → slice_get streets k ≡ Some (get_or rows k d)
read_at [] streets k d is within = absurd (omega (arith, within))
read_at (row ∷ rows) [] k d is within = absurd cc
read_at (row ∷ rows) (street ∷ streets) zero d is within = let same : row ≡ street = cc in ap Some (sym same)
read_at (row ∷ rows) (street ∷ streets) (suc k) d is within =
    let rest : rows ≡ streets = cc in
    read_at rows streets k d rest (omega (arith, within))

same_some : (a b : Street) → Some a ≡ Some b → a ≡ b
same_some a b is = cc

by_index : (game : tables.Game) (k : ℕ) (row : Street) → k < 5 → slice_get (map (street_at game) (1 ∷ 2 ∷ 3 ∷ 4 ∷ 5 ∷ [])) k ≡ Some row → row ≡ unwrap_or (slice_get game.streets k) no_street
by_index game zero row within is = sym (same_some _ _ is)
by_index game (suc zero) row within is = sym (same_some _ _ is)
by_index game (suc (suc zero)) row within is = sym (same_some _ _ is)
by_index game (suc (suc (suc zero))) row within is = sym (same_some _ _ is)
by_index game (suc (suc (suc (suc zero)))) row within is = sym (same_some _ _ is)
by_index game (suc (suc (suc (suc (suc k))))) row within is = absurd (omega (arith, within))

-- the street at an index of the rows
pub row_is : (code : Code) (table : GameTable) (number k : ℕ) (d : Street) → IsTableOf (game_of code) table → number - 1 ≡ k → k < 5 → k < length table.rows → IsStreetOf code number (get_or table.rows k d)
row_is code table number k d is at within inside =
    same_street code number (get_or table.rows k d) (slice_get (game_of code).streets (number - 1)) refl
    (by_index (game_of code) k (get_or table.rows k d) within (read_at table.rows _ k d is.rows inside)
    ∙ ap (λ n. unwrap_or (slice_get (game_of code).streets n) no_street) (sym at))

five_streets : (code : Code) → length (game_of code).streets ≤ 5
five_streets games.FT = omega arith
five_streets _ = omega arith

-- after the fifth street nothing is dealt or drawn
pub past_last : (code : Code) (number : ℕ) (row : Street) → 5 ≤ number - 1 → row ≡ no_street → IsStreetOf code number row
past_last code number row past is =
    same_street code number row None (past_end (game_of code).streets (number - 1) (omega (arith, past, five_streets code))) is

pub five_rows : (rows : List Street) (game : tables.Game) → rows ≡ map (street_at game) (1 ∷ 2 ∷ 3 ∷ 4 ∷ 5 ∷ []) → length rows ≡ 5
five_rows rows game is = ap (λ (l : List Street). length l) is
