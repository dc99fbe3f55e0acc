-- The first rake that is more than its pot, looked for pot by pot.
use Rattle.std.proofs.Common.{◌≡◌, ◌<◌, ◌≤◌, ◌+◌, ◌-◌, ℕ, Bool, find, List, length, get_or, slice_get, slice_index, Option, Some, None, nat_lt, sym, ◌∙◌, ap, arith, ⊎_elim}
use Rattle.std.specs.List.{range_with_len}
use Rattle.std.specs.Option.{option_map, option_map_or}
use Rattle.std.proofs.lemmas.Bool.{cases_lt, ltb-false}
use Rattle.std.proofs.lemmas.List.{get_or_past, get_or-take, length-take-le}
use Rattle.std.proofs.lemmas.Option.{slice_get-get_or, slice_get-map, slice_get_past}
use Rattle.chip_ledger.specs.declared.pots.Pot.{Pot}
use Rattle.chip_ledger.specs.declared.pots.PotRow.{PotRow}
use Rattle.chip_ledger.specs.declared.rakes.RakeRow.{RakeRow}
use Rattle.chip_ledger.specs.PotRow.{plain, plain_pots, pots_in}
use Rattle.chip_ledger.specs.Pots.{PlainPot}
use Rattle.chip_ledger.specs.RakeRow.{rake_of}
use Rattle.chip_ledger.specs.Rakes.{HaveRakes, chips_in, first_rake_above}
use Rattle.card_set.proofs.NumbersOfRange.{find_nothing}

-- the rake of a pot is more than its chips
abbrev pub is_above : List PlainPot → RakeRow → ℕ → Bool
is_above pots rakes number = nat_lt (chips_in pots number) (rake_of rakes number)

-- if none is found, each pot has the chips for its rake
pub have_rakes : (pots : List PlainPot) (rakes : RakeRow) → first_rake_above rakes pots ≡ None → HaveRakes pots rakes
have_rakes pots rakes none number =
    ⊎_elim
    (λ (l : number - 1 < 11).
    let fits = find_nothing (is_above pots rakes) 1 11 none (number - 1 + 1) (omega arith) (omega (arith, l)) in
    let same : number - 1 + 1 - 1 ≡ number - 1 = omega arith in
    let chips : chips_in pots (number - 1 + 1) ≡ chips_in pots number = ap (λ k. option_map_or (λ (p : PlainPot). p.chips) (slice_get pots k) 0) same in
    let rake : rake_of rakes (number - 1 + 1) ≡ rake_of rakes number = ap (slice_index rakes.rakes) same in
    omega (arith, ltb-false (chips_in pots (number - 1 + 1)) (rake_of rakes (number - 1 + 1)) fits, chips, rake))
    (λ (l : 11 ≤ number - 1).
    let past : rake_of rakes number ≡ 0 = nothing_past (omega (arith, l, rakes.full)) in
    omega (arith, past))
    (cases_lt (number - 1) 11)
  where
    nothing_past : length rakes.rakes ≤ number - 1 → rake_of rakes number ≡ 0
    nothing_past past = get_or_past rakes.rakes (number - 1) 0 past

-- past the last pot of a row nothing is left to look at
pub at_end : (test : ℕ → Bool) (index : ℕ) → 11 ≤ index → find test (range_with_len (index + 1) (11 - index)) ≡ None
at_end test index past =
    let none : 11 - index ≡ 0 = omega arith in
    ap (λ n. find test (range_with_len (index + 1) n)) none

-- the chips of the pot at an index
pub chips_at_index : (row : PotRow) (index : ℕ) (d : Pot) → index < row.count → (get_or row.pots index d).chips ≡ chips_in (plain_pots row) (index + 1)
chips_at_index row index d inside =
    let at : index ≡ index + 1 - 1 = omega arith in
    let chips : Option PlainPot → ℕ = λ p. option_map_or (λ (q : PlainPot). q.chips) p 0 in
    let long = length-take-le row.count row.pots in
    let here : slice_get (pots_in row) index ≡ Some (get_or (pots_in row) index d) =
    slice_get-get_or (pots_in row) index d (omega (arith, inside, long (omega (arith, row.most, row.full)))) in
    ap (λ (p : Pot). p.chips) (sym (get_or-take row.count row.pots index d inside))
    ∙ ap (λ p. chips (option_map plain p)) (sym here)
    ∙ ap chips (sym (slice_get-map plain (pots_in row) index))
    ∙ ap (λ k. chips (slice_get (plain_pots row) k)) at

pub no_chips_at : (row : PotRow) (index : ℕ) → row.count ≤ index → 0 ≡ chips_in (plain_pots row) (index + 1)
no_chips_at row index past =
    let at : index ≡ index + 1 - 1 = omega arith in
    let chips : Option PlainPot → ℕ = λ p. option_map_or (λ (q : PlainPot). q.chips) p 0 in
    let long = length-take-le row.count row.pots in
    let none : slice_get (pots_in row) index ≡ None = slice_get_past (pots_in row) index (omega (arith, past, long (omega (arith, row.most, row.full)))) in
    ap (λ p. chips (option_map plain p)) (sym none)
    ∙ ap chips (sym (slice_get-map plain (pots_in row) index))
    ∙ ap (λ k. chips (slice_get (plain_pots row) k)) at
