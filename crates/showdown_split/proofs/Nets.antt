-- The nets of pots, one pot after another, and what their shares and rakes add up to.
use Rattle.std.proofs.Common.{◌≡◌, ◌<◌, ◌≤◌, ◌+◌, ◌-◌, ℕ, zero, suc, List, [], ◌∷◌, ◌++◌, length, length-take, map, take, get_or, slice_get, slice_index, subst, sym, ◌∙◌, ap, arith}
use Rattle.std.specs.Option.{option_map, option_map_or}
use Rattle.std.proofs.lemmas.List.{length-map, map-append}
use Rattle.std.proofs.lemmas.Option.{slice_get-get_or, slice_get-map}
use Rattle.chip_ledger.specs.declared.pots.Pot.{Pot}
use Rattle.chip_ledger.specs.declared.rakes.RakeRow.{RakeRow}
use Rattle.chip_ledger.specs.declared.seat_row.SeatRow.{SeatRow}
use Rattle.chip_ledger.specs.PotRow.{plain}
use Rattle.chip_ledger.specs.Pots.{PlainPot}
use Rattle.chip_ledger.specs.RakeRow.{rake_of}
use Rattle.chip_ledger.specs.Rakes.{HaveRakes, chips_in, less_rake, nets_from, nets_of}
use Rattle.chip_ledger.specs.SeatRow.{total_of}
use Rattle.showdown_split.proofs.Splitting.{plain_more}
use Rattle.card_set.proofs.Lists.{same_first, same_rest}

-- one more pot
nets_push : (number : ℕ) (rakes : RakeRow) (pots : List PlainPot) (pot : PlainPot)
    → nets_from number rakes (pots ++ pot ∷ []) ≡ nets_from number rakes pots ++ less_rake (rake_of rakes (number + length pots)) pot ∷ []
nets_push number rakes [] pot =
    let here : number ≡ number + 0 = omega arith in
    ap (λ (n : ℕ). less_rake (rake_of rakes n) pot ∷ []) here
nets_push number rakes (p ∷ pots) pot =
    let later : suc number + length pots ≡ number + length (p ∷ pots) = omega arith in
    ap (λ (nets : List PlainPot). less_rake (rake_of rakes number) p ∷ nets)
    (nets_push (suc number) rakes pots pot ∙ ap (λ (n : ℕ). nets_from (suc number) rakes pots ++ less_rake (rake_of rakes n) pot ∷ []) later)

pub nets_more : (rakes : RakeRow) (items : List Pot) (i count : ℕ) (pot net : Pot)
    → i < length items
    → pot ≡ get_or items i pot
    → count ≡ i
    → plain net ≡ less_rake (slice_index rakes.rakes count) (plain pot)
    → nets_of rakes (map plain (take (i + 1) items)) ≡ nets_of rakes (map plain (take i items)) ++ plain net ∷ []
nets_more rakes items i count pot net inside is same less =
    let before = map plain (take i items) in
    let long = length-map (take i items) plain in
    let taken = length-take i items in
    let at : 1 + length before - 1 ≡ count = omega arith in
    ap (nets_of rakes) (plain_more items i pot inside is)
    ∙ nets_push 1 rakes before (plain pot)
    ∙ ap (λ (k : ℕ). nets_of rakes before ++ less_rake (slice_index rakes.rakes k) (plain pot) ∷ []) at
    ∙ ap (λ (p : PlainPot). nets_of rakes before ++ p ∷ []) (sym less)

-- a pot has the chips for its rake
pub rake_within : (rakes : RakeRow) (items : List Pot) (i count : ℕ) (pot : Pot)
    → HaveRakes (map plain items) rakes
    → i < length items
    → pot ≡ get_or items i pot
    → count ≡ i
    → slice_index rakes.rakes count ≤ pot.chips
rake_within rakes items i count pot have inside is same =
    let at : i + 1 - 1 ≡ i = omega arith in
    let chips : chips_in (map plain items) (i + 1) ≡ pot.chips =
    ap (λ (k : ℕ). option_map_or (λ (p : PlainPot). p.chips) (slice_get (map plain items) k) 0) at
    ∙ ap (λ p. option_map_or (λ (p : PlainPot). p.chips) p 0) (slice_get-map plain items i)
    ∙ ap (λ p. option_map_or (λ (p : PlainPot). p.chips) (option_map plain p) 0) (slice_get-get_or items i pot inside)
    ∙ ap (λ (p : Pot). p.chips) (sym is) in
    let rake : rake_of rakes (i + 1) ≡ slice_index rakes.rakes count = ap (slice_index rakes.rakes) (omega arith) in
    omega (arith, have (i + 1), chips, rake)

-- the totals of the shares, with one more
pub totals_more : (rows new : List SeatRow) (row : SeatRow) (nets more : List PlainPot) (net : PlainPot)
    → new ≡ rows ++ row ∷ []
    → more ≡ nets ++ net ∷ []
    → total_of row ≡ net.chips
    → map total_of rows ≡ map (λ (p : PlainPot). p.chips) nets
    → map total_of new ≡ map (λ (p : PlainPot). p.chips) more
totals_more rows new row nets more net pushed next total totals =
    ap (map total_of) pushed
    ∙ map-append total_of rows (row ∷ [])
    ∙ ap (λ (xs : List ℕ). xs ++ total_of row ∷ []) totals
    ∙ ap (λ (n : ℕ). map (λ (p : PlainPot). p.chips) nets ++ n ∷ []) total
    ∙ sym (map-append (λ (p : PlainPot). p.chips) nets (net ∷ []))
    ∙ ap (map (λ (p : PlainPot). p.chips)) (sym next)

-- each pot's shares and its rake are its chips, and past the last pot there is neither
conserved_from : (first : ℕ) (rakes : RakeRow) (pots : List PlainPot) (rows : List SeatRow) (k : ℕ)
    → map total_of rows ≡ map (λ (p : PlainPot). p.chips) (nets_from first rakes pots)
    → rake_of rakes (first + k) ≤ option_map_or (λ (p : PlainPot). p.chips) (slice_get pots k) 0
    → option_map_or total_of (slice_get rows k) 0 + rake_of rakes (first + k) ≡ option_map_or (λ (p : PlainPot). p.chips) (slice_get pots k) 0
conserved_from first rakes [] [] k totals have = omega (arith, have)
conserved_from first rakes [] (r ∷ rows) k totals have = absurd (cc (totals))
conserved_from first rakes (p ∷ pots) [] k totals have = absurd (cc (totals))
conserved_from first rakes (p ∷ pots) (r ∷ rows) zero totals have =
    let here : first + 0 ≡ first = omega arith in
    omega (arith, have, ap (rake_of rakes) here, same_first (total_of r) (p.chips - rake_of rakes first) (map total_of rows) (map (λ (q : PlainPot). q.chips) (nets_from (suc first) rakes pots)) totals)
conserved_from first rakes (p ∷ pots) (r ∷ rows) (suc k) totals have =
    let later : suc first + k ≡ first + suc k = omega arith in
    subst (λ (n : ℕ). option_map_or total_of (slice_get rows k) 0 + rake_of rakes n ≡ option_map_or (λ (q : PlainPot). q.chips) (slice_get pots k) 0) later
    (conserved_from (suc first) rakes pots rows k (same_rest (total_of r) (p.chips - rake_of rakes first) (map total_of rows) (map (λ (q : PlainPot). q.chips) (nets_from (suc first) rakes pots)) totals)
    (subst (λ (n : ℕ). rake_of rakes n ≤ option_map_or (λ (q : PlainPot). q.chips) (slice_get pots k) 0) (sym later) have))

pub conserved : (rakes : RakeRow) (pots : List PlainPot) (rows : List SeatRow) (number : ℕ)
    → HaveRakes pots rakes
    → map total_of rows ≡ map (λ (p : PlainPot). p.chips) (nets_of rakes pots)
    → option_map_or total_of (slice_get rows (number - 1)) 0 + rake_of rakes number ≡ chips_in pots number
conserved rakes pots rows number have totals =
    let k = number - 1 in
    let at : 1 + k - 1 ≡ k = omega arith in
    let rake : rake_of rakes (1 + k) ≡ rake_of rakes number = ap (slice_index rakes.rakes) at in
    omega (arith, conserved_from 1 rakes pots rows k totals (omega (arith, rake, have number)), rake)
