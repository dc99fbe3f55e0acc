-- The pots of a sound play can be stated.
use Rattle.std.proofs.Common.{◌≡◌, ℕ, zero, suc, ◌+◌, ◌-◌, ◌*◌, ◌<◌, ◌≤◌, List, [], ◌∷◌, length, map, sum_by, drop, slice_get, Option, inl, inr, refl, sym, ap, subst, ◌∙◌, arith}
use Rattle.std.specs.List.{range_with_len}
use Rattle.std.specs.Option.{option_map_or}
use Rattle.std.proofs.lemmas.Bool.{cases_lt}
use Rattle.std.proofs.lemmas.List.{length-map, length-take-le}
use Rattle.std.proofs.lemmas.List.Sums.{sum-map, sum_by-cons}
use Rattle.card_set.proofs.NumbersOfRange.{one_of_sum}
use Rattle.chip_ledger.specs.Fillers.{no_amounts}
use Rattle.chip_ledger.specs.PotRow.{plain, plain_pots, plain_shares, pots_in, shared_in, shares_in}
use Rattle.chip_ledger.specs.Pots.{PlainPot}
use Rattle.chip_ledger.specs.RakeRow.{rake_of}
use Rattle.chip_ledger.specs.Rakes.{chips_in, nets_from, nets_of}
use Rattle.chip_ledger.specs.SeatRow.{amount_of, total_of}
use Rattle.chip_ledger.specs.declared.numbers.TheConstants.{MOST_CHIPS}
use Rattle.chip_ledger.specs.declared.pots.Pot.{Pot}
use Rattle.chip_ledger.specs.declared.rakes.RakeRow.{RakeRow}
use Rattle.chip_ledger.specs.declared.seat_row.SeatRow.{SeatRow}
use Rattle.chip_ledger.specs.declared.seat_row.TheConstants.{MOST_AMOUNT}
use Rattle.play_event.specs.TraceCore.{core_of}
use Rattle.hand_canon.specs.LegalHand.{IsShareable, showdown_in}
use Rattle.hand_canon.specs.WholeTrace.{IsTraceOf}
use Rattle.hand_canon.specs.declared.trace.Trace.{Trace}
use Rattle.play_event.specs.Chips.{chips_put}
use Rattle.play_event.specs.Past.{Past, moves_of}
use Rattle.play_event.specs.CurrentBet.{all_chips_put}
use Rattle.play_event.specs.Seats.{all_seats}
use Rattle.play_event.specs.ValidSetup.{IsValid}
use Rattle.play_event.specs.declared.code.Code.{Code}
use Rattle.play_event.specs.declared.setup.Setup.{Setup}
use Rattle.trace_laws.proofs.ShareBounds.{shares_and_rakes}
use Rattle.trace_laws.proofs.TraceChips.{pots_and_returns}
use Rattle.variant_table.specs.Shares.{AllShared, Showdown}
use Rattle.ohh_writing.specs.Tree.{share_at}
use Rattle.ohh_format.proofs.PotsAgain.{HasPots, SharesFit, chips_of}
use Rattle.card_set.proofs.Entries.{taken_at, there}
use Rattle.chip_ledger.proofs.PlainPots.{no_chips_past}

-- ---- the chips together

sum_few : (f : ℕ → ℕ) (first many : ℕ) → ((seat : ℕ) → f seat ≤ MOST_CHIPS) → sum_by f (range_with_len first many) ≤ many * MOST_CHIPS
sum_few f first zero few = omega arith
sum_few f first (suc many) few =
    let split = sum_by-cons f first (range_with_len (first + 1) many) in
    omega (arith, split, few first, sum_few f (first + 1) many few)

-- ---- the same number of shares as pots

as_many : (code : Code) (showdown : Showdown) (pots : List PlainPot) (shares : List (ℕ → ℕ)) → AllShared code showdown pots shares → length pots ≡ length shares
as_many code showdown [] [] all = refl
as_many code showdown [] (share ∷ shares) all = absurd all
as_many code showdown (pot ∷ pots) [] all = absurd all
as_many code showdown (pot ∷ pots) (share ∷ shares) all = ap suc (as_many code showdown pots shares all.1)

nets_count : (number : ℕ) (rakes : RakeRow) (pots : List PlainPot) → length (nets_from number rakes pots) ≡ length pots
nets_count number rakes [] = refl
nets_count number rakes (pot ∷ pots) = ap suc (nets_count (suc number) rakes pots)

-- ---- one share

seat_less : (row : SeatRow) (seat : ℕ) → amount_of row seat ≤ total_of row
seat_less row zero = one_of_sum (amount_of row) 1 row.seats 1 (omega arith) (omega (arith, row.least))
seat_less row (suc seat) = elim (cases_lt row.seats (suc seat)) [
  | inl beyond ↦ let none = row.filler (suc seat - 1) (omega (arith, beyond)) in omega (arith, none)
  | inr within ↦ one_of_sum (amount_of row) 1 row.seats (suc seat) (omega arith) (omega (arith, within))
]

chips_at : (pots : List Pot) (k : ℕ) (pot : Pot) (rest : List Pot) → drop k pots ≡ pot ∷ rest → option_map_or (λ (p : PlainPot). p.chips) (slice_get (map plain pots) k) 0 ≡ pot.chips
chips_at [] zero pot rest is = absurd (cc (is))
chips_at [] (suc k) pot rest is = absurd (cc (is))
chips_at (first ∷ pots) zero pot rest is = let same : first ≡ pot = cc in ap (λ (p : Pot). p.chips) same
chips_at (first ∷ pots) (suc k) pot rest is = chips_at pots k pot rest is

drop_next : (pots : List Pot) (k : ℕ) (pot : Pot) (rest : List Pot) → drop k pots ≡ pot ∷ rest → drop (k + 1) pots ≡ rest
drop_next [] zero pot rest is = absurd (cc (is))
drop_next [] (suc k) pot rest is = absurd (cc (is))
drop_next (first ∷ pots) zero pot rest is = cc
drop_next (first ∷ pots) (suc k) pot rest is = let next : suc k + 1 ≡ suc (k + 1) = omega arith in ap (λ (n : ℕ). drop n (first ∷ pots)) next ∙ drop_next pots k pot rest is

drop_within : (pots : List Pot) (k : ℕ) (pot : Pot) (rest : List Pot) → drop k pots ≡ pot ∷ rest → k < length pots
drop_within [] zero pot rest is = absurd (cc (is))
drop_within [] (suc k) pot rest is = absurd (cc (is))
drop_within (first ∷ pots) zero pot rest is = omega arith
drop_within (first ∷ pots) (suc k) pot rest is = let behind = drop_within pots k pot rest is in omega (arith, behind)

module _ (setup : Setup) (past : Past) (trace : Trace) (valid : IsValid setup) (shareable : IsShareable setup (core_of setup past)) (is : IsTraceOf setup past trace) (puts : (seat : ℕ) → chips_put setup (moves_of past) seat ≤ MOST_CHIPS) where
  pot_count : length (pots_in trace.pots) ≡ trace.pots.count
  pot_count = length-take-le trace.pots.count trace.pots.pots (omega (arith, trace.pots.most, trace.pots.full))

  share_count : length (shares_in trace.shares) ≡ trace.shares.count
  share_count = length-take-le trace.shares.count trace.shares.shares (omega (arith, trace.shares.most, trace.shares.full))

  total_few : chips_of (pots_in trace.pots) ≤ MOST_AMOUNT
  total_few =
      let all : all_chips_put setup (moves_of past) ≤ setup.stacks.seats * MOST_CHIPS =
      (let same = sum-map (chips_put setup (moves_of past)) (all_seats setup) in omega (arith, same, sum_few (chips_put setup (moves_of past)) 1 setup.stacks.seats puts)) in
      let ten : setup.stacks.seats * MOST_CHIPS ≤ 10 * MOST_CHIPS = omega (arith, setup.stacks.greatest) in
      omega (arith, pots_and_returns setup past trace is, all, ten)

  same_count : trace.shares.count ≡ trace.pots.count
  same_count =
      let said : (core_of setup past).pots ≡ plain_pots trace.pots = ap (λ core. core.pots) (sym is.core) in
      let counted = as_many setup.code (showdown_in setup (core_of setup past)) (nets_of setup.rakes (core_of setup past).pots) (plain_shares trace.shares) is.shares.shared in
      let nets = nets_count 1 setup.rakes (core_of setup past).pots in
      omega (arith, counted, nets, ap length said, length-map (pots_in trace.pots) plain, length-map (shares_in trace.shares) amount_of, pot_count, share_count)

  one_fits : (place : ℕ) (pot : Pot) (rest : List Pot) → drop place (pots_in trace.pots) ≡ pot ∷ rest → (seat : ℕ) → amount_of (share_at trace place) seat ≤ pot.chips
  one_fits place pot rest at seat =
      let within = drop_within (pots_in trace.pots) place pot rest at in
      let index : place + 1 - 1 ≡ place = omega arith in
      let in_row : place < length (shares_in trace.shares) = omega (arith, within, pot_count, share_count, same_count) in
      let share : shared_in trace.shares (place + 1) ≡ total_of (share_at trace place) =
      ap (λ (k : ℕ). option_map_or total_of (slice_get (shares_in trace.shares) k) 0) index
      ∙ ap (λ (found : Option SeatRow). option_map_or total_of found 0) (there (shares_in trace.shares) place no_amounts in_row)
      ∙ ap total_of (taken_at trace.shares.count trace.shares.shares place no_amounts (omega (arith, in_row, share_count))) in
      let chips : chips_in (plain_pots trace.pots) (place + 1) ≡ pot.chips =
      ap (λ (k : ℕ). option_map_or (λ (p : PlainPot). p.chips) (slice_get (plain_pots trace.pots) k) 0) index ∙ chips_at (pots_in trace.pots) place pot rest at in
      omega (arith, shares_and_rakes setup past trace shareable is (place + 1), share, chips, seat_less (share_at trace place) seat)

  all_fit : (place : ℕ) (pots : List Pot) → drop place (pots_in trace.pots) ≡ pots → SharesFit trace place pots
  all_fit place [] at = tt
  all_fit place (pot ∷ rest) at = (one_fits place pot rest at, all_fit (place + 1) rest (drop_next (pots_in trace.pots) place pot rest at))

  no_more : (pot : ℕ) → trace.pots.count < pot → rake_of setup.rakes pot ≡ 0
  no_more pot late =
      let none : chips_in (plain_pots trace.pots) pot ≡ 0 = no_chips_past (plain_pots trace.pots) (pot - 1) (omega (arith, late, pot_count, length-map (pots_in trace.pots) plain)) in
      omega (arith, shares_and_rakes setup past trace shareable is pot, none)

  pub has_pots : HasPots trace
  has_pots =
      record {
        total = total_few;
        same_count = same_count;
        fit = all_fit 0 (pots_in trace.pots) refl;
        rakes = λ pot. subst (λ (s : Setup). rake_of s.rakes pot ≤ MOST_AMOUNT) (sym is.same_setup) (valid.rakes pot);
        no_more_rakes = λ pot late. subst (λ (s : Setup). rake_of s.rakes pot ≡ 0) (sym is.same_setup) (no_more pot late);
      }
