-- The pots of a hand that were written state the pots, the rakes and the wins of the trace.
use Rattle.std.proofs.Common.{◌≡◌, ℕ, zero, suc, ◌+◌, ◌<◌, ◌≤◌, ◌==◌, Bool, true, false, cond, nat_lt, List, [], ◌∷◌, ◌++◌, length, map, filter, sum_by, get_or, take, drop, Option, Some, None, ℤ, pos, Result, Ok, refl, sym, ap, ap₂, ◌∙◌, arith, append_assoc, inl, inr}
use Rattle.std.specs.List.{flat_map, range_with_len}
use Rattle.std.proofs.lemmas.Bool.{cases_lt, le-leb, le-ltb, lt-leb, lt-ltb, ltb-false, ltb-true, ne_eqb}
use Rattle.std.proofs.lemmas.Bool.Decides.{nat_tests}
use Rattle.std.proofs.lemmas.List.{append-nil, drop_more, length-map, length-take-le}
use Rattle.std.proofs.lemmas.List.Elements.{filter-append}
use Rattle.std.proofs.lemmas.List.FromFn.{length-range_with_len}
use Rattle.std.proofs.lemmas.List.Sums.{sum_by-append, sum_by-cons}
use Rattle.serde_json.specs.Data.{Data}
use Rattle.card_set.proofs.NumbersOfRange.{map_agree}
use Rattle.chip_ledger.specs.Fillers.{no_amounts}
use Rattle.chip_ledger.specs.PotRow.{pots_in}
use Rattle.chip_ledger.specs.RakeRow.{rake_of}
use Rattle.chip_ledger.specs.Seat.{seats_of}
use Rattle.chip_ledger.specs.SeatRow.{amount_of}
use Rattle.chip_ledger.specs.declared.pots.Pot.{Pot}
use Rattle.chip_ledger.specs.declared.seat_row.SeatRow.{SeatRow}
use Rattle.chip_ledger.specs.declared.seat_row.TheConstants.{MOST_AMOUNT}
use Rattle.hand_canon.specs.Agreement.{pot_total_of, win_of}
use Rattle.hand_canon.specs.declared.trace.Trace.{Trace}
use Rattle.ohh_members.specs.declared.fault.MemberFault.{MemberFault}
use Rattle.ohh_members.specs.declared.fault.Path.TheVariants as paths
use Rattle.first_fault.specs.Reading.{added_from}
use Rattle.ohh_members.specs.Values.{list_said, member_at, number_said, object_said, required_value}
use Rattle.ohh_reading.specs.PotSums.{PlainListedPot, all_of, rake_at, rakes_said}
use Rattle.ohh_reading.specs.Pots.{PlainPaid, PlainPots, amount_said, listed_paid, no_pots, none_paid, pot_added, pots_said, rake_said, summed, wins_said}
use Rattle.ohh_reading.specs.Won.{PlainWin, won_by}
use Rattle.ohh_writing.specs.Tree.{pot_tree, pot_trees, share_at, win_tree}
use Rattle.ohh_writing.specs.Tree as tree
use Rattle.ohh_format.proofs.CardLists.{listed_again}
use Rattle.ohh_format.proofs.WinsAgain.{ids_written, wins_again, wins_plain}

-- ---- what a seat wins

won_both : (seat : ℕ) (some more : List PlainWin) → won_by seat (some ++ more) ≡ won_by seat some + won_by seat more
won_both seat some more =
    ap (sum_by (λ (win : PlainWin). win.chips)) (filter-append (λ (win : PlainWin). win.seat == seat) some more)
    ∙ sum_by-append (λ (win : PlainWin). win.chips) (filter (λ (win : PlainWin). win.seat == seat) some) (filter (λ (win : PlainWin). win.seat == seat) more)

module _ (share : SeatRow) where
  one_win : (seat other : ℕ) (same some : Bool) → (other == seat) ≡ same → nat_lt 0 (amount_of share other) ≡ some
      → won_by seat (cond some (record { seat = other; chips = amount_of share other } ∷ []) []) ≡ cond same (amount_of share other) 0
  one_win seat other true true e f = rw e (sum_by-cons (λ (win : PlainWin). win.chips) (record { seat = other; chips = amount_of share other }) [] ∙ omega arith)
  one_win seat other false true e f = rw e refl
  one_win seat other true false e f = omega (arith, ltb-false 0 (amount_of share other) f)
  one_win seat other false false e f = refl

  won_first : (seat first many : ℕ) → won_by seat (wins_plain share (range_with_len first (suc many))) ≡ cond (first == seat) (amount_of share first) 0 + won_by seat (wins_plain share (range_with_len (first + 1) many))
  won_first seat first many =
      let wins : List PlainWin = cond (nat_lt 0 (amount_of share first)) (record { seat = first; chips = amount_of share first } ∷ []) [] in
      won_both seat wins (wins_plain share (range_with_len (first + 1) many))
      ∙ ap (λ (n : ℕ). n + won_by seat (wins_plain share (range_with_len (first + 1) many))) (one_win seat first (first == seat) (nat_lt 0 (amount_of share first)) refl refl)

  won_none : (seat first many : ℕ) → seat < first → won_by seat (wins_plain share (range_with_len first many)) ≡ 0
  won_none seat first zero before = refl
  won_none seat first (suc many) before =
      let apart : cond (first == seat) (amount_of share first) 0 ≡ 0 = rw (ne_eqb first seat (λ same. omega (arith, same, before))) refl in
      omega (arith, won_first seat first many, apart, won_none seat (first + 1) many (omega (arith, before)))

  won_past : (seat first many : ℕ) → first + many ≤ seat → won_by seat (wins_plain share (range_with_len first many)) ≡ 0
  won_past seat first zero past = refl
  won_past seat first (suc many) past =
      let apart : cond (first == seat) (amount_of share first) 0 ≡ 0 = rw (ne_eqb first seat (λ same. omega (arith, same, past))) refl in
      omega (arith, won_first seat first many, apart, won_past seat (first + 1) many (omega (arith, past)))

  won_exact : (seat first many : ℕ) → first ≤ seat → seat < first + many → won_by seat (wins_plain share (range_with_len first many)) ≡ amount_of share seat
  won_exact seat first zero from within = absurd (omega (arith, from, within))
  won_exact seat first (suc many) from within = by_first (first == seat) refl (λ later. won_exact seat (first + 1) many later (omega (arith, within)))
    where
      by_first : (same : Bool) → (first == seat) ≡ same → (first + 1 ≤ seat → won_by seat (wins_plain share (range_with_len (first + 1) many)) ≡ amount_of share seat)
          → won_by seat (wins_plain share (range_with_len first (suc many))) ≡ amount_of share seat
      by_first true e later =
          let at : first ≡ seat = grind (arith, nat_tests) in
          let here : cond (first == seat) (amount_of share first) 0 ≡ amount_of share first = rw e refl in
          let none = won_none seat (first + 1) many (omega (arith, at)) in
          omega (arith, won_first seat first many, here, none, ap (amount_of share) at)
      by_first false e later =
          let none : cond (first == seat) (amount_of share first) 0 ≡ 0 = rw e refl in
          omega (arith, won_first seat first many, none, later (grind (arith, nat_tests, from)))

  won_most : (seat count : ℕ) → won_by seat (wins_plain share (seats_of count)) ≤ amount_of share seat
  won_most zero count = omega (arith, won_none 0 1 count (omega arith))
  won_most (suc seat) count = elim (cases_lt count (suc seat)) [
    | inl past ↦ omega (arith, won_past (suc seat) 1 count (omega (arith, past)))
    | inr within ↦ omega (arith, won_exact (suc seat) 1 count (omega arith) (omega (arith, within)))
  ]

-- ---- pots

-- what is read of a pot at a place
abbrev pub pot_plain : Trace → ℕ → Pot → PlainListedPot
pot_plain trace place pot = record { amount = pot.chips; rake = rake_of trace.setup.rakes (place + 1) }

abbrev pub pots_plain : Trace → ℕ → List Pot → List PlainListedPot
pots_plain trace place [] = []
pots_plain trace place (pot ∷ rest) = pot_plain trace place pot ∷ pots_plain trace (place + 1) rest

-- what is read of the wins of pots; the first is at this place
abbrev pub won_plain : Trace → ℕ → List Pot → List PlainWin
won_plain trace place [] = []
won_plain trace place (pot ∷ rest) = wins_plain (share_at trace place) (seats_of trace.setup.stacks.seats) ++ won_plain trace (place + 1) rest

-- what a seat wins of pots; the first is at this place
abbrev pub shares_from : Trace → ℕ → List Pot → ℕ → ℕ
shares_from trace place [] seat = 0
shares_from trace place (pot ∷ rest) seat = amount_of (share_at trace place) seat + shares_from trace (place + 1) rest seat

-- what a seat wins of each pot is no more than its chips
abbrev pub SharesFit : Trace → ℕ → List Pot → Type 0
SharesFit trace place [] = Unit {0}
SharesFit trace place (pot ∷ rest) = ((seat : ℕ) → amount_of (share_at trace place) seat ≤ pot.chips) × SharesFit trace (place + 1) rest

abbrev pub chips_of : List Pot → ℕ
chips_of pots = sum_by (λ (pot : Pot). pot.chips) pots

-- the pots of a trace can be stated
pub record HasPots (trace : Trace) : Type 0 where
  pub total : chips_of (pots_in trace.pots) ≤ MOST_AMOUNT
  pub same_count : trace.shares.count ≡ trace.pots.count
  pub fit : SharesFit trace 0 (pots_in trace.pots)
  pub rakes : (pot : ℕ) → rake_of trace.setup.rakes pot ≤ MOST_AMOUNT
  pub no_more_rakes : (pot : ℕ) → trace.pots.count < pot → rake_of trace.setup.rakes pot ≡ 0

module _ (trace : Trace) where
  abbrev count : ℕ
  count = trace.setup.stacks.seats

  abbrev ids : List ℤ
  ids = ids_written count

  rake_again : (place : ℕ) (pot : Pot) → place < 11 → ((pot : ℕ) → rake_of trace.setup.rakes pot ≤ MOST_AMOUNT) → rake_said place (pot_tree trace place pot) ≡ Ok (rake_of trace.setup.rakes (place + 1))
  unfolding rake_said number_said
  rake_again place pot few rakes =
      rw (le-leb 0 (rake_of trace.setup.rakes (place + 1)) (omega arith), le-leb (rake_of trace.setup.rakes (place + 1)) MOST_AMOUNT (rakes (place + 1)), lt-leb 11 place few) refl

  amount_again : (place : ℕ) (pot : Pot) (earlier : List PlainListedPot) → all_of earlier + pot.chips ≤ MOST_AMOUNT → amount_said earlier place (pot_tree trace place pot) ≡ Ok pot.chips
  unfolding amount_said required_value number_said summed
  amount_again place pot earlier few =
      rw (le-leb 0 pot.chips (omega arith), le-leb pot.chips MOST_AMOUNT (omega (arith, few)), le-leb (all_of earlier + pot.chips) MOST_AMOUNT few) refl

  won_again : (place : ℕ) (pot : Pot) (earlier : List PlainWin) → ((seat : ℕ) → won_by seat earlier + amount_of (share_at trace place) seat ≤ MOST_AMOUNT)
      → wins_said ids place earlier (pot_tree trace place pot) ≡ Ok (earlier ++ wins_plain (share_at trace place) (seats_of count))
  unfolding wins_said required_value list_said
  won_again place pot earlier few =
      rw (listed_again (flat_map (win_tree (share_at trace place)) (seats_of count)))
      (wins_again count place (share_at trace place) 1 count 0 earlier (omega arith) (omega arith) (λ seat from. few seat))

  one_pot : (place : ℕ) (pot : Pot) (earlier : PlainPots) → place < 11 → ((pot : ℕ) → rake_of trace.setup.rakes pot ≤ MOST_AMOUNT) → all_of earlier.pots + pot.chips ≤ MOST_AMOUNT
      → ((seat : ℕ) → won_by seat earlier.wins + amount_of (share_at trace place) seat ≤ MOST_AMOUNT)
      → pot_added ids earlier place (pot_tree trace place pot) ≡ Ok (record { pots = earlier.pots ++ pot_plain trace place pot ∷ []; wins = earlier.wins ++ wins_plain (share_at trace place) (seats_of count) })
  unfolding pot_added object_said
  one_pot place pot earlier few rakes total wins = rw (amount_again place pot earlier.pots total, rake_again place pot few rakes, won_again place pot earlier.wins wins) refl

  abbrev Found : Type 0
  Found = Result PlainPots MemberFault

  found : List PlainListedPot → List PlainWin → Found
  found pots wins = Ok (record { pots = pots; wins = wins })

  all_both : (some more : List PlainListedPot) → all_of (some ++ more) ≡ all_of some + all_of more
  all_both some more = sum_by-append (λ (pot : PlainListedPot). pot.amount) some more

  each_pot : (place : ℕ) (pots : List Pot) (earlier : PlainPots) → place + length pots ≤ 11 → ((pot : ℕ) → rake_of trace.setup.rakes pot ≤ MOST_AMOUNT) → all_of earlier.pots + chips_of pots ≤ MOST_AMOUNT
      → SharesFit trace place pots → ((seat : ℕ) → won_by seat earlier.wins ≤ all_of earlier.pots)
      → added_from (pot_added ids) earlier place (pot_trees trace place pots) ≡ found (earlier.pots ++ pots_plain trace place pots) (earlier.wins ++ won_plain trace place pots)
  unfolding added_from found
  each_pot place [] earlier few rakes total fit less = rw (append-nil earlier.pots, append-nil earlier.wins) refl
  each_pot place (pot ∷ rest) earlier few rakes total fit less =
      let split = sum_by-cons (λ (pot : Pot). pot.chips) pot rest in
      let plain : PlainListedPot = pot_plain trace place pot in
      let wins : List PlainWin = wins_plain (share_at trace place) (seats_of count) in
      let more : all_of (earlier.pots ++ plain ∷ []) ≡ all_of earlier.pots + pot.chips = all_both earlier.pots (plain ∷ []) ∙ ap (λ (n : ℕ). all_of earlier.pots + n) (sum_by-cons (λ (pot : PlainListedPot). pot.amount) plain [] ∙ omega arith) in
      rw (one_pot place pot earlier (omega (arith, few)) rakes (omega (arith, total, split)) (λ seat. omega (arith, less seat, fit.0 seat, total, split)))
      (each_pot (place + 1) rest (record { pots = earlier.pots ++ plain ∷ []; wins = earlier.wins ++ wins }) (omega (arith, few)) rakes (omega (arith, more, total, split)) fit.1
      (λ seat. omega (arith, more, won_both seat earlier.wins wins, less seat, won_most (share_at trace place) seat count, fit.0 seat))
      ∙ ap₂ found (append_assoc earlier.pots (plain ∷ []) (pots_plain trace (place + 1) rest)) (append_assoc earlier.wins wins (won_plain trace (place + 1) rest)))

  -- ---- their sums

  total_again : (place : ℕ) (pots : List Pot) → all_of (pots_plain trace place pots) ≡ chips_of pots
  total_again place [] = refl
  total_again place (pot ∷ rest) =
      sum_by-cons (λ (pot : PlainListedPot). pot.amount) (pot_plain trace place pot) (pots_plain trace (place + 1) rest)
      ∙ ap (λ (n : ℕ). pot.chips + n) (total_again (place + 1) rest)
      ∙ sym (sum_by-cons (λ (pot : Pot). pot.chips) pot rest)

  win_again : (seat place : ℕ) (pots : List Pot) → 1 ≤ seat → seat ≤ count → won_by seat (won_plain trace place pots) ≡ shares_from trace place pots seat
  win_again seat place [] low high = refl
  win_again seat place (pot ∷ rest) low high =
      won_both seat (wins_plain (share_at trace place) (seats_of count)) (won_plain trace (place + 1) rest)
      ∙ ap₂ (λ (a b : ℕ). a + b) (won_exact (share_at trace place) seat 1 count low (omega (arith, high))) (win_again seat (place + 1) rest low high)

  shares_are : (seat place : ℕ) (pots : List Pot) → place + length pots ≤ 11 → shares_from trace place pots seat ≡ sum_by (λ (share : SeatRow). amount_of share seat) (take (length pots) (drop place trace.shares.shares))
  shares_are seat place [] few = refl
  shares_are seat place (pot ∷ rest) few =
      let first = drop_more trace.shares.shares place no_amounts (omega (arith, few, trace.shares.full)) in
      sym (ap (λ (l : List SeatRow). sum_by (λ (share : SeatRow). amount_of share seat) (take (suc (length rest)) l)) first
      ∙ sum_by-cons (λ (share : SeatRow). amount_of share seat) (share_at trace place) (take (length rest) (drop (place + 1) trace.shares.shares))
      ∙ ap (λ (n : ℕ). amount_of (share_at trace place) seat + n) (sym (shares_are seat (place + 1) rest (omega (arith, few)))))

  rake_found : (place : ℕ) (pots : List Pot) (k : ℕ) → rake_at (pots_plain trace place pots) k ≡ cond (nat_lt k (length pots)) (rake_of trace.setup.rakes (place + k + 1)) 0
  rake_found place [] k = rw (le-ltb k 0 (omega arith)) refl
  rake_found place (pot ∷ rest) zero = rw (lt-ltb 0 (length (pot ∷ rest)) (omega arith)) (ap (rake_of trace.setup.rakes) (omega arith))
  rake_found place (pot ∷ rest) (suc k) = rake_found (place + 1) rest k ∙ by_more (nat_lt k (length rest)) refl
    where
      by_more : (more : Bool) → nat_lt k (length rest) ≡ more → cond more (rake_of trace.setup.rakes (place + 1 + k + 1)) 0 ≡ cond (nat_lt (suc k) (length (pot ∷ rest))) (rake_of trace.setup.rakes (place + suc k + 1)) 0
      by_more true e = rw (lt-ltb (suc k) (length (pot ∷ rest)) (omega (arith, ltb-true k (length rest) e))) (ap (rake_of trace.setup.rakes) (omega arith))
      by_more false e = rw (le-ltb (suc k) (length (pot ∷ rest)) (omega (arith, ltb-false k (length rest) e))) refl

  module _ (has : HasPots trace) where
    abbrev pots : List Pot
    pots = pots_in trace.pots

    pot_count : length pots ≡ trace.pots.count
    pot_count = length-take-le trace.pots.count trace.pots.pots (omega (arith, trace.pots.most, trace.pots.full))

    listed_from : (first many : ℕ) (xs : List ℕ) → length xs ≡ many → ((k : ℕ) → k < many → rake_at (pots_plain trace 0 pots) (first + k) ≡ get_or xs k 0) → map (rake_at (pots_plain trace 0 pots)) (range_with_len first many) ≡ xs
    listed_from first zero [] long each = refl
    listed_from first zero (x ∷ xs) long each = absurd (omega (arith, long))
    listed_from first (suc many) [] long each = absurd (omega (arith, long))
    listed_from first (suc many) (x ∷ xs) long each =
        let here : first + 0 ≡ first = omega arith in
        ap₂ (λ (y : ℕ) (ys : List ℕ). y ∷ ys) (ap (rake_at (pots_plain trace 0 pots)) (sym here) ∙ each 0 (omega arith))
        (listed_from (first + 1) many xs (omega (arith, long)) (λ k within. ap (rake_at (pots_plain trace 0 pots)) (omega arith) ∙ each (suc k) (omega (arith, within))))

    rakes_again : rakes_said (pots_plain trace 0 pots) ≡ trace.setup.rakes.rakes
    rakes_again = listed_from 0 11 trace.setup.rakes.rakes trace.setup.rakes.full (λ k within. rake_found 0 pots (0 + k) ∙ by_there k (nat_lt (0 + k) (length pots)) refl)
      where
        by_there : (k : ℕ) (there : Bool) → nat_lt (0 + k) (length pots) ≡ there → cond there (rake_of trace.setup.rakes (0 + (0 + k) + 1)) 0 ≡ get_or trace.setup.rakes.rakes k 0
        by_there k true e = ap (λ (n : ℕ). get_or trace.setup.rakes.rakes n 0) (omega arith)
        by_there k false e =
            let late : length pots ≤ 0 + k = ltb-false (0 + k) (length pots) e in
            sym (has.no_more_rakes (k + 1) (omega (arith, late, pot_count))) ∙ ap (λ (n : ℕ). get_or trace.setup.rakes.rakes n 0) (omega arith)

    wins_are : (seat : ℕ) → 1 ≤ seat → seat ≤ count → won_by seat (won_plain trace 0 pots) ≡ win_of trace seat
    wins_are seat low high =
        win_again seat 0 pots low high
        ∙ shares_are seat 0 pots (omega (arith, pot_count, trace.pots.most))
        ∙ ap (λ (n : ℕ). sum_by (λ (share : SeatRow). amount_of share seat) (take n trace.shares.shares)) (pot_count ∙ sym has.same_count)

    paid_found : Option Data → Result PlainPaid MemberFault
    paid_found (Some value) = listed_paid ids value
    paid_found None = Ok none_paid

    -- what is stated of the pots
    pub pots_again : (ohh : Data) → member_at paths.Pots ohh ≡ Some (tree.pots trace)
        → pots_said ids ohh ≡ Ok (record { wins = Some (map (win_of trace) (seats_of count)); total = Some (pot_total_of trace); rakes = trace.setup.rakes.rakes })
    unfolding pots_said listed_paid list_said paid_found found
    pots_again ohh is =
        let many : length ids ≡ count = length-map (seats_of count) pos ∙ length-range_with_len 1 count in
        let read : added_from (pot_added ids) no_pots 0 (pot_trees trace 0 pots) ≡ found (pots_plain trace 0 pots) (won_plain trace 0 pots) =
        each_pot 0 pots no_pots (omega (arith, pot_count, trace.pots.most)) has.rakes (omega (arith, has.total)) has.fit (λ seat. omega arith) in
        let wins : map (λ seat. won_by seat (won_plain trace 0 pots)) (seats_of count) ≡ map (win_of trace) (seats_of count) =
        map_agree (λ seat. won_by seat (won_plain trace 0 pots)) (win_of trace) 1 count (λ seat low within. wins_are seat low (omega (arith, within))) in
        ap paid_found is ∙ rw (listed_again (pot_trees trace 0 pots), read, many, wins, total_again 0 pots, rakes_again) refl
