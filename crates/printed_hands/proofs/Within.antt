-- Tallies grow by no more than a seat can hold.
use Rattle.std.proofs.Common.{◌≡◌, ℕ, suc, ◌+◌, ◌-◌, ◌≤◌, ◌<◌, ◌==◌, Bool, true, false, cond, List, [], ◌∷◌, ◌++◌, length, ◌∙◌, map, bytes_eq, sym, ap, subst, arith}
use Rattle.std.specs.List.{range_with_len}
use Rattle.chip_ledger.specs.declared.seat_row.TheConstants.{MOST_AMOUNT}
use Rattle.printed_hands.specs.Report.{Hand, Seated}
use Rattle.printed_hands.specs.Tallies.{AreWithin, IsWithin, tally_at, with_hands, with_play, with_seat, with_seats}
use Rattle.printed_hands.specs.declared.tally.Tally.{Tally}
use Rattle.printed_hands.proofs.ReportRows.{at_row}

-- more seats leave the same room
pub wider : (few many : ℕ) (tally : Tally) → few ≤ many → IsWithin few tally → IsWithin many tally
wider few many tally more within = record {
  started = omega (arith, within.started, more);
  finished = omega (arith, within.finished, more);
  hands = omega (arith, within.hands, more);
}

few_hands : (b : Bool) (hands seats : ℕ) → hands ≤ seats → cond b hands (hands + 1) ≤ seats + 1
few_hands true hands seats few = omega (arith, few)
few_hands false hands seats few = omega (arith, few)

one_seat : (number seats : ℕ) (tally : Tally) (seat : Seated) (b : Bool) → seat.started ≤ MOST_AMOUNT → seat.finished ≤ MOST_AMOUNT
    → IsWithin seats tally → IsWithin (seats + 1) (cond b (with_seat number tally seat) tally)
one_seat number seats tally seat true started finished within = record {
  started = omega (arith, within.started, started);
  finished = omega (arith, within.finished, finished);
  hands = few_hands (tally.last == number) tally.hands seats within.hands;
}
one_seat number seats tally seat false started finished within = wider seats (seats + 1) tally (omega arith) within

-- rows with one more seat
pub within_row : (number seats : ℕ) (rows : List (List ℕ × Tally)) (seat : Seated) → seat.started ≤ MOST_AMOUNT → seat.finished ≤ MOST_AMOUNT
    → AreWithin seats rows → AreWithin (seats + 1) (with_play number rows seat)
within_row number seats rows seat started finished within asked =
    subst (IsWithin (seats + 1)) (sym (at_row number rows seat asked))
    (one_seat number seats (tally_at rows asked) seat (bytes_eq asked seat.name) started finished (within asked))

-- no names
pub within_none : AreWithin 0 []
within_none asked = record { started = omega arith; finished = omega arith; hands = omega arith }

-- the seats that are left, from this one on
pub next_seat : (number : ℕ) (rows : List (List ℕ × Tally)) (seated : ℕ → Seated) (index seats : ℕ) → index < seats
    → with_seats number (with_play number rows (seated (index + 1))) (map seated (range_with_len (index + 1 + 1) (seats - (index + 1))))
    ≡ with_seats number rows (map seated (range_with_len (index + 1) (seats - index)))
next_seat number rows seated index seats within =
    let left : seats - index ≡ suc (seats - (index + 1)) = omega (arith, within) in
    ap (λ count. with_seats number rows (map seated (range_with_len (index + 1) count))) (sym left)

-- rows with one more hand
pub hands_more : (number : ℕ) (rows : List (List ℕ × Tally)) (hands : List Hand) (hand : Hand)
    → with_hands number rows (hands ++ hand ∷ []) ≡ with_seats (number + length hands) (with_hands number rows hands) hand.seats
hands_more number rows [] hand = ap (λ (n : ℕ). with_seats n rows hand.seats) (omega arith)
hands_more number rows (first ∷ rest) hand =
    hands_more (number + 1) (with_seats number rows first.seats) rest hand
    ∙ ap (λ (n : ℕ). with_seats n (with_hands (number + 1) (with_seats number rows first.seats) rest) hand.seats) (omega arith)
