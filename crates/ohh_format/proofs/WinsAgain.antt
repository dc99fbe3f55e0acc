-- What seats win of a pot that was written is what the pot states of them.
use Rattle.std.proofs.Common.{◌≡◌, ℕ, zero, suc, ◌+◌, ◌<◌, ◌≤◌, Bool, true, false, cond, ◌==◌, nat_lt, ℤ, pos, List, [], ◌∷◌, ◌++◌, map, filter, sum_by, Some, Ok, refl, sym, ap, ◌∙◌, arith, subst, append_assoc}
use Rattle.std.specs.List.{flat_map, range_with_len}
use Rattle.std.proofs.lemmas.Bool.{le-leb}
use Rattle.std.proofs.lemmas.Bool.Decides.{nat_tests}
use Rattle.std.proofs.lemmas.List.{append-nil}
use Rattle.std.proofs.lemmas.List.Elements.{filter-append}
use Rattle.serde_json.specs.Data.{Data}
use Rattle.chip_ledger.specs.declared.seat_row.SeatRow.{SeatRow}
use Rattle.chip_ledger.specs.declared.seat_row.TheConstants.{MOST_AMOUNT}
use Rattle.chip_ledger.specs.Seat.{seats_of}
use Rattle.chip_ledger.specs.SeatRow.{amount_of}
use Rattle.first_fault.specs.Reading.{added_from}
use Rattle.ohh_members.specs.Values.{required_value, number_said, integer_said, object_said, player_said, seat_from, seat_of}
use Rattle.ohh_reading.specs.Pots.{summed, win_added, win_said}
use Rattle.ohh_reading.specs.Won.{PlainWin, won_by}
use Rattle.ohh_format.proofs.SameNumbers.{other_number}
use Rattle.ohh_writing.specs.Tree.{win_object, win_tree}
use Rattle.card_set.proofs.Integers.{same_whole}

-- the ids that are written: 1, 2 and so on
abbrev pub ids_written : ℕ → List ℤ
ids_written count = map pos (seats_of count)

seat_again_from : (seat first count : ℕ) (same : Bool) → (seat == first) ≡ same → first ≤ seat → seat < first + count → seat_from first (pos seat) (map pos (range_with_len first count)) ≡ Some seat
seat_again_from seat first zero same is from below = absurd (omega (arith, from, below))
seat_again_from seat first (suc count) true is from below = let e : first ≡ seat = grind (arith, nat_tests) in rw (same_whole seat first (sym e)) (ap Some e)
seat_again_from seat first (suc count) false is from below =
    let later : first + 1 ≤ seat = grind (arith, nat_tests, from) in
    rw (other_number seat first (λ same. omega (arith, same, later))) (seat_again_from seat (first + 1) count (seat == first + 1) refl later (omega (arith, below)))

-- a player is named by its seat
pub seat_again : (seat count : ℕ) → 1 ≤ seat → seat ≤ count → seat_of (ids_written count) (pos seat) ≡ Some seat
seat_again seat count first last = seat_again_from seat 1 count (seat == 1) refl first (omega (arith, last))

-- what a seat wins of a pot, if it wins something
abbrev pub win_plain : SeatRow → ℕ → List PlainWin
win_plain share seat = cond (nat_lt 0 (amount_of share seat)) (record { seat = seat; chips = amount_of share seat } ∷ []) []

-- what these seats win of a pot
abbrev pub wins_plain : SeatRow → List ℕ → List PlainWin
wins_plain share seats = flat_map (win_plain share) seats

module _ (count : ℕ) (pot : ℕ) where
  pub win_again : (earlier : List PlainWin) (index seat amount : ℕ) → 1 ≤ seat → seat ≤ count → won_by seat earlier + amount ≤ MOST_AMOUNT
      → win_added (ids_written count) pot earlier index (win_object seat amount) ≡ Ok (earlier ++ record { seat = seat; chips = amount } ∷ [])
  unfolding win_added win_said object_said required_value player_said integer_said number_said summed
  win_again earlier index seat amount first last few =
      rw (seat_again seat count first last, le-leb 0 amount (omega arith), le-leb amount MOST_AMOUNT (omega (arith, few)), le-leb (won_by seat earlier + amount) MOST_AMOUNT few) refl

won_other : (seat other chips : ℕ) (earlier : List PlainWin) → other < seat → won_by seat (earlier ++ record { seat = other; chips = chips } ∷ []) ≡ won_by seat earlier
won_other seat other chips earlier below =
    let win : PlainWin = record { seat = other; chips = chips } in
    let apart : (other == seat) ≡ false = grind (arith, nat_tests, below) in
    let none : filter (λ (win : PlainWin). win.seat == seat) (win ∷ []) ≡ [] = ap (λ (b : Bool). cond b (win ∷ []) []) apart in
    ap (sum_by (λ (win : PlainWin). win.chips)) (filter-append (λ (win : PlainWin). win.seat == seat) earlier (win ∷ []) ∙ ap (λ (l : List PlainWin). filter (λ (win : PlainWin). win.seat == seat) earlier ++ l) none ∙ append-nil (filter (λ (win : PlainWin). win.seat == seat) earlier))

module _ (count : ℕ) (pot : ℕ) (share : SeatRow) where
  abbrev Few : ℕ → List PlainWin → Type 0
  Few first earlier = (seat : ℕ) → first ≤ seat → won_by seat earlier + amount_of share seat ≤ MOST_AMOUNT

  -- one more of these seats is read
  wins_step : (earlier : List PlainWin) (index seat : ℕ) (rest : List Data) (found : List PlainWin) (wins : Bool)
      → nat_lt 0 (amount_of share seat) ≡ wins → 1 ≤ seat → seat ≤ count → Few seat earlier
      → ((next : ℕ) (so_far : List PlainWin) → Few (seat + 1) so_far → added_from (win_added (ids_written count) pot) so_far next rest ≡ Ok (so_far ++ found))
      → added_from (win_added (ids_written count) pot) earlier index (cond wins (win_object seat (amount_of share seat) ∷ []) [] ++ rest)
      ≡ Ok (earlier ++ (cond wins (record { seat = seat; chips = amount_of share seat } ∷ []) [] ++ found))
  unfolding added_from
  wins_step earlier index seat rest found true is first last few more =
      let win : PlainWin = record { seat = seat; chips = amount_of share seat } in
      let next : Few (seat + 1) (earlier ++ win ∷ []) =
      λ other from. subst (λ (n : ℕ). n + amount_of share other ≤ MOST_AMOUNT) (sym (won_other other seat (amount_of share seat) earlier (omega (arith, from)))) (few other (omega (arith, from))) in
      rw (win_again count pot earlier index seat (amount_of share seat) first last (few seat (omega arith)))
      (more (index + 1) (earlier ++ win ∷ []) next ∙ ap Ok (append_assoc earlier (win ∷ []) found))
  wins_step earlier index seat rest found false is first last few more = more index earlier (λ other from. few other (omega (arith, from)))

  pub wins_again : (first many index : ℕ) (earlier : List PlainWin) → 1 ≤ first → first + many ≤ count + 1 → Few first earlier
      → added_from (win_added (ids_written count) pot) earlier index (flat_map (win_tree share) (range_with_len first many)) ≡ Ok (earlier ++ wins_plain share (range_with_len first many))
  unfolding added_from
  wins_again first zero index earlier from within few = ap Ok (sym (append-nil earlier))
  wins_again first (suc many) index earlier from within few =
      wins_step earlier index first (flat_map (win_tree share) (range_with_len (first + 1) many)) (wins_plain share (range_with_len (first + 1) many)) (nat_lt 0 (amount_of share first)) refl from (omega (arith, within)) few
      (λ next so_far less. wins_again (first + 1) many next so_far (omega (arith, from)) (omega (arith, within)) less)
