-- The wins and the total of the pots that are read back are those of the trace, so nothing that is
-- stated differs.
use Rattle.std.proofs.Common.{◌≡◌, ℕ, zero, suc, ◌+◌, ◌-◌, ◌<◌, ◌≤◌, false, List, [], ◌++◌, map, find, get_or, length, if◌then◌else◌, Option, Some, None, option_map, refl, sym, ap, ◌∙◌, arith}
use Rattle.std.specs.List.{range_with_len}
use Rattle.std.proofs.lemmas.List.{get_or-take, length-map, length-take-le}
use Rattle.std.proofs.lemmas.List.FromFn.{length-range_with_len}
use Rattle.chip_ledger.specs.SeatRow.{amount_of, amounts_in}
use Rattle.chip_ledger.specs.declared.seat_row.SeatRow.{SeatRow}
use Rattle.play_event.specs.Seats.{all_seats}
use Rattle.hand_canon.specs.declared.record.NetRow.{NetRow}
use Rattle.hand_canon.specs.declared.record.Stated.{Stated}
use Rattle.hand_canon.specs.declared.trace.Trace.{Trace}
use Rattle.hand_canon.specs.Agreement.{Comparison, finish_compared, first_difference, is_different, pot_total_of, pots_compared, seats_compared, total_compared, value_compared, win_compared, win_of}
use Rattle.card_set.proofs.Integers.{not_different_whole}
use Rattle.card_set.proofs.NumbersOfRange.{mapped_at}

-- if no number differs, nothing is found except later
none_differ : (compared : ℕ → Comparison) (first count : ℕ) (rest : List Comparison) → ((seat : ℕ) → first ≤ seat → seat < first + count → is_different (compared seat) ≡ false)
    → find is_different (map compared (range_with_len first count) ++ rest) ≡ find is_different rest
none_differ compared first zero rest same = refl
none_differ compared first (suc count) rest same =
    ap (λ b. if b then Some (compared first) else find is_different (map compared (range_with_len (first + 1) count) ++ rest)) (same first (omega arith) (omega arith))
    ∙ none_differ compared (first + 1) count rest (λ seat from to. same seat (omega (arith, from)) (omega (arith, to)))

-- the wins of a row
module _ (trace : Trace) (row : SeatRow) (same : amounts_in row ≡ map (win_of trace) (all_seats trace.setup)) where
  abbrev seats : ℕ
  seats = trace.setup.stacks.seats

  count : row.seats ≡ seats
  count =
      sym (length-take-le row.seats row.amounts (omega (arith, row.greatest, row.full)))
      ∙ ap (λ (l : List ℕ). length l) same
      ∙ length-map (all_seats trace.setup) (win_of trace)
      ∙ length-range_with_len 1 seats

  win_is : (seat : ℕ) → 1 ≤ seat → seat < 1 + seats → amount_of row seat ≡ win_of trace seat
  win_is seat from to =
      let within : seat - 1 < seats = omega (arith, from, to) in
      let number : 1 + (seat - 1) ≡ seat = omega (arith, from) in
      sym (get_or-take row.seats row.amounts (seat - 1) 0 (omega (arith, within, count)))
      ∙ ap (λ (l : List ℕ). get_or l (seat - 1) 0) same
      ∙ mapped_at (win_of trace) 0 1 seats (seat - 1) within
      ∙ ap (win_of trace) number

  wins_agree : (rest : List Comparison) → find is_different (seats_compared trace win_compared (Some row) ++ rest) ≡ find is_different rest
  wins_agree rest = none_differ (win_compared trace row) 1 seats rest (λ seat from to. not_different_whole (amount_of row seat) (win_of trace seat) (win_is seat from to))

-- the total
total_agrees : (trace : Trace) → find is_different (total_compared trace (Some (pot_total_of trace)) ++ []) ≡ None
total_agrees trace =
    ap (λ b. if b then Some (pots_compared trace (pot_total_of trace)) else None) (not_different_whole (pot_total_of trace) (pot_total_of trace) refl)

-- what is read of the stated facts
some_wins : (trace : Trace) (wins : Option SeatRow) (rest : List Comparison) → option_map amounts_in wins ≡ Some (map (win_of trace) (all_seats trace.setup))
    → find is_different (seats_compared trace win_compared wins ++ rest) ≡ find is_different rest
some_wins trace None rest same = absurd (cc (same))
some_wins trace (Some row) rest same =
    let here : amounts_in row ≡ map (win_of trace) (all_seats trace.setup) = cc in
    wins_agree trace row here rest

no_finish : (finish : Option SeatRow) → option_map amounts_in finish ≡ None → finish ≡ None
no_finish None none = refl
no_finish (Some row) none = absurd (cc (none))

-- the wins and the total of a trace are stated, and no more
pub record StatesWins (trace : Trace) (stated : Stated) : Type 0 where
  pub finish : option_map amounts_in stated.finish ≡ None
  pub wins : option_map amounts_in stated.wins ≡ Some (map (win_of trace) (all_seats trace.setup))
  pub total : stated.pot_total ≡ Some (pot_total_of trace)
  pub values : stated.values ≡ None

-- so nothing that is stated differs
pub stated_agrees : (trace : Trace) (stated : Stated) → StatesWins trace stated → first_difference trace stated ≡ None
stated_agrees trace stated states =
    let values = seats_compared trace value_compared stated.values in
    ap (λ finish. find is_different (seats_compared trace finish_compared finish ++ (seats_compared trace win_compared stated.wins ++ (total_compared trace stated.pot_total ++ values)))) (no_finish stated.finish states.finish)
    ∙ some_wins trace stated.wins (total_compared trace stated.pot_total ++ values) states.wins
    ∙ ap (λ total. find is_different (total_compared trace total ++ values)) states.total
    ∙ ap (λ (v : Option NetRow). find is_different (total_compared trace (Some (pot_total_of trace)) ++ seats_compared trace value_compared v)) states.values
    ∙ total_agrees trace
