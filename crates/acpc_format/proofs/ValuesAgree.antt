-- The values that a line states are those of the trace, so no statement differs.
use Rattle.std.proofs.Common.{◌≡◌, ℕ, zero, suc, ◌+◌, ◌-◌, ◌≤◌, ◌<◌, ℤ, pos, true, false, List, [], ◌++◌, map, find, get_or, length, if◌then◌else◌, Option, Some, None, is_some, refl, sym, ap, ◌∙◌, arith, true≢false}
use Rattle.std.specs.List.{range_with_len}
use Rattle.std.specs.Option.{option_map_or}
use Rattle.std.proofs.lemmas.List.{get_or-take, length-map, length-take-le}
use Rattle.std.proofs.lemmas.List.FromFn.{length-range_with_len}
use Rattle.play_event.specs.Seats.{all_seats}
use Rattle.hand_canon.specs.NetRow.{net_of}
use Rattle.hand_canon.specs.declared.record.NetRow.{NetRow}
use Rattle.hand_canon.specs.declared.record.Stated.{Stated}
use Rattle.hand_canon.specs.declared.trace.Trace.{Trace}
use Rattle.hand_canon.specs.Agreement.{Comparison, finish_compared, first_difference, is_different, seats_compared, total_compared, value_compared, value_of, win_compared}
use Rattle.acpc_reading.specs.RecordView.{StatesValues}
use Rattle.acpc_reading.specs.Views.{nets_in}
use Rattle.card_set.proofs.Integers.{not_different}
use Rattle.card_set.proofs.NumbersOfRange.{mapped_at}

-- if no number differs, no difference is found
none_differ : (compared : ℕ → Comparison) (first count : ℕ) → ((seat : ℕ) → first ≤ seat → seat < first + count → is_different (compared seat) ≡ false) → find is_different (map compared (range_with_len first count)) ≡ None
none_differ compared first zero same = refl
none_differ compared first (suc count) same =
    ap (λ b. if b then Some (compared first) else find is_different (map compared (range_with_len (first + 1) count))) (same first (omega arith) (omega arith))
    ∙ none_differ compared (first + 1) count (λ seat from to. same seat (omega (arith, from)) (omega (arith, to)))

-- the values of a row
row_agrees : (trace : Trace) (row : NetRow) → nets_in row ≡ map (value_of trace) (all_seats trace.setup) → find is_different (map (value_compared trace row) (all_seats trace.setup)) ≡ None
row_agrees trace row same =
    let seats = trace.setup.stacks.seats in
    none_differ (value_compared trace row) 1 seats (λ seat from to.
    let within : seat - 1 < seats = omega (arith, from, to) in
    let here : seat - 1 < row.seats = inside seat within in
    let number : 1 + (seat - 1) ≡ seat = omega (arith, from) in
    not_different (net_of row seat) (value_of trace seat)
    (sym (get_or-take row.seats row.nets (seat - 1) (pos 0) here)
    ∙ ap (λ (l : List ℤ). get_or l (seat - 1) (pos 0)) same
    ∙ mapped_at (value_of trace) (pos 0) 1 seats (seat - 1) within
    ∙ ap (value_of trace) number))
  where
    count : row.seats ≡ trace.setup.stacks.seats
    count =
        sym (length-take-le row.seats row.nets (omega (arith, row.greatest, row.full)))
        ∙ ap (λ (l : List ℤ). length l) same
        ∙ length-map (all_seats trace.setup) (value_of trace)
        ∙ length-range_with_len 1 trace.setup.stacks.seats

    inside : (seat : ℕ) → seat - 1 < trace.setup.stacks.seats → seat - 1 < row.seats
    inside seat within = omega (arith, within, count)

some_agrees : (trace : Trace) (values : Option NetRow) → is_some values ≡ true → option_map_or nets_in values [] ≡ map (value_of trace) (all_seats trace.setup) → find is_different (seats_compared trace value_compared values) ≡ None
some_agrees trace None some same = absurd (true≢false (sym some))
some_agrees trace (Some row) some same = row_agrees trace row same

-- so no statement differs
pub values_agree : (trace : Trace) (stated : Stated) → StatesValues stated → option_map_or nets_in stated.values [] ≡ map (value_of trace) (all_seats trace.setup) → first_difference trace stated ≡ None
values_agree trace stated states same =
    let values = seats_compared trace value_compared stated.values in
    ap (λ finish. find is_different (seats_compared trace finish_compared finish ++ (seats_compared trace win_compared stated.wins ++ (total_compared trace stated.pot_total ++ values)))) states.finish
    ∙ ap (λ wins. find is_different (seats_compared trace win_compared wins ++ (total_compared trace stated.pot_total ++ values))) states.wins
    ∙ ap (λ total. find is_different (total_compared trace total ++ values)) states.pot_total
    ∙ some_agrees trace stated.values states.values same
