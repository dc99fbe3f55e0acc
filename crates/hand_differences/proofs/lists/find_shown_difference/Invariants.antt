use Rattle.std.proofs.Common.{◌≡◌, ◌+◌, ◌-◌, find, not}
use Rattle.std.specs.List.{range_with_len}
use Rattle.chip_ledger.specs.LiveRow.{flag_of}
use Rattle.chip_ledger.specs.Seat.{seats_of}
use Rattle.hand_differences.specs.SameParts.{is_same_test}
use Rattle.hand_differences.proofs.lists.find_shown_difference.Given as goal

-- the first seat is one of those to come
abbrev pub invariant-loop-index : goal.invariant-loop-index
invariant-loop-index l =
    find (λ seat. not (is_same_test (flag_of l.shown seat) (flag_of l.others seat))) (range_with_len (l.index + 1) (l.shown.seats - l.index))
    ≡ find (λ seat. not (is_same_test (flag_of l.shown seat) (flag_of l.others seat))) (seats_of l.shown.seats)
