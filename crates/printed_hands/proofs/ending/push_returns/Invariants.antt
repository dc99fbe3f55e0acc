-- The lines so far, and those of the seats that are left, are all of them.
use Rattle.std.proofs.Common.{◌≡◌, ◌+◌, ◌++◌, drop, string_bytes}
use Rattle.chip_ledger.specs.SeatRow.{amounts_in}
use Rattle.printed_hands.specs.Ending.{return_lines}
use Rattle.printed_hands.proofs.ending.push_returns.Given as goal

abbrev pub invariant-loop-index : goal.invariant-loop-index
invariant-loop-index l =
    string_bytes l.text ++ return_lines (l.index + 1) (drop l.index (amounts_in l.returned))
    ≡ string_bytes l.fn.text ++ return_lines 1 (amounts_in l.returned)
