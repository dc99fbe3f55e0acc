use Rattle.std.proofs.Common.{◌≡◌, ◌++◌, take}
use Rattle.acpc_game.proofs.writing.push_numbers.Given as goal
use Rattle.chip_ledger.specs.AmountTexts.{spaced}

-- the numbers so far are written
abbrev pub invariant-loop-number : goal.invariant-loop-number
invariant-loop-number l = l.out.items ≡ l.fn.out.items ++ spaced (take l.number-index l.numbers)
