use Rattle.std.proofs.Common.{◌≡◌, ◌+◌, ◌≤◌, length}
use Rattle.std.specs.List.{list_all}
use Rattle.first_fault.specs.Digits.{are_digits}
use Rattle.acpc_game.proofs.form.count_numbers.Given as goal
use Rattle.first_fault.specs.Words.{words_of}

-- the words so far are digits, and are counted
abbrev pub invariant-loop-word : goal.invariant-loop-word
invariant-loop-word l = record {
  few : l.count + length l.rest ≤ length l.fn.text;
  count : l.count + length (words_of l.rest) ≡ length (words_of l.fn.text);
  digits : list_all are_digits (words_of l.rest) ≡ list_all are_digits (words_of l.fn.text);
}

abbrev pub decreases-loop-word : goal.decreases-loop-word
decreases-loop-word l = length l.rest
