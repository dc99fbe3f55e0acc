use Rattle.std.proofs.Common.{◌≡◌, ◌+◌, true, [], nat_le, length}
use Rattle.std.specs.List.{list_all}
use Rattle.first_fault.specs.Digits.{are_digits}
use Rattle.acpc_game.specs.GameEntries.{numbers_after}
use Rattle.acpc_game.specs.Keys.{most_of}
use Rattle.acpc_game.proofs.lines.read_numbers.Given as goal
use Rattle.first_fault.specs.Words.{words_of}

-- the numbers so far and those of the words that are left are all of them
abbrev pub invariant-loop-word : goal.invariant-loop-word
invariant-loop-word l = record {
  digits : list_all are_digits (words_of l.rest) ≡ true;
  count : length l.numbers.items + length (words_of l.rest) ≡ length (words_of l.fn.text);
  bounded : list_all (λ number. nat_le number (most_of l.key)) l.numbers.items ≡ true;
  read : numbers_after l.line (most_of l.key) l.numbers.items (words_of l.rest) ≡ numbers_after l.line (most_of l.key) [] (words_of l.fn.text);
}

abbrev pub decreases-loop-word : goal.decreases-loop-word
decreases-loop-word l = length l.rest
