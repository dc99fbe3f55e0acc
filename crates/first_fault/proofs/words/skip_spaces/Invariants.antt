use Rattle.std.proofs.Common.{◌≡◌, ◌≤◌, length}
use Rattle.first_fault.proofs.words.skip_spaces.Given as goal
use Rattle.first_fault.specs.Words.{words_of}

-- what is left has the words of the text
abbrev pub invariant-loop-rest : goal.invariant-loop-rest
invariant-loop-rest l = record {
  words : words_of l.rest ≡ words_of l.text;
  shorter : length l.rest ≤ length l.text;
}

abbrev pub decreases-loop-rest : goal.decreases-loop-rest
decreases-loop-rest l = length l.rest
