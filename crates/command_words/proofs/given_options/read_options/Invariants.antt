-- The options so far, with those of the words that are left, are those of all words.
use Rattle.std.proofs.Common.{◌≡◌, map, string_bytes, length}
use Rattle.command_words.specs.Requests.{options_in}
use Rattle.command_words.specs.GivenOptions.{no_options, options_said}
use Rattle.command_words.proofs.given_options.read_options.Given as goal

abbrev pub invariant-loop-word : goal.invariant-loop-word
invariant-loop-word l = record {
  left : options_said (options_in l.options) (map string_bytes l.rest) ≡ options_said no_options (map string_bytes l.fn.words);
}

abbrev pub decreases-loop-word : goal.decreases-loop-word
decreases-loop-word l = length l.rest
