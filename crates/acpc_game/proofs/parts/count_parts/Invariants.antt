use Rattle.std.proofs.Common.{◌≡◌, ◌+◌, ◌≤◌, [], length}
use Rattle.std.specs.Option.{option_map_or}
use Rattle.acpc_game.specs.Parts.{parts_of}
use Rattle.acpc_game.proofs.parts.count_parts.Given as goal

-- the parts so far are counted
abbrev pub invariant-loop-rest : goal.invariant-loop-rest
invariant-loop-rest l = record {
  few : l.count + option_map_or (λ text. 1 + length text.now) l.rest 0 ≤ 1 + length l.fn.text;
  count : l.count + length (option_map_or (λ text. parts_of l.sign text.now) l.rest []) ≡ length (parts_of l.sign l.fn.text);
}

abbrev pub decreases-loop-rest : goal.decreases-loop-rest
decreases-loop-rest l = option_map_or (λ text. 1 + length text.now) l.rest 0
