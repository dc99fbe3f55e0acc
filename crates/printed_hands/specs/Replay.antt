-- What the command `replay` prints for legal hands.
use Rattle.std.specs.Prelude.{ℕ, List}
use Rattle.hand_canon.specs.declared.trace.Play.{Play}
use Rattle.printed_hands.specs.Check.{each_hand}
use Rattle.printed_hands.specs.Steps.{replay_lines}

-- the lines of each hand
abbrev pub replay_said : List Play → List ℕ
replay_said plays = each_hand replay_lines 1 plays
