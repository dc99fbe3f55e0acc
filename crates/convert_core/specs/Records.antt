-- Records as a notation returns them: sound, under its rules, and at most as many as a file may
-- have.
use Rattle.std.specs.Prelude.{◌≡◌, ◌≤◌, List, length, sum_by}
use Rattle.std.specs.List.{AllByRecursion}
use Rattle.first_fault.specs.declared.limits.TheConstants.{MOST_FILE_MOVES, MOST_HANDS}
use Rattle.hand_canon.specs.SoundRecord.{IsSoundRecord}
use Rattle.hand_canon.specs.declared.record.Record.{Record}
use Rattle.hand_canon.specs.declared.trace.Play.{Play}
use Rattle.play_event.specs.declared.setup.Rules.{Rules}
use Rattle.hand_canon.specs.Moves.{moves_of, moves_played}

-- a record is sound, and under these rules
pub record IsUnder (rules : Rules) (hand : Record) : Type 0 where
  pub sound : IsSoundRecord hand
  pub rules_are : hand.rules ≡ rules

-- the records of a file are sound and under these rules, and they and their moves are at most as
-- many as a file may have
pub record AreOfFile (rules : Rules) (hands : List Record) : Type 0 where
  pub each : AllByRecursion (IsUnder rules) hands
  pub few : length hands ≤ MOST_HANDS
  pub few_moves : sum_by moves_of hands ≤ MOST_FILE_MOVES

-- plays and their moves are at most as many as a file may have
pub record AreFew (plays : List Play) : Type 0 where
  pub few : length plays ≤ MOST_HANDS
  pub few_moves : sum_by moves_played plays ≤ MOST_FILE_MOVES
