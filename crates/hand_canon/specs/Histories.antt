-- Records of hand histories: sound, and under their rules; and those of a file, within its limits.
use Rattle.std.specs.Prelude.{◌≡◌, ℕ, ◌+◌, ◌≤◌, List, length, sum_by}
use Rattle.std.specs.List.{AllByRecursion}
use Rattle.first_fault.specs.declared.limits.TheConstants.{MOST_FILE_MOVES, MOST_HANDS}
use Rattle.hand_canon.specs.Moves.{moves_of}
use Rattle.hand_canon.specs.SoundRecord.{IsSoundRecord}
use Rattle.hand_canon.specs.declared.record.Record.{Record}
use Rattle.play_event.specs.HistoryRules.{history_rules}

-- what is read of a hand is sound, and under the rules of hand histories
pub record IsHistory (hand : Record) : Type 0 where
  pub sound : IsSoundRecord hand
  pub rules : hand.rules ≡ history_rules

-- a hand that comes after this number of moves of its file, and the moves of the file after it
pub record IsNextHand (before : ℕ) (found : Record × ℕ) : Type 0 where
  pub sound : IsHistory found.0
  pub moves : found.1 ≡ before + moves_of found.0
  pub few : found.1 ≤ MOST_FILE_MOVES

-- the hands of a file
pub record AreHistories (hands : List Record) : Type 0 where
  pub sound : AllByRecursion IsHistory hands
  pub few : length hands ≤ MOST_HANDS
  pub moves : sum_by moves_of hands ≤ MOST_FILE_MOVES
