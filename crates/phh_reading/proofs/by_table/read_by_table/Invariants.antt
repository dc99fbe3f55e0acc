use Rattle.std.proofs.Common.{◌≡◌, ◌≤◌, length, map, sum_by}
use denote.Shadow.{shadow}
use denote.Text.{Utf8}
use Rattle.std.specs.List.{AllByRecursion}
use Rattle.toml_parser.specs.Lexical.{skip_blank}
use Rattle.toml.specs.Parse.{skip_bom}
use Rattle.first_fault.specs.declared.limits.TheConstants.{MOST_FILE_MOVES, MOST_HANDS}
use Rattle.phh_reading.proofs.InTurn.{IsLeft}
use Rattle.phh_reading.proofs.by_table.read_by_table.Given as goal
use Rattle.hand_canon.specs.Histories.{IsHistory}
use Rattle.hand_canon.specs.Moves.{moves_of}
use Rattle.hand_canon.specs.PlainHands.{plain}

-- however the rest is cut into tables, the hands so far and those of these tables are all of them
abbrev pub invariant-loop-rest : goal.invariant-loop-rest
invariant-loop-rest l = record {
  utf8 : shadow (Utf8 l.rest);
  few : length l.records ≤ MOST_HANDS;
  moves : sum_by moves_of l.records ≡ l.file_moves;
  limit : l.file_moves ≤ MOST_FILE_MOVES;
  least : l.least ≤ 1000000000000000001;
  sound : AllByRecursion IsHistory l.records;
  left : IsLeft (skip_blank (skip_bom l.fn.text)) l.rest l.least l.file_moves (map plain l.records);
}

abbrev pub decreases-loop-rest : goal.decreases-loop-rest
decreases-loop-rest l = length l.rest
