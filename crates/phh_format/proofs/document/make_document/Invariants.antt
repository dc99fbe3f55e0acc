use Rattle.std.proofs.Common.{◌≡◌, ◌≤◌, drop, length}
use Rattle.toml.specs.View.{table_view}
use Rattle.phh_format.specs.Members.{table_of}
use Rattle.phh_format.specs.Document.{numbered_hands}
use Rattle.phh_format.proofs.document.make_document.Given as goal

-- the hands from a place on are in the table
abbrev pub invariant-loop-left : goal.invariant-loop-left
invariant-loop-left l = record {
  within : l.left ≤ length l.plays;
  hands : table_view l.table ≡ table_of (numbered_hands l.left (drop l.left l.plays));
}

abbrev pub decreases-loop-left : goal.decreases-loop-left
decreases-loop-left l = l.left
