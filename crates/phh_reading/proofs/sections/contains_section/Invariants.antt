use Rattle.std.proofs.Common.{◌≡◌}
use Rattle.toml.specs.View.{members_view}
use Rattle.phh_reading.specs.Tables.{has_section}
use Rattle.phh_reading.proofs.sections.contains_section.Given as goal

-- the table has a section if one is left
abbrev pub invariant-loop-key : goal.invariant-loop-key
invariant-loop-key l = record {
  can_next : (goal.iterator-loop-key).can_next l.key-iterator;
  is_finite : (goal.iterator-loop-key).is_finite l.key-iterator;
  sections : has_section (members_view l.key-iterator) ≡ has_section (members_view l.table.entries);
}
