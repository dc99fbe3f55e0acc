use Rattle.std.proofs.Common.{◌≡◌, drop}
use Rattle.toml.specs.View.{items_view}
use Rattle.phh_reading.specs.Tables.{has_table}
use Rattle.phh_reading.proofs.sections.contains_table.Given as goal

-- some item is a table if one of those that are left is
abbrev pub invariant-loop-item : goal.invariant-loop-item
invariant-loop-item l = has_table (items_view (drop l.item-index l.items.items)) ≡ has_table (items_view l.items.items)
