use Rattle.std.proofs.Common.{◌≡◌}
use Rattle.toml.specs.View.{members_view}
use Rattle.phh_reading.specs.Order.{is_multi_hand}
use Rattle.phh_reading.proofs.order.has_numbered_tables.Given as goal

-- all members are hands if those that are left are
abbrev pub invariant-loop-key : goal.invariant-loop-key
invariant-loop-key l = record {
  can_next : (goal.iterator-loop-key).can_next l.key-iterator;
  is_finite : (goal.iterator-loop-key).is_finite l.key-iterator;
  hands : is_multi_hand (members_view l.key-iterator) ≡ is_multi_hand (members_view l.table.entries);
}
