use Rattle.std.proofs.Common.{◌≡◌, [], true}
use Rattle.toml.specs.View.{members_view}
use Rattle.phh_reading.specs.Order.{is_multi_hand, placed_all}
use Rattle.phh_reading.proofs.Placing.{AreKeyed, entries_view}
use Rattle.phh_reading.proofs.order.values_in_order.Given as goal

-- the entries so far, and those of the members that are left placed among them, are all of them in
-- order
abbrev pub invariant-loop-key : goal.invariant-loop-key
invariant-loop-key l = record {
  can_next : (goal.iterator-loop-key).can_next l.key-iterator;
  is_finite : (goal.iterator-loop-key).is_finite l.key-iterator;
  keyed : AreKeyed l.hands.entries;
  hands : is_multi_hand (members_view l.key-iterator) ≡ true;
  placed : placed_all (entries_view l.hands.entries) (members_view l.key-iterator) ≡ placed_all [] (members_view l.table.entries);
}
