use Rattle.std.proofs.Common.{◌≡◌, ◌++◌, map}
use Rattle.toml.specs.View.{table_view, view}
use Rattle.phh_reading.specs.Order.{in_order, tables_among}
use Rattle.phh_reading.proofs.order.tables_in_order.Given as goal

-- the tables so far and those among the values that are left are all of them
abbrev pub invariant-loop-key : goal.invariant-loop-key
invariant-loop-key l = record {
  can_next : (goal.iterator-loop-key).can_next l.key-iterator;
  is_finite : (goal.iterator-loop-key).is_finite l.key-iterator;
  tables : map (λ hand. table_view hand.now) l.tables.items ++ tables_among (map (λ e. view e.1.now) l.key-iterator) ≡ in_order (table_view l.table);
}
