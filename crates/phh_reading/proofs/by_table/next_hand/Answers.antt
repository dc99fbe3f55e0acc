use Rattle.toml.specs.View.{table_view}
use Rattle.phh_reading.proofs.InTurn.{numbers_are}
use Rattle.phh_reading.proofs.by_table.next_hand.Goals as goal

pub number_from-requires : goal.number_from-requires
number_from-requires c =
    let found = rw c.in-Some.is at c.in_ok-key.ensures.found in
    numbers_are _ _ _ _ _ found.1.table

pub returns-clause-said : goal.returns-clause-said
returns-clause-said c =
    let found = rw c.in-Some.is at c.in_ok-key.ensures.found in
    record {
      key = c.in-Some.key.now;
      lines = found.0;
      members = table_view c.in-Some.table;
      table = found.1;
      number_is = c.in-Some-number_from.ensures.number;
      above = c.in-Some-number_from.ensures.least;
      said = rw c.in-Some-2.is at c.in_ok-found.ensures.said;
    }
