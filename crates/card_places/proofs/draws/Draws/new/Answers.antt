-- Before any draw nothing is named, and nobody drew.
use Rattle.std.proofs.Common.{◌+◌, ◌-◌, ◌*◌, refl, arith}
use Rattle.play_event.specs.Rows.{zeros}
use Rattle.card_places.proofs.draws.Draws.new.Goals as goal
use Rattle.card_set.proofs.Entries.{only_false}

pub invariant_of-result : goal.invariant_of-result
invariant_of-result c =
    record {
      named_full = refl;
      drew_full = refl;
      most = λ k. omega (arith, zeros 60 k);
    }

pub returns-clause-drew : goal.returns-clause-drew
returns-clause-drew c = λ street seat. only_false 60 (10 * street + seat - 1)

pub returns-clause-named : goal.returns-clause-named
returns-clause-named c = λ street seat. zeros 60 (10 * street + seat - 1)
