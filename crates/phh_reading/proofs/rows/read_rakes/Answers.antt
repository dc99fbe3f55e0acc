use Rattle.std.proofs.Common.{length, map, ◌≡◌, ◌≤◌, ◌++◌, ◌-◌, take, replicate, arith}
use Rattle.std.proofs.lemmas.List.{length-map}
use Rattle.toml.specs.View.{view}
use Rattle.phh_reading.specs.Rows.{rakes_said, rakes_from}
use Rattle.phh_reading.proofs.Zeros.{with_zeros}
use Rattle.phh_reading.proofs.rows.read_rakes.Goals as goal

pub returns-clause-said : goal.returns-clause-said
unfolding rakes_said rakes_from
returns-clause-said c =
    let values = c.in_ok-values.values.now.items in
    let rakes = c.in_ok-rakes.rakes in
    let same : length (map view values) ≡ length values = length-map values view in
    let few : length values ≤ 11 = grind (arith, same, c.has_count.ensures, c.if-not-has_count.ensures, c.deref.ensures.value) in
    let whole : take (length values) rakes ++ replicate (11 - length (take (length values) rakes)) 0 ≡ rakes = with_zeros rakes (length values) c.in_ok-rakes.ensures.eleven few (λ k late. c.in_ok-rakes.ensures.zeros k (grind (arith, late, c.deref-2.ensures.value))) in
    grind (arith, whole, same, few, c.in_ok-values.ensures, c.deref-2.ensures.value, c.in_ok-rakes.ensures.amounts)
