use Rattle.std.proofs.Common.{◌≡◌, ℕ, ◌+◌, ◌-◌, ◌<◌, ◌≤◌, ◌∙◌, ap, sym, arith, map, take, drop, length, List, slice_index}
use Rattle.std.proofs.lemmas.List.{length-set, take_more_set}
use Rattle.std.proofs.lemmas.Result.{err_from_is_err_and}
use Rattle.toml.specs.View.{view}
use Rattle.first_fault.specs.Reading.{each_from}
use Rattle.first_fault.proofs.EachItem.{with_front, goes_on, ends, is_done}
use Rattle.phh_reading.specs.declared.field_fault.FieldKey.TheVariants as keys
use Rattle.phh_reading.specs.Fields.{item_place}
use Rattle.phh_reading.specs.Rows.{ante_said, antes_from}
use Rattle.phh_reading.proofs.rows.fill_antes.Goals as goal
use Rattle.card_set.proofs.Numbers.{plus_one_less_one}
use Rattle.card_set.proofs.Entries.{set_each}

pub returns-in_err-amounts-clause-amounts : goal.returns-in_err-amounts-clause-amounts
returns-in_err-amounts-clause-amounts c =
    let p = err_from_is_err_and c.from_residual.result c.from_residual.ensures.1 in
    rw (p.1, p.2) (ends view (λ n value. ante_said (slice_index c.args.stacks.now.amounts (n - 1)) (item_place keys.Antes n) value) c.in_err-amounts.field-0.0 (take c.loop-index.index c.loop-index.amounts) c.args.values.now c.loop-index.index c.index-values-index.result (antes_from c.args.stacks.now.amounts (map view c.args.values.now)) c.loop-index-test.true (sym c.index-values-index.is) (rw (plus_one_less_one c.loop-index.index) c.in_err-amounts.ensures.said) c.loop-index.invariant.read)

pub loop-index-preserved : goal.loop-index-preserved
loop-index-preserved c =
    let inv = c.loop-index.invariant in
    let l = c.loop-index in
    let x = c.in_ok-amounts.field-0 in
    let few = c.in_ok-amounts.ensures.within in
    let here : l.index < length l.amounts = omega (arith, inv.ten, c.loop-index-test.true) in
    record {
      ten = omega (arith, inv.ten, length-set l.amounts l.index x);
      most = set_each 0 (λ k amount. amount ≤ slice_index c.args.stacks.now.amounts k) l.amounts l.index x here (λ k other. inv.most k) few;
      zeros = set_each 0 (λ k amount. l.index + 1 ≤ k → amount ≡ 0) l.amounts l.index x here (λ k other late. inv.zeros k (omega (arith, late))) (λ late. absurd (omega (arith, late)));
      read =
          ap (λ (front : List ℕ). with_front front (each_from (λ n value. ante_said (slice_index c.args.stacks.now.amounts (n - 1)) (item_place keys.Antes n) value) (l.index + 1 + 1) (map view (drop (l.index + 1) c.args.values.now)))) (take_more_set l.amounts l.index x here)
          ∙ goes_on view (λ n value. ante_said (slice_index c.args.stacks.now.amounts (n - 1)) (item_place keys.Antes n) value) (take l.index l.amounts) c.args.values.now l.index c.index-values-index.result x _ c.loop-index-test.true (sym c.index-values-index.is) (rw (plus_one_less_one l.index) c.in_ok-amounts.ensures.said) inv.read;
    }

pub returns-clause-amounts : goal.returns-clause-amounts
returns-clause-amounts c =
    let whole : c.loop-index.index ≡ c.args.stacks.now.seats = omega arith in
    is_done view (λ n value. ante_said (slice_index c.args.stacks.now.amounts (n - 1)) (item_place keys.Antes n) value) (take c.args.stacks.now.seats c.loop-index.amounts) c.args.values.now c.loop-index.index (antes_from c.args.stacks.now.amounts (map view c.args.values.now)) c.loop-index-test.false (rw (sym whole) c.loop-index.invariant.read)
