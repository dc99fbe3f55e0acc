use Rattle.std.proofs.Common.{◌≡◌, ℕ, ◌+◌, ◌<◌, ◌≤◌, ◌∙◌, ap, sym, arith, map, take, drop, length, List}
use Rattle.std.proofs.lemmas.List.{length-set, take_more_set}
use Rattle.std.proofs.lemmas.Result.{err_from_is_err_and}
use Rattle.toml.specs.View.{view}
use Rattle.first_fault.specs.Reading.{each_from}
use Rattle.first_fault.proofs.EachItem.{with_front, goes_on, ends, is_done}
use Rattle.phh_reading.specs.Fields.{item_place, amount_said}
use Rattle.phh_reading.specs.Rows.{amounts_said}
use Rattle.phh_reading.proofs.rows.read_amounts.Goals as goal
use Rattle.card_set.proofs.Entries.{set_each}

pub returns-in_err-amounts-clause-amounts : goal.returns-in_err-amounts-clause-amounts
returns-in_err-amounts-clause-amounts c =
    let p = err_from_is_err_and c.from_residual.result c.from_residual.ensures.1 in
    rw (p.1, p.2) (ends view (λ n value. amount_said c.args.least c.args.most (item_place c.args.key n) value) c.in_err-amounts.field-0.0 (take c.loop-index.index c.loop-index.amounts) c.args.players.now.values.now c.loop-index.index c.index-values-index.result (amounts_said c.args.least c.args.most c.args.key (map view c.args.players.now.values.now)) c.loop-index-test.true (sym c.index-values-index.is) c.in_err-amounts.ensures.said c.loop-index.invariant.read)

pub loop-index-preserved : goal.loop-index-preserved
loop-index-preserved c =
    let inv = c.loop-index.invariant in
    let l = c.loop-index in
    let x = c.in_ok-amounts.field-0 in
    let few = c.in_ok-amounts.ensures.within in
    let here : l.index < length l.amounts = omega (arith, inv.ten, c.loop-index-test.true) in
    record {
      ten = omega (arith, inv.ten, length-set l.amounts l.index x);
      least = set_each 0 (λ k amount. k < l.index + 1 → c.args.least ≤ amount) l.amounts l.index x here (λ k other late. inv.least k (omega (arith, late, other))) (λ late. few.0);
      most = set_each 0 (λ k amount. amount ≤ c.args.most) l.amounts l.index x here (λ k other. inv.most k) few.1;
      zeros = set_each 0 (λ k amount. l.index + 1 ≤ k → amount ≡ 0) l.amounts l.index x here (λ k other late. inv.zeros k (omega (arith, late))) (λ late. absurd (omega (arith, late)));
      read =
          ap (λ (front : List ℕ). with_front front (each_from (λ n value. amount_said c.args.least c.args.most (item_place c.args.key n) value) (l.index + 1 + 1) (map view (drop (l.index + 1) c.args.players.now.values.now)))) (take_more_set l.amounts l.index x here)
          ∙ goes_on view (λ n value. amount_said c.args.least c.args.most (item_place c.args.key n) value) (take l.index l.amounts) c.args.players.now.values.now l.index c.index-values-index.result x _ c.loop-index-test.true (sym c.index-values-index.is) c.in_ok-amounts.ensures.said inv.read;
    }

pub returns-clause-amounts : goal.returns-clause-amounts
returns-clause-amounts c =
    let whole : c.loop-index.index ≡ length c.args.players.now.values.now = omega arith in
    is_done view (λ n value. amount_said c.args.least c.args.most (item_place c.args.key n) value) (take (length c.args.players.now.values.now) c.loop-index.amounts) c.args.players.now.values.now c.loop-index.index (amounts_said c.args.least c.args.most c.args.key (map view c.args.players.now.values.now)) c.loop-index-test.false (rw (sym whole) c.loop-index.invariant.read)
