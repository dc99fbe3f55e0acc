use Rattle.std.proofs.Common.{map, sym, arith}
use Rattle.std.proofs.lemmas.Result.{err_from_is_err_and}
use Rattle.serde_json.specs.View.{view}
use Rattle.card_set.specs.Row.{slots_of}
use Rattle.ohh_members.specs.Paths.{card_path}
use Rattle.ohh_members.specs.Values.{slot_said, slots_from, slots_said}
use Rattle.ohh_members.proofs.EachIndex.{item_read, item_refused, items_read}
use Rattle.ohh_members.proofs.values.read_slots.Goals as goal

pub returns-in_err-slot : goal.returns-in_err-slot
unfolding slots_said
returns-in_err-slot c =
    let p = err_from_is_err_and c.from_residual-in_err-slot.result c.from_residual-in_err-slot.ensures.1 in
    rw (p.1, p.2, c.in_ok-values.ensures.said) (item_refused view (λ index. slot_said (card_path c.args.path index)) c.in_err-slot.field-0.0 (slots_of c.loop-index.row) c.in_ok-values.values.now c.loop-index.index c.index-values-index.result (slots_from c.args.path (map view c.in_ok-values.values.now)) c.loop-index-test.true (sym c.index-values-index.is) (rw (← c.card.ensures) c.in_err-slot.ensures) c.loop-index.invariant.read)

pub loop-index-preserved : goal.loop-index-preserved
loop-index-preserved c = record {
  len = omega (arith, c.push.ensures.longer, c.loop-index.invariant.len);
  read = rw c.push.ensures.entries (item_read view (λ index. slot_said (card_path c.args.path index)) (slots_of c.loop-index.row) c.in_ok-values.values.now c.loop-index.index c.index-values-index.result c.in_ok-slot.slot (slots_from c.args.path (map view c.in_ok-values.values.now)) c.loop-index-test.true (sym c.index-values-index.is) (rw (← c.card.ensures) c.in_ok-slot.ensures) c.loop-index.invariant.read);
}

pub returns : goal.returns
unfolding slots_said
returns c = rw c.in_ok-values.ensures.said (items_read view (λ index. slot_said (card_path c.args.path index)) (slots_of c.loop-index.row) c.in_ok-values.values.now c.loop-index.index (slots_from c.args.path (map view c.in_ok-values.values.now)) c.loop-index-test.false c.loop-index.invariant.read)
