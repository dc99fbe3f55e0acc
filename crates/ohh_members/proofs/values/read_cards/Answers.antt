use Rattle.std.proofs.Common.{map, sym, arith}
use Rattle.std.proofs.lemmas.Result.{err_from_is_err_and}
use Rattle.serde_json.specs.View.{view}
use Rattle.card_set.specs.Row.{cards_of}
use Rattle.ohh_members.specs.Paths.{card_path}
use Rattle.ohh_members.specs.Values.{card_said, cards_from, cards_said}
use Rattle.ohh_members.proofs.EachIndex.{item_read, item_refused, items_read}
use Rattle.ohh_members.proofs.values.read_cards.Goals as goal

pub returns-in_err-card : goal.returns-in_err-card
unfolding cards_said
returns-in_err-card c =
    let p = err_from_is_err_and c.from_residual-in_err-card.result c.from_residual-in_err-card.ensures.1 in
    rw (p.1, p.2, c.in_ok-values.ensures.said) (item_refused view (λ index. card_said (card_path c.args.path index)) c.in_err-card.field-0.0 (cards_of c.loop-index.row) c.in_ok-values.values.now c.loop-index.index c.index-values-index.result (cards_from c.args.path (map view c.in_ok-values.values.now)) c.loop-index-test.true (sym c.index-values-index.is) (rw (← c.card.ensures) c.in_err-card.ensures) c.loop-index.invariant.read)

pub loop-index-preserved : goal.loop-index-preserved
loop-index-preserved c = record {
  len = omega (arith, c.push.ensures.longer, c.loop-index.invariant.len);
  read = rw c.push.ensures.entries (item_read view (λ index. card_said (card_path c.args.path index)) (cards_of c.loop-index.row) c.in_ok-values.values.now c.loop-index.index c.index-values-index.result c.in_ok-card.card (cards_from c.args.path (map view c.in_ok-values.values.now)) c.loop-index-test.true (sym c.index-values-index.is) (rw (← c.card.ensures) c.in_ok-card.ensures) c.loop-index.invariant.read);
}

pub returns : goal.returns
unfolding cards_said
returns c = rw c.in_ok-values.ensures.said (items_read view (λ index. card_said (card_path c.args.path index)) (cards_of c.loop-index.row) c.in_ok-values.values.now c.loop-index.index (cards_from c.args.path (map view c.in_ok-values.values.now)) c.loop-index-test.false c.loop-index.invariant.read)
