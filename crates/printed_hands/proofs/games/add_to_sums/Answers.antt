-- One more of the sums.
use Rattle.std.proofs.Common.{◌≡◌, List, suc, ◌+◌, ◌<◌, length, slice_set, get_or, ap, ◌∙◌, arith}
use Rattle.printed_hands.specs.Games.{with_hand}
use Rattle.printed_hands.specs.Report.{hand_of}
use Rattle.printed_hands.specs.declared.games.Sums.{Sums}
use Rattle.printed_hands.proofs.Counted.{changed, changed_next, unchanged_at}
use Rattle.printed_hands.proofs.games.add_to_sums.Goals as goal

pub loop-index-preserved : goal.loop-index-preserved
loop-index-preserved c =
    let f = with_hand (hand_of c.args.play.now) in
    let old = c.args.sums.now.items in
    let index = c.loop-index.index in
    let item = c.index.result.now in
    let within : index < length old = omega (arith, c.loop-index-test.true, c.loop-index.auto.index-end, c.len-index-end.ensures) in
    let item_is : item ≡ get_or old index item =
    c.index.ensures ∙ ap (λ (sums : List Sums). get_or sums index item) c.loop-index.invariant ∙ unchanged_at f old index item within in
    let next : suc index ≡ index + 1 = omega arith in
    (λ i. slice_set (c.loop-index.invariant i) index ((c.add_hand.ensures ∙ ap f item_is) i))
    ∙ changed_next f old index item within
    ∙ ap (changed f old) next
