-- One hand after the other.
use Rattle.std.proofs.Common.{List, subst, string_bytes, arith}
use Rattle.std.proofs.lemmas.List.{take_all}
use Rattle.hand_canon.specs.declared.record.Record.{Record}
use Rattle.poker_cli.specs.Each.{AreReplayedAlone}
use Rattle.poker_cli.proofs.EachHand.{none_replayed, one_more}
use Rattle.poker_cli.proofs.each_replay.replay_each.Goals as goal

pub loop-index-init : goal.loop-index-init
loop-index-init c = none_replayed (string_bytes c.new-text.result) c.new-text.ensures.bytes

pub loop-index-preserved : goal.loop-index-preserved
loop-index-preserved c =
    one_more c.args.records.now c.loop-index.index c.get-hand.result.record.now (string_bytes c.loop-index.text) (string_bytes c.push_hand.new.text)
    c.get-hand.ensures c.loop-index.invariant c.in_ok-push_hand.ensures

pub returns : goal.returns
returns c =
    subst (λ (hands : List Record). AreReplayedAlone 1 hands (string_bytes c.loop-index.text))
    (take_all c.loop-index.index c.args.records.now (omega (arith, c.loop-index-test.false, c.len-count.ensures.count))) c.loop-index.invariant
