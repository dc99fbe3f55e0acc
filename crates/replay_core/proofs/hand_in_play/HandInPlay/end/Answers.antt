-- What is complete after what was ended is the showdown, and after that nothing is due.
use Rattle.replay_core.proofs.Joined.{end_by}
use Rattle.replay_core.proofs.hand_in_play.HandInPlay.end.Goals as goal

pub returns-then-end_one-clause-stands : goal.returns-then-end_one-clause-stands
returns-then-end_one-clause-stands g c =
    let first = c.end_one in
    let second = c.end_one-then-end_one in
    λ past half.
    let mid = first.ensures.up_to past half in
    end_by first.new.self.betting second.new.self.betting first.new.self.cards second.new.self.cards past second.result
    (second.ensures.undone past mid) (second.ensures.done past mid) (first.ensures.next past half c.if-end_one.true) second.ensures.over (second.ensures.up_to past mid)
