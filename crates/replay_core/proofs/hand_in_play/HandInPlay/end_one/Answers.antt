-- What is due is ended if it is complete.
use Rattle.std.proofs.Common.{◌≡◌, true, false, sym, ap, ◌∙◌}
use Rattle.play_event.specs.declared.setup.Setup.{Setup}
use Rattle.play_event.specs.Due.{turn}
use Rattle.play_laws.specs.Done.{is_done}
use Rattle.replay_core.proofs.Joined.{now_up_to}
use Rattle.replay_core.proofs.hand_in_play.HandInPlay.end_one.Goals as goal

pub returns-then-done-clause-up_to : goal.returns-then-done-clause-up_to
returns-then-done-clause-up_to g c =
    let b = c.args.self.now.betting in
    let t = c.args.self.now.cards in
    λ past half.
    let now = now_up_to b t c.live-live.result past half (c.live-live.ensures.stands past) (c.live-live.ensures.up_to past) in
    let done : is_done b.setup past b.due ≡ true =
    ap (is_done b.setup past) (sym c.due-due.ensures.value) ∙ sym (c.done.ensures.done b.setup past (turn b.setup past).1 now) ∙ c.if-done.true in
    record {
      code_is = ap (λ (s : Setup). s.code) c.dealt.ensures.same.setup ∙ half.code_is;
      seats = ap (λ (s : Setup). s.stacks.seats) c.dealt.ensures.same.setup ∙ half.seats;
      cards = half.cards;
      kept = λ unended. c.dealt.ensures.stands past (half.ended done) (sym (ap (λ (s : Setup). is_done s past c.dealt.new.self.due) c.dealt.ensures.same.setup) ∙ unended);
      ended = λ ended. c.dealt.ensures.up_to past (half.ended done) (sym (ap (λ (s : Setup). is_done s past c.dealt.new.self.due) c.dealt.ensures.same.setup) ∙ ended);
    }

pub returns-else-done-clause-undone : goal.returns-else-done-clause-undone
returns-else-done-clause-undone g c =
    let b = c.args.self.now.betting in
    let t = c.args.self.now.cards in
    λ past half same.
    let now = now_up_to b t c.live-live.result past half (c.live-live.ensures.stands past) (c.live-live.ensures.up_to past) in
    let undone : is_done b.setup past b.due ≡ false =
    ap (is_done b.setup past) (sym c.due-due.ensures.value) ∙ sym (c.done.ensures.done b.setup past (turn b.setup past).1 now) ∙ c.if-done.false in
    record { code_is = half.code_is; seats = half.seats; betting = half.kept undone; cards = half.cards }

pub returns-then-done-clause-done : goal.returns-then-done-clause-done
returns-then-done-clause-done g c =
    let b = c.args.self.now.betting in
    let t = c.args.self.now.cards in
    λ past half same.
    let now = now_up_to b t c.live-live.result past half (c.live-live.ensures.stands past) (c.live-live.ensures.up_to past) in
    let done : is_done b.setup past b.due ≡ true =
    ap (is_done b.setup past) (sym c.due-due.ensures.value) ∙ sym (c.done.ensures.done b.setup past (turn b.setup past).1 now) ∙ c.if-done.true in
    done

pub returns-then-done-clause-next : goal.returns-then-done-clause-next
returns-then-done-clause-next g c =
    let b = c.args.self.now.betting in
    let t = c.args.self.now.cards in
    λ past half same ended.
    let now = now_up_to b t c.live-live.result past half (c.live-live.ensures.stands past) (c.live-live.ensures.up_to past) in
    let done : is_done b.setup past b.due ≡ true =
    ap (is_done b.setup past) (sym c.due-due.ensures.value) ∙ sym (c.done.ensures.done b.setup past (turn b.setup past).1 now) ∙ c.if-done.true in
    c.dealt.ensures.showdown past (half.ended done) (sym (ap (λ (s : Setup). is_done s past c.dealt.new.self.due) c.dealt.ensures.same.setup) ∙ ended)
