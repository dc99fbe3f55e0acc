-- The move is that of both betting and cards.
use Rattle.std.proofs.Common.{◌≡◌, sym, ap, refl, ◌∙◌}
use Rattle.std.proofs.lemmas.Result.{err_from_is_err_and}
use Rattle.play_event.specs.declared.setup.Setup.{Setup}
use Rattle.play_event.specs.Said.{said_of}
use Rattle.replay_core.proofs.Kept.{one_number, same_whole}
use Rattle.replay_core.proofs.Moves.{folded_stands, moved_stands, move_told}
use Rattle.replay_core.proofs.hand_in_play.HandInPlay.bet.Goals as goal

pub returns-in_err-moved-clause-advanced : goal.returns-in_err-moved-clause-advanced
returns-in_err-moved-clause-advanced g c =
    let p = err_from_is_err_and c.from_residual.result c.from_residual.ensures.1 in
    rw (p.1, p.2) (record {
      refused = λ past both. c.in_err-moved.ensures.refused past both.betting (c.opening_up_cards-up.ensures.ups past both);
      legal = λ past both. tt;
      stands = λ past both. tt;
      added = λ past both. tt;
      same = record { hand = c.step.ensures.same; seats = refl };
    })

pub returns-then-is_fold-clause-advanced : goal.returns-then-is_fold-clause-advanced
returns-then-is_fold-clause-advanced g c =
    let t = c.args.self.now.cards in
    let b = c.args.self.now.betting in
    let event = said_of c.args.event.now in
    let hand = c.step.ensures.same in
    record {
      refused = λ past both. tt;
      legal = λ past both. c.in_ok-moved.ensures.legal past both.betting (c.opening_up_cards-up.ensures.ups past both);
      stands = λ past both.
          let ups = c.opening_up_cards-up.ensures.ups past both in
          record {
            code_is = ap (λ (s : Setup). s.code) hand.setup ∙ both.code_is ∙ sym c.folded.ensures.hand.code;
            seats = ap (λ (s : Setup). s.stacks.seats) hand.setup ∙ both.seats ∙ sym c.folded.ensures.hand.seats;
            betting = c.in_ok-moved.ensures.stands past both.betting ups;
            cards = folded_stands t c.folded.new.self b.setup past event c.in_ok-moved.moved c.requires (c.in_ok-moved.ensures.moved past both.betting ups)
                (λ move. c.folded.ensures.stands past move both.cards) (sym c.is_fold.ensures ∙ c.if-is_fold.true);
          };
      added = λ past both. move_told b past event c.in_ok-moved.moved c.requires (c.in_ok-moved.ensures.moved past both.betting (c.opening_up_cards-up.ensures.ups past both));
      same = record { hand = hand; seats = c.folded.ensures.hand.seats };
    }

pub returns-else-is_fold-clause-advanced : goal.returns-else-is_fold-clause-advanced
returns-else-is_fold-clause-advanced g c =
    let t = c.args.self.now.cards in
    let b = c.args.self.now.betting in
    let event = said_of c.args.event.now in
    let hand = c.step.ensures.same in
    record {
      refused = λ past both. tt;
      legal = λ past both. c.in_ok-moved.ensures.legal past both.betting (c.opening_up_cards-up.ensures.ups past both);
      stands = λ past both.
          let ups = c.opening_up_cards-up.ensures.ups past both in
          record {
            code_is = ap (λ (s : Setup). s.code) hand.setup ∙ both.code_is;
            seats = ap (λ (s : Setup). s.stacks.seats) hand.setup ∙ both.seats;
            betting = c.in_ok-moved.ensures.stands past both.betting ups;
            cards = moved_stands t b.setup past event c.in_ok-moved.moved c.requires (c.in_ok-moved.ensures.moved past both.betting ups) both.cards
                (sym c.is_fold.ensures ∙ c.if-is_fold.false);
          };
      added = λ past both. move_told b past event c.in_ok-moved.moved c.requires (c.in_ok-moved.ensures.moved past both.betting (c.opening_up_cards-up.ensures.ups past both));
      same = record { hand = hand; seats = refl };
    }

pub returns-in_err-moved-clause-unchanged : goal.returns-in_err-moved-clause-unchanged
returns-in_err-moved-clause-unchanged g c =
    let p = err_from_is_err_and c.from_residual.result c.from_residual.ensures.1 in
    let cards = c.args.self.now.cards in
    rw p.1 (same_whole (λ betting. betting.setup.stacks.seats ≡ cards.seats) (λ betting seats. record { betting = betting; cards = cards; seats = seats })
    (λ betting. one_number _ _) c.step.new.self c.args.self.now.betting _ c.args.self.now.seats c.in_err-moved.ensures.unchanged)
