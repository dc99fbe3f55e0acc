-- Before the first move of a street the row has the up-cards of the past: if blinds decide who
-- opens, there are none.
use Rattle.std.proofs.Common.{sym, ap, is_none, ◌∙◌}
use Rattle.std.proofs.lemmas.Bool.{true≢false}
use Rattle.replay_core.proofs.Joined.{ups_of_past}
use Rattle.replay_core.proofs.NoUpCards.{no_up_cards}
use Rattle.replay_core.proofs.hand_in_play.HandInPlay.opening_up_cards.Goals as goal

pub returns-else-nobody_acted-clause-ups : goal.returns-else-nobody_acted-clause-ups
returns-else-nobody_acted-clause-ups g c = λ past both. record {
  held = λ none. absurd (true≢false (sym (c.nobody_acted.ensures.value ∙ ap is_none none) ∙ c.if-nobody_acted.false));
}

pub returns-in-Blinds-clause-ups : goal.returns-in-Blinds-clause-ups
returns-in-Blinds-clause-ups g c =
    let hand = c.args.self.now in
    λ past both. record {
      held = λ none. ups_of_past g.V.Variant.CODE hand.betting hand.cards c.new.result past c.nobody_acted.ensures.game.code both
          (λ seat in_hand. c.new.ensures.empty seat
          ∙ sym (no_up_cards g.V.Variant.CODE past seat (sym (c.OPEN.ensures ∙ g.met.V.Variant.values.opener_is) ∙ c.in-Blinds.is)));
    }

pub returns-in-LowUp-clause-ups : goal.returns-in-LowUp-clause-ups
returns-in-LowUp-clause-ups g c =
    let hand = c.args.self.now in
    λ past both. record {
      held = λ none. ups_of_past g.V.Variant.CODE hand.betting hand.cards c.up.result past c.nobody_acted.ensures.game.code both
          (λ seat in_hand. c.up.ensures.each past seat both.cards in_hand);
    }
