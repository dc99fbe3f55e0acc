-- The player to act that is kept, or that opens by up-cards, is the player to act by the rules.
use Rattle.std.proofs.Common.{refl, sym, ap, ◌∙◌}
use Rattle.play_event.specs.declared.code.Code.{Code}
use Rattle.play_event.specs.declared.limit.Opener.TheVariants as openers
use Rattle.play_event.specs.Streets.{opener_of}
use Rattle.betting_numbers.specs.Turn.{IsFirstBehind}
use Rattle.betting_core.proofs.KeptTurn.{kept_blinds, kept_later, by_cards, none_behind, opened_behind}
use Rattle.betting_core.proofs.betting.Betting.turn_found.Goals as goal

pub returns-in-Some-clause-turn : goal.returns-in-Some-clause-turn
returns-in-Some-clause-turn g c =
    let b = c.self.inside.numbers in
    let game = c.self.invariant in
    rw (← c.self.view_is) (λ past stands holds bets. kept_later b past stands game.kept.turn bets game.kept.begins c.in-Some.field-0 c.in-Some.is)

pub returns-in-Some-clause-behind : goal.returns-in-Some-clause-behind
returns-in-Some-clause-behind g c =
    let b = c.self.inside.numbers in
    none_behind b.next (λ seat. IsFirstBehind b seat.number)

pub returns-in-Blinds-clause-turn : goal.returns-in-Blinds-clause-turn
returns-in-Blinds-clause-turn g c =
    let b = c.self.inside.numbers in
    let game = c.self.invariant in
    rw (← c.self.view_is) (λ past stands holds bets. kept_blinds b past stands game.kept.turn bets
    (ap (λ (code : Code). opener_of code) game.code ∙ sym g.met.V.Variant.values.opener_is ∙ sym c.OPEN.ensures ∙ c.in-Blinds.is))

pub returns-in-Blinds-clause-behind : goal.returns-in-Blinds-clause-behind
returns-in-Blinds-clause-behind g c =
    let b = c.self.inside.numbers in
    none_behind b.next (λ seat. IsFirstBehind b seat.number)

pub returns-in-LowUp-clause-turn : goal.returns-in-LowUp-clause-turn
returns-in-LowUp-clause-turn g c =
    let b = c.self.inside.numbers in
    let game = c.self.invariant in
    let found = c.up_opener in
    rw (← c.self.view_is) (λ past stands holds bets. by_cards b past stands bets c.args.up.now c.in-None.is (holds.held c.in-None.is) openers.LowUp
    (ap (λ (code : Code). opener_of code) game.code ∙ sym g.met.V.Variant.values.opener_is ∙ sym c.OPEN.ensures ∙ c.in-LowUp.is)
    refl found.result.seat found.ensures.in_hand found.ensures.found)

pub returns-in-LowUp-clause-behind : goal.returns-in-LowUp-clause-behind
returns-in-LowUp-clause-behind g c =
    let found = c.up_opener in
    rw (← c.self.view_is) (opened_behind c.self.inside.numbers c.in-None.is found.result.seat found.result.behind found.ensures.behind found.ensures.behind_in)

pub returns-in-HighUp-clause-turn : goal.returns-in-HighUp-clause-turn
returns-in-HighUp-clause-turn g c =
    let b = c.self.inside.numbers in
    let game = c.self.invariant in
    let found = c.up_opener-in-HighUp in
    rw (← c.self.view_is) (λ past stands holds bets. by_cards b past stands bets c.args.up.now c.in-None.is (holds.held c.in-None.is) openers.HighUp
    (ap (λ (code : Code). opener_of code) game.code ∙ sym g.met.V.Variant.values.opener_is ∙ sym c.OPEN.ensures ∙ c.in-HighUp.is)
    refl found.result.seat found.ensures.in_hand found.ensures.found)

pub returns-in-HighUp-clause-behind : goal.returns-in-HighUp-clause-behind
returns-in-HighUp-clause-behind g c =
    let found = c.up_opener-in-HighUp in
    rw (← c.self.view_is) (opened_behind c.self.inside.numbers c.in-None.is found.result.seat found.result.behind found.ensures.behind found.ensures.behind_in)
