-- What is dealt is dealt on the street that is due.
use Rattle.std.proofs.Common.{ℕ, sym, subst, ◌∙◌}
use Rattle.card_places.specs.Dealt.{IsDealt}
use Rattle.chip_ledger.specs.SeatsSaid.{seat_said}
use Rattle.deal_core.proofs.Same.{of_itself, one_hand}
use Rattle.deal_core.proofs.cards.Cards.put.Goals as goal
use Rattle.std.proofs.lemmas.Option.{same_Some}

pub deal-requires : goal.deal-requires
deal-requires g c = rw c.self.view_is (c.requires c.in-Some.on (sym c.street_due.ensures ∙ c.in-Some.is))

pub returns-in-Some-clause-dealt : goal.returns-in-Some-clause-dealt
returns-in-Some-clause-dealt g c =
    rw (← c.self.view_is) λ on street.
    subst (λ (s : ℕ). IsDealt c.self.inside.state c.deal.new.self (seat_said c.args.owner) s c.args.cards.now)
    (same_Some c.in-Some.on on (sym c.in-Some.is ∙ c.street_due.ensures ∙ street)) c.deal.ensures

pub returns-in-Some-clause-hand : goal.returns-in-Some-clause-hand
returns-in-Some-clause-hand g c =
    rw (← c.self.view_is) (one_hand c.self.inside.state c.deal.new.self c.deal.ensures.table c.deal.ensures.seats)

pub returns-in_default-clause-hand : goal.returns-in_default-clause-hand
returns-in_default-clause-hand g c = of_itself c.args.self.now
