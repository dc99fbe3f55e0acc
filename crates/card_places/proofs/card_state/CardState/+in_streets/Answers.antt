-- The first street, and those after it.
use Rattle.std.proofs.Common.{◌+◌, ◌-◌, ℕ, List}
use Rattle.play_event.specs.Places.{Place}
use Rattle.card_places.specs.Ordered.{on_street, on_streets}
use Rattle.card_places.specs.Placed.{placed}
use Rattle.card_places.specs.Plain.{place_of}
use Rattle.card_places.proofs.InOrder.{in_front, is_behind, past_both, split_streets}
use Rattle.card_set.proofs.Numbers.{positive}
use Rattle.card_set.proofs.Options.{along}
use Rattle.card_places.proofs.card_state.CardState.+in_streets.Goals as goal
use Rattle.card_set.proofs.Results.{if_err}

pub returns-in-Ok-clause-found : goal.returns-in-Ok-clause-found
returns-in-Ok-clause-found t c =
    let seats : ℕ = c.args.self.now.seats in
    let ps : List Place = placed c.args.self.now.places in
    in_front (on_streets seats ps c.args.first c.args.count) (on_street seats ps c.args.first) (on_streets seats ps (c.args.first + 1) (c.args.count - 1)) c.args.index (place_of c.in-Ok.card)
    (split_streets seats ps c.args.first c.args.count (positive c.args.count c.if-count-eq0.false)) c.in-Ok.ensures.found

pub returns-in-Err-clause-found : goal.returns-in-Err-clause-found
returns-in-Err-clause-found t c =
    let seats : ℕ = c.args.self.now.seats in
    let ps : List Place = placed c.args.self.now.places in
    along c.in_streets.result
    (λ card got.
    is_behind (on_streets seats ps c.args.first c.args.count) (on_street seats ps c.args.first) (on_streets seats ps (c.args.first + 1) (c.args.count - 1)) c.args.index c.in-Err.left (place_of card)
    (split_streets seats ps c.args.first c.args.count (positive c.args.count c.if-count-eq0.false)) c.in-Err.ensures.past got) c.in_streets.ensures.found

pub returns-in-Err-clause-past : goal.returns-in-Err-clause-past
returns-in-Err-clause-past t c =
    let seats : ℕ = c.args.self.now.seats in
    let ps : List Place = placed c.args.self.now.places in
    if_err c.in_streets.result
    (λ rest past.
    past_both (on_streets seats ps c.args.first c.args.count) (on_street seats ps c.args.first) (on_streets seats ps (c.args.first + 1) (c.args.count - 1)) c.args.index c.in-Err.left rest
    (split_streets seats ps c.args.first c.args.count (positive c.args.count c.if-count-eq0.false)) c.in-Err.ensures.past past) c.in_streets.ensures.past
