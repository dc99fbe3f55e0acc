-- The seats, and then the board.
use Rattle.std.proofs.Common.{ℕ, None, List, map, subst, sym}
use Rattle.play_event.specs.Places.{Place, group_of}
use Rattle.card_places.specs.Ordered.{on_seats, on_street}
use Rattle.card_places.specs.Placed.{placed}
use Rattle.card_places.specs.Plain.{place_of}
use Rattle.card_places.proofs.InOrder.{in_front, is_behind, past_both, split_board, Splits}
use Rattle.card_set.proofs.Options.{along}
use Rattle.card_places.proofs.card_state.CardState.in_street.Goals as goal
use Rattle.card_set.proofs.Results.{if_err}

pub returns-in-Ok-clause-found : goal.returns-in-Ok-clause-found
returns-in-Ok-clause-found c =
    let seats : ℕ = c.args.self.now.seats in
    let ps : List Place = placed c.args.self.now.places in
    in_front (on_street seats ps c.args.street) (on_seats ps c.args.street 1 seats) (group_of ps c.args.street None) c.args.index (place_of c.in-Ok.card)
    (split_board seats ps c.args.street) c.in-Ok.ensures.found

pub returns-in-Err-clause-found : goal.returns-in-Err-clause-found
returns-in-Err-clause-found c =
    let seats : ℕ = c.args.self.now.seats in
    let ps : List Place = placed c.args.self.now.places in
    let rows : List Place = map place_of c.as_slice.result.now in
    let splits : Splits (on_street seats ps c.args.street) (on_seats ps c.args.street 1 seats) (group_of rows c.args.street None) = subst (λ (l : List Place). Splits (on_street seats ps c.args.street) (on_seats ps c.args.street 1 seats) (group_of l c.args.street None)) (sym c.as_slice.ensures.placed) (split_board seats ps c.args.street) in
    along c.in_group.result
    (λ card got.
    is_behind (on_street seats ps c.args.street) (on_seats ps c.args.street 1 seats) (group_of rows c.args.street None) c.args.index c.in-Err.left (place_of card) splits c.in-Err.ensures.past got) c.in_group.ensures.found

pub returns-in-Err-clause-past : goal.returns-in-Err-clause-past
returns-in-Err-clause-past c =
    let seats : ℕ = c.args.self.now.seats in
    let ps : List Place = placed c.args.self.now.places in
    let rows : List Place = map place_of c.as_slice.result.now in
    let splits : Splits (on_street seats ps c.args.street) (on_seats ps c.args.street 1 seats) (group_of rows c.args.street None) = subst (λ (l : List Place). Splits (on_street seats ps c.args.street) (on_seats ps c.args.street 1 seats) (group_of l c.args.street None)) (sym c.as_slice.ensures.placed) (split_board seats ps c.args.street) in
    if_err c.in_group.result
    (λ rest past. past_both (on_street seats ps c.args.street) (on_seats ps c.args.street 1 seats) (group_of rows c.args.street None) c.args.index c.in-Err.left rest splits c.in-Err.ensures.past past) c.in_group.ensures.past
