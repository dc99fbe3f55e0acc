-- Before the first card nobody has one, and each owner is owed a hand or a board.
use Rattle.std.proofs.Common.{◌≤◌, List, sym, subst, arith}
use Rattle.play_event.specs.declared.code.Code.{Code}
use Rattle.play_event.specs.Games.{game_of}
use Rattle.play_event.specs.Places.{Place}
use Rattle.card_places.specs.Room.{IsWithin, AreHeldWithin}
use Rattle.card_places.proofs.HeldWithin.{held_first}
use Rattle.card_places.proofs.card_state.CardState.new.Goals as goal

pub invariant_of-result : goal.invariant_of-result
invariant_of-result c =
    let code = c.of.result.code in
    record {
      shown_seats = c.new-nobody.ensures.seats;
      mucked_seats = c.new-nobody.ensures.seats;
      few = subst (λ (game : Code). c.args.seats ≤ (game_of game).seats) (sym c.of.ensures) c.requires.most;
      within = subst (λ (ps : List Place). IsWithin code c.args.seats ps) (sym c.new-places.ensures) (λ owner street. omega arith);
      named = λ street seat five first last. omega (arith, c.new.ensures.named street seat);
      held = subst (λ (ps : List Place). AreHeldWithin code c.args.seats c.new.result ps) (sym c.new-places.ensures) (held_first code c.args.seats c.new.result c.new.ensures.named);
    }
