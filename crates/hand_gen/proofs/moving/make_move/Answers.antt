-- The move is that of the rules.
use Rattle.std.proofs.Common.{ap, nat_lt, ◌∙◌}
use Rattle.play_event.specs.Past.{moves_of}
use Rattle.play_event.specs.CurrentBet.{to_call}
use Rattle.betting_numbers.proofs.Bridge.{owed_is}
use Rattle.hand_gen.specs.Coming.{move_by, move_of}
use Rattle.hand_gen.specs.Seen.{ends_said}
use Rattle.hand_gen.proofs.TargetLaws.{ends_are}
use Rattle.hand_gen.proofs.moving.make_move.Goals as goal

pub returns-clause-event : goal.returns-clause-event
returns-clause-event g c =
    let b = c.args.betting.now in
    let seat = c.args.seat in
    λ past stands holds turned.
    c.chosen.ensures
    ∙ ap (λ n. move_of (nat_lt 0 n) (ends_said c.targets-ends.result) seat.number c.draw-number.result)
    (c.to_call-owes.ensures.value ∙ owed_is b (moves_of past) stands.standing seat.number (record { first = seat.first; last = c.requires.in_hand }))
    ∙ ap (λ e. move_of (nat_lt 0 (to_call b.setup (moves_of past) b.street seat.number)) e seat.number c.draw-number.result) (ends_are b past seat.number c.targets-ends.result stands c.requires.bets turned (c.targets-ends.ensures.some past stands holds) (c.targets-ends.ensures.ends past stands holds))
    ∙ ap (λ n. move_by b.setup b.rules (moves_of past) b.street seat.number n) c.draw-number.ensures.drawn
