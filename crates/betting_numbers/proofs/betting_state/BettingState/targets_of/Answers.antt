-- The player to act may raise to the targets of the rules.
use Rattle.std.proofs.Common.{◌≡◌, ◌≤◌, ℕ, Option, IfSome, sym, ap, subst, ◌∙◌}
use Rattle.chip_ledger.specs.declared.numbers.Seat.{Seat}
use Rattle.play_event.specs.Past.{moves_of}
use Rattle.play_event.specs.Openers.{TheSeat}
use Rattle.betting_numbers.specs.TurnSaid.{turn_of}
use Rattle.play_event.specs.TurnTargets.{AreTargets, may_raise_now}
use Rattle.betting_numbers.proofs.TargetEnds.{targets_are, same_turn}
use Rattle.betting_numbers.proofs.WhyRaise.{may_raise_is}
use Rattle.betting_numbers.proofs.betting_state.BettingState.targets_of.Goals as goal
use Rattle.chip_ledger.specs.SeatsSaid.{seat_said}

pub returns-then-may_raise-clause-some : goal.returns-then-may_raise-clause-some
returns-then-may_raise-clause-some c =
    let b = c.args.self.now in
    let m = c.in-Some.seat in
    λ past stands. sym (ap (λ (t : Option Seat). may_raise_now b.setup b.rules (moves_of past) b.street (turn_of (seat_said t))) c.in-Some.is
    ∙ may_raise_is b (moves_of past) stands.standing m.number (record { first = m.first; last = subst (λ (t : Option Seat). IfSome t (λ seat. seat.number ≤ b.setup.stacks.seats)) c.in-Some.is c.requires.in_hand }) c.args.limit c.requires.limit
    ∙ sym c.may_raise.ensures ∙ c.if-may_raise.true)

pub returns-else-may_raise-clause-some : goal.returns-else-may_raise-clause-some
returns-else-may_raise-clause-some c =
    let b = c.args.self.now in
    let m = c.in-Some.seat in
    λ past stands. sym (ap (λ (t : Option Seat). may_raise_now b.setup b.rules (moves_of past) b.street (turn_of (seat_said t))) c.in-Some.is
    ∙ may_raise_is b (moves_of past) stands.standing m.number (record { first = m.first; last = subst (λ (t : Option Seat). IfSome t (λ seat. seat.number ≤ b.setup.stacks.seats)) c.in-Some.is c.requires.in_hand }) c.args.limit c.requires.limit
    ∙ sym c.may_raise.ensures ∙ c.if-may_raise.false)

pub returns-then-may_raise-clause-ends : goal.returns-then-may_raise-clause-ends
returns-then-may_raise-clause-ends c =
    let b = c.args.self.now in
    let m = c.in-Some.seat in
    λ past stands seat turn.
    let same : TheSeat m.number ≡ TheSeat seat = sym (ap (λ (t : Option Seat). turn_of (seat_said t)) c.in-Some.is) ∙ turn in
    subst (λ (n : ℕ). AreTargets b.setup b.rules (moves_of past) b.street n c.least_to.result c.greatest_to.result c.all_in.result) (same_turn m.number seat same)
    (targets_are b (moves_of past) stands.standing m.number (record { first = m.first; last = subst (λ (t : Option Seat). IfSome t (λ seat. seat.number ≤ b.setup.stacks.seats)) c.in-Some.is c.requires.in_hand }) c.args.limit c.requires.limit c.least_to.result c.greatest_to.result c.all_in.result c.least_to.ensures c.greatest_to.ensures c.all_in.ensures.value)
