-- The numbers are those of the past.
use Rattle.std.proofs.Common.{ℕ, sym, ap, ◌∙◌}
use Rattle.play_event.specs.declared.reason.Due.{Due}
use Rattle.play_event.specs.Past.{moves_of}
use Rattle.play_event.specs.Due.{is_settled}
use Rattle.betting_numbers.proofs.Views.{settled_is}
use Rattle.betting_core.proofs.betting.Betting.settled.Goals as goal

pub returns-clause-stands : goal.returns-clause-stands
returns-clause-stands g c =
    let b = c.self.inside.numbers in
    rw (← c.self.view_is) (λ past stands. c.settled.ensures ∙ settled_is b (moves_of past) stands.standing ∙ ap (λ (now : ℕ × Due). is_settled b.setup (moves_of past) now) (sym stands.turn_is))

pub returns-clause-up_to : goal.returns-clause-up_to
returns-clause-up_to g c =
    let b = c.self.inside.numbers in
    rw (← c.self.view_is) (λ past stands. c.settled.ensures ∙ settled_is b (moves_of past) stands.standing)
