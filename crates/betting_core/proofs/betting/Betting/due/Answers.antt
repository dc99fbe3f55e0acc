-- The numbers are those of the past.
use Rattle.std.proofs.Common.{ℕ, sym, ap}
use Rattle.play_event.specs.declared.reason.Due.{Due}
use Rattle.play_laws.proofs.DueStreets.{here_within}
use Rattle.betting_core.proofs.betting.Betting.due.Goals as goal

pub returns-clause-stands : goal.returns-clause-stands
returns-clause-stands g c = rw (← c.self.view_is) (λ past stands. sym (ap (λ (p : ℕ × Due). p.1) stands.turn_is))

pub returns-clause-within : goal.returns-clause-within
returns-clause-within g c =
    let kept = c.self.invariant.kept in
    here_within c.self.inside.numbers.due c.self.inside.numbers.street g.V.Variant.STREETS kept.here kept.first kept.last
