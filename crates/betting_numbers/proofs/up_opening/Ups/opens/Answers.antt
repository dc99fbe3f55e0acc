-- The leader that is the seat itself does not open before it.
use Rattle.std.proofs.Common.{sym, ◌∙◌}
use Rattle.betting_numbers.proofs.Leading.{opens_alone}
use Rattle.betting_numbers.proofs.up_opening.Ups.opens.Goals as goal

pub returns-then-lead-seat : goal.returns-then-lead-seat
returns-then-lead-seat c = opens_alone c.args.self.now.opener c.args.self.now.numbers.now c.args.self.now.up.now c.args.seat.number c.args.lead.number (sym c.can_act.ensures ∙ c.if-not-can_act.false) c.if-lead-seat.true
