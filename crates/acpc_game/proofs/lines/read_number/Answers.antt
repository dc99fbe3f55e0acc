use Rattle.std.proofs.Common.{ℕ, ◌≤◌, subst}
use Rattle.acpc_game.proofs.Steps.{at_most}
use Rattle.acpc_game.proofs.lines.read_number.Goals as goal

pub returns-in-Some-clause-bounded : goal.returns-in-Some-clause-bounded
returns-in-Some-clause-bounded c = subst (λ (most : ℕ). c.in-Some.number ≤ most) c.most.ensures (at_most c.most.result c.args.word.now c.in-Some.number c.in-Some.ensures)
