-- The refused hand is visited, if the visitor continues after one.
use Rattle.std.proofs.Common.{rules, ◌≡◌, true, sym}
use Rattle.convert_core.proofs.Taken.{now_passed}
use Rattle.convert_core.proofs.taking.pass_hand.Goals as goal

pub returns-clause-passed : goal.returns-clause-passed
returns-clause-passed g c = λ start kept hands hand refused before.
    let on : g.T.VerdictVisitor.CONTINUES ≡ true = search rules in
    now_passed g.T.VerdictVisitor.CONTINUES g.T.VerdictVisitor.KEEPS (g.T.VerdictVisitor.Took start c.args.visitor.now) (g.T.VerdictVisitor.Took start c.refused.new.self) hands c.args.place.index kept hand c.args.why before on refused
    (c.in_ok-refused.ensures start before.verdicts hand on (sym before.counted) refused before.took)
