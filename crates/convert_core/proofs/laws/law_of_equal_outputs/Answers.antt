use Rattle.convert_core.proofs.Conversions.{equal_outputs}
use Rattle.convert_core.proofs.laws.law_of_equal_outputs.Goals as goal

pub returns : goal.returns
returns g c = λ bytes too output written plays others read read_too done done_too.
    equal_outputs (g.met.A.Notation.lawful c.args.from.now) (g.met.B.Notation.lawful c.args.other.now) (g.met.N.Notation.lawful c.args.to.now) c.args.keep bytes too output written plays others read read_too done done_too
