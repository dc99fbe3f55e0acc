use Rattle.convert_core.proofs.Conversions.{same_answers}
use Rattle.convert_core.proofs.laws.law_of_converting_by_way.Goals as goal

pub returns : goal.returns
returns g c = λ bytes output first second done straight by_way.
    same_answers (g.met.A.Notation.lawful c.args.from.now) (g.met.B.Notation.lawful c.args.by.now) (g.met.C.Notation.lawful c.args.to.now) c.args.keep bytes output done first second straight by_way
