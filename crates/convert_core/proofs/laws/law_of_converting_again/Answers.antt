use Rattle.convert_core.proofs.Conversions.{output_again}
use Rattle.convert_core.proofs.laws.law_of_converting_again.Goals as goal

pub returns : goal.returns
returns g c = λ bytes output answer done once_more.
    output_again (g.met.A.Notation.lawful c.args.from.now) (g.met.N.Notation.lawful c.args.to.now) c.args.keep c.args.again bytes output answer done once_more
