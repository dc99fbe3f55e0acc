use Rattle.convert_core.proofs.laws.law_of_sharpness.Goals as goal

pub returns : goal.returns
returns g c = (g.met.N.Notation.lawful c.args.notation.now).sharp c.args.keep
