use Rattle.convert_core.specs.Meaning.{AreReadBack}
use Rattle.hand_canon.specs.SameHands.{kept_notes}
use Rattle.convert_core.proofs.Conversions.{converted_alone}
use Rattle.convert_core.proofs.laws.law_of_legal_conversions.Goals as goal

pub returns : goal.returns
returns g c = λ bytes plays answer read spelled is.
    let to = g.M.Notation.meaning c.args.to.now in
    converted_alone (g.met.N.Notation.lawful c.args.from.now) bytes (to.unspelled c.args.keep) ((g.met.M.Notation.lawful c.args.to.now).same_fact c.args.keep) to.Spell
    (AreReadBack to (kept_notes c.args.keep to.kept)) plays answer read spelled is
