use Rattle.convert_core.proofs.Conversions.{one_unspelled, spelled_or_not}
use Rattle.convert_core.proofs.LawfulNotations.{no_fault}
use Rattle.convert_core.proofs.OneConversion.{one_refused_hand, refused_or_played}
use Rattle.convert_core.proofs.laws.law_of_one_conversion.Goals as goal

pub returns-clause-read_or_fail : goal.returns-clause-read_or_fail
returns-clause-read_or_fail g c = λ bytes. (g.met.N.Notation.lawful c.args.from.now).read_or_fail bytes

pub returns-clause-unread : goal.returns-clause-unread
returns-clause-unread g c = λ bytes. no_fault (g.met.N.Notation.lawful c.args.from.now) bytes

pub returns-clause-refused : goal.returns-clause-refused
returns-clause-refused g c = λ bytes.
    one_refused_hand ((g.N.Notation.meaning c.args.from.now).Say bytes) ((g.met.N.Notation.lawful c.args.from.now).one_reading bytes)

pub returns-clause-played : goal.returns-clause-played
returns-clause-played g c = λ bytes.
    refused_or_played ((g.N.Notation.meaning c.args.from.now).Say bytes) ((g.met.N.Notation.lawful c.args.from.now).one_reading bytes)

pub returns-clause-unspelled : goal.returns-clause-unspelled
returns-clause-unspelled g c = λ bytes.
    one_unspelled (g.met.N.Notation.lawful c.args.from.now) bytes ((g.M.Notation.meaning c.args.to.now).unspelled c.args.keep) ((g.met.M.Notation.lawful c.args.to.now).same_fact c.args.keep)

pub returns-clause-spelled : goal.returns-clause-spelled
returns-clause-spelled g c = λ bytes.
    spelled_or_not (g.met.N.Notation.lawful c.args.from.now) bytes ((g.M.Notation.meaning c.args.to.now).unspelled c.args.keep) ((g.met.M.Notation.lawful c.args.to.now).same_fact c.args.keep)
