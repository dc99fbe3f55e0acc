-- What bytes say in a format is what they say in its notation.
use Rattle.std.proofs.Common.{IfOk, subst, sym}
use Rattle.convert_core.specs.Formats.{meaning_of}
use Rattle.convert_core.specs.declared.format.Format.{Format}
use Rattle.convert_core.proofs.format.FormatNotation.read.Goals as goal

pub returns-in-Phh-clause-say : goal.returns-in-Phh-clause-say
returns-in-Phh-clause-say c = subst (λ (format : Format). IfOk c.read.result ((meaning_of format).Say c.args.bytes.now)) (sym c.in-Phh.is) c.read.ensures.say

pub returns-in-Ohh-clause-say : goal.returns-in-Ohh-clause-say
returns-in-Ohh-clause-say c = subst (λ (format : Format). IfOk c.read-in-Ohh.result ((meaning_of format).Say c.args.bytes.now)) (sym c.in-Ohh.is) c.read-in-Ohh.ensures.say

pub returns-in-Acpc-clause-say : goal.returns-in-Acpc-clause-say
returns-in-Acpc-clause-say c = subst (λ (format : Format). IfOk c.read-in-Acpc.result ((meaning_of format).Say c.args.bytes.now)) (sym c.in-Acpc.is) c.read-in-Acpc.ensures.say
