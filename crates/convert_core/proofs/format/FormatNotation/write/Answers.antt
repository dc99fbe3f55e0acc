-- What a format writes and refuses is what its notation writes and refuses.
use Rattle.std.proofs.Common.{◌≡◌, ◌⊎◌, None, Some, IfOk, subst, sym}
use Rattle.std.specs.Prelude.{IfErr, OnOk}
use Rattle.convert_core.specs.Formats.{meaning_of}
use Rattle.convert_core.specs.declared.format.Format.{Format}
use Rattle.hand_canon.specs.WriteRefusals.{IsOutOfMemory, first_refusal}
use Rattle.convert_core.proofs.format.FormatNotation.write.Goals as goal

pub returns-in-Phh-clause-spell : goal.returns-in-Phh-clause-spell
returns-in-Phh-clause-spell c =
    subst (λ (format : Format). IfOk c.write.result (λ bytes. (meaning_of format).Spell c.args.plays.now bytes.items)) (sym c.in-Phh.is) c.write.ensures.spell

pub returns-in-Acpc-clause-spell : goal.returns-in-Acpc-clause-spell
returns-in-Acpc-clause-spell c =
    subst (λ (format : Format). IfOk c.write-in-Acpc.result (λ bytes. (meaning_of format).Spell c.args.plays.now bytes.items)) (sym c.in-Acpc.is) c.write-in-Acpc.ensures.spell

pub returns-in-Phh-clause-spelled : goal.returns-in-Phh-clause-spelled
returns-in-Phh-clause-spelled c =
    subst (λ (format : Format). OnOk c.write.result (first_refusal ((meaning_of format).unspelled c.args.keep) c.args.plays.now ≡ None))
    (sym c.in-Phh.is) c.write.ensures.spelled

pub returns-in-Phh-clause-refused : goal.returns-in-Phh-clause-refused
returns-in-Phh-clause-refused c =
    subst (λ (format : Format). IfErr c.write.result (λ refusal. IsOutOfMemory refusal ⊎ (first_refusal ((meaning_of format).unspelled c.args.keep) c.args.plays.now ≡ Some refusal)))
    (sym c.in-Phh.is) c.write.ensures.refused

pub returns-in-Ohh-clause-refused : goal.returns-in-Ohh-clause-refused
returns-in-Ohh-clause-refused c =
    subst (λ (format : Format). IfErr c.write-in-Ohh.result (λ refusal. IsOutOfMemory refusal ⊎ (first_refusal ((meaning_of format).unspelled c.args.keep) c.args.plays.now ≡ Some refusal)))
    (sym c.in-Ohh.is) c.write-in-Ohh.ensures.refused

pub returns-in-Acpc-clause-refused : goal.returns-in-Acpc-clause-refused
returns-in-Acpc-clause-refused c =
    subst (λ (format : Format). IfErr c.write-in-Acpc.result (λ refusal. IsOutOfMemory refusal ⊎ (first_refusal ((meaning_of format).unspelled c.args.keep) c.args.plays.now ≡ Some refusal)))
    (sym c.in-Acpc.is) c.write-in-Acpc.ensures.refused
