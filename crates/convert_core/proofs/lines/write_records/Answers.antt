-- At the end all hands are written, or the first fact that cannot be expressed is reported.
use Rattle.std.proofs.Common.{false, rules, refl, subst, ◌∙◌}
use Rattle.convert_core.specs.Judged.{IsPlaysFaultOf}
use Rattle.convert_core.specs.declared.refusal.PlaysFault.{PlaysFault}
use Rattle.convert_core.proofs.Taken.{kept_sound, plays_are}
use Rattle.convert_core.proofs.WrittenLines.{none_written}
use Rattle.convert_core.specs.Verdicts.{legal_plays}
use Rattle.convert_core.specs.Lines.{IsWritten}
use Rattle.convert_core.proofs.lines.write_records.Goals as goal

pub judge_all-requires : goal.judge_all-requires
judge_all-requires g c = (
  refl,
  refl,
  none_written (g.N.Notation.meaning c.args.to.now) c.args.keep _
      c.requires ((g.met.N.Notation.lawful c.args.to.now).no_lines c.requires) (search rules),
)

pub returns-in-Err-Refused : goal.returns-in-Err-Refused
returns-in-Err-Refused g c =
    rw (c.in-Err-Refused.hand-is, c.in-Err-Refused.why-is)
    (record {
      records = c.args.records;
      say = refl;
      first = subst (λ (fault : PlaysFault). IsPlaysFaultOf c.args.records fault) c.in-Err-Refused.field-0-is c.in-Err-Refused.ensures.refused;
    })

pub returns-in-None : goal.returns-in-None
returns-in-None g c =
    let taken = c.in-Ok.ensures.taken in
    let took = taken.took in
    let now = c.judge_all.new.visitor in
    let written = subst (λ x. IsWritten (g.N.Notation.meaning x) c.args.keep now.refusal now.out.items taken.verdicts) took.0
    (subst (λ k. IsWritten (g.N.Notation.meaning now.to.now) k now.refusal now.out.items taken.verdicts) took.1 took.2) in
    let are = plays_are false _ c.args.records _ _ taken in
    record {
      plays = legal_plays taken.verdicts;
      read = record { records = c.args.records; say = refl; are = are };
      spelled = written.first ∙ c.in-None.is;
      spell = written.spell c.in-None.is;
      back = kept_sound c.args.records (legal_plays taken.verdicts) c.judge_all.ensures.sound are;
    }

pub returns-in-Some-Unspelled : goal.returns-in-Some-Unspelled
returns-in-Some-Unspelled g c =
    let taken = c.in-Ok.ensures.taken in
    let took = taken.took in
    let now = c.judge_all.new.visitor in
    let written = subst (λ x. IsWritten (g.N.Notation.meaning x) c.args.keep now.refusal now.out.items taken.verdicts) took.0
    (subst (λ k. IsWritten (g.N.Notation.meaning now.to.now) k now.refusal now.out.items taken.verdicts) took.1 took.2) in
    let first = written.first in
    record {
      plays = legal_plays taken.verdicts;
      read = record { records = c.args.records; say = refl; are = plays_are false _ c.args.records _ _ taken };
      first = search rules;
    }
