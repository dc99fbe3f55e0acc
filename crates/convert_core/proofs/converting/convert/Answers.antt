-- The result for the records is that for the bytes.
use Rattle.std.proofs.Common.{rules, ◌≡◌, List, None, subst}
use Rattle.std.proofs.lemmas.List.Elements.{recursion_from_All}
use Rattle.hand_canon.specs.Sound.{IsSound}
use Rattle.hand_canon.specs.SameHands.{kept_notes}
use Rattle.hand_canon.specs.WriteRefusals.{first_refusal}
use Rattle.hand_canon.specs.declared.trace.Play.{Play}
use Rattle.convert_core.proofs.KeptByChoice.{kept_back}
use Rattle.convert_core.proofs.WrittenLines.{few_plays, of_file}
use Rattle.convert_core.specs.Meaning.{AreReadBack}
use Rattle.convert_core.proofs.converting.convert.Goals as goal

pub returns-then-has_lines : goal.returns-then-has_lines
returns-then-has_lines g c =
    let from = g.N.Notation.meaning c.args.from.now in
    let to = g.M.Notation.meaning c.args.to.now in
    let law = g.met.M.Notation.lawful c.args.to.now in
    let file = (g.met.N.Notation.lawful c.args.from.now).reads_file c.args.bytes.now c.in_ok-records.records c.in_ok-records.ensures.said in
    of_file (from.Say c.args.bytes.now) (from.HaveFault c.args.bytes.now) (to.unspelled c.args.keep) to.Spell (AreReadBack to (kept_notes c.args.keep to.kept))
    (λ output. output.items) c.in_ok-records.records c.write_records.result c.in_ok-records.ensures.said
    (λ plays output are sound spelled spell.
    let few = few_plays c.in_ok-records.records plays are file.few file.few_moves in
    let each = recursion_from_All IsSound plays sound in
    kept_back law c.args.keep plays output few.few each spelled (law.reads_back c.args.keep plays output few each spelled spell))
    c.write_records.ensures

pub returns-in-Ok : goal.returns-in-Ok
returns-in-Ok g c =
    let plays = c.in_ok-plays.plays.items in
    let output = c.in-Ok.output.items in
    let to = g.M.Notation.meaning c.args.to.now in
    let law = g.met.M.Notation.lawful c.args.to.now in
    let same : c.deref.result.now ≡ plays = search rules in
    let spelled = subst (λ (ps : List Play). first_refusal (to.unspelled c.args.keep) ps ≡ None) same c.in-Ok.ensures.spelled in
    let spell = subst (λ (ps : List Play). to.Spell ps output) same c.in-Ok.ensures.spell in
    let few = c.in_ok-plays.ensures.few in
    let sound = c.in_ok-plays.ensures.sound in
    record {
      plays = plays;
      read = c.in_ok-plays.ensures.plays;
      spelled = spelled;
      spell = spell;
      back = kept_back law c.args.keep plays output few.few sound spelled (law.reads_back c.args.keep plays output few sound spelled spell);
    }
