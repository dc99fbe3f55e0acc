-- One more hand is written, or nothing is if one was refused before.
use Rattle.std.proofs.Common.{◌++◌, ◌∷◌, [], ◌+◌, Some, refl, subst, sym, ◌∙◌}
use Rattle.hand_canon.specs.declared.trace.Play.{Play}
use Rattle.hand_canon.specs.declared.writing.WriteRefusal.TheVariants as refusals
use Rattle.convert_core.proofs.Taken.{all_counted}
use Rattle.convert_core.proofs.WrittenLines.{behind_refused, none_is, now_refused, now_spelled}
use Rattle.convert_core.specs.Lines.{IsWritten}
use Rattle.convert_core.specs.Verdicts.{Legal, legal_plays}
use Rattle.convert_core.proofs.lines.WriterVerdictVisitor.legal.Goals as goal

pub returns-then-is_some : goal.returns-then-is_some
returns-then-is_some g c = λ start before counted legal took.
    let it = c.args.self.now in (
      took.0,
      took.1,
      behind_refused (g.N.Notation.meaning it.to.now) it.keep it.refusal it.out.items before c.args.judged.now
          (sym c.is_some.ensures ∙ c.if-is_some.true) took.2,
    )

pub returns-in_ok-push_line-in-None : goal.returns-in_ok-push_line-in-None
returns-in_ok-push_line-in-None g c = λ start before counted legal took.
    let it = c.args.self.now in
    let none = none_is it.refusal (sym c.is_some.ensures ∙ c.if-is_some.false) in (
      took.0,
      took.1,
      subst (λ (play : Play). IsWritten (g.N.Notation.meaning it.to.now) it.keep it.refusal c.push_line.new.out.items (before ++ Legal play ∷ [])) c.play-play.ensures.same
          (now_spelled (g.N.Notation.meaning it.to.now) it.keep it.refusal it.out.items c.push_line.new.out.items before c.play-play.result.now
          none (sym c.spells.ensures ∙ c.in-None.is) took.2
          (subst (λ (play : Play). (g.N.Notation.meaning it.to.now).Spell (legal_plays before ++ play ∷ []) c.push_line.new.out.items) c.new-play.ensures
          (c.in_ok-push_line-in-None.ensures.line took.2.lined _ (sym (all_counted before (legal refl)) ∙ counted) (took.2.spell none)))),
    )

pub returns-in-Some : goal.returns-in-Some
returns-in-Some g c = λ start before counted legal took.
    let it = c.args.self.now in (
      took.0,
      took.1,
      subst (λ (play : Play). IsWritten (g.N.Notation.meaning it.to.now) it.keep (Some (refusals.Unspelled (c.args.place.index + 1) c.in-Some.fact)) it.out.items (before ++ Legal play ∷ [])) c.play-play.ensures.same
          (now_refused (g.N.Notation.meaning it.to.now) it.keep it.refusal it.out.items before c.play-play.result.now c.args.place.index c.in-Some.fact
          counted legal (none_is it.refusal (sym c.is_some.ensures ∙ c.if-is_some.false)) (sym c.spells.ensures ∙ c.in-Some.is) took.2),
    )
