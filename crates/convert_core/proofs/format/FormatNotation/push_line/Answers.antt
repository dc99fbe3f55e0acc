-- One more line in a format is one more line in its notation.
use Rattle.std.proofs.Common.{◌≡◌, true, List, [], ◌∷◌, ◌++◌, length, subst, sym}
use Rattle.std.specs.Prelude.{OnOk}
use Rattle.convert_core.specs.Formats.{meaning_of}
use Rattle.convert_core.specs.declared.format.Format.{Format}
use Rattle.hand_canon.specs.declared.trace.Play.{Play}
use Rattle.convert_core.proofs.format.FormatNotation.push_line.Goals as goal

pub returns-in-Acpc-clause-line : goal.returns-in-Acpc-clause-line
returns-in-Acpc-clause-line c =
    subst
    (λ (format : Format). (meaning_of format).is_lined ≡ true → (before : List Play) → length before ≡ c.args.place → (meaning_of format).Spell before c.args.out.now.items
    → OnOk c.push_line-in-Acpc.result ((meaning_of format).Spell (before ++ c.args.play.now ∷ []) c.push_line-in-Acpc.new.out.items))
    (sym c.in-Acpc.is) c.push_line-in-Acpc.ensures.line
