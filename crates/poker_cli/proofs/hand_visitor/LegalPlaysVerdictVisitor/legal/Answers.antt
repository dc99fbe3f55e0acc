-- The play of one more legal hand is taken after those of the hands before it.
use Rattle.std.proofs.Common.{List, arith, refl, subst, sym, ◌∙◌}
use Rattle.card_set.proofs.Results.{on_ok}
use Rattle.convert_core.proofs.Taken.{all_counted, legal_more}
use Rattle.convert_core.specs.Verdicts.{legal_plays}
use Rattle.hand_canon.specs.declared.trace.Play.{Play}
use Rattle.poker_cli.proofs.JudgedLines.{legal_few}
use Rattle.poker_cli.proofs.hand_visitor.LegalPlaysVerdictVisitor.legal.Goals as goal

pub take_play-requires : goal.take_play-requires
take_play-requires g c =
    let taken = c.requires.1 in (
      c.requires.0.visitor,
      record {
        plays = legal_plays taken.verdicts;
        took = taken.took;
        few = omega (arith, legal_few taken.verdicts, taken.counted);
      },
    )

pub returns : goal.returns
returns g c = λ start before counted legal took.
    on_ok c.take_play.result
    (subst (λ (plays : List Play). g.T.HandVisitor.TookPlays start.visitor c.take_play.new.self plays) (sym (legal_more before c.args.play.now)))
    (c.take_play.ensures start.visitor (legal_plays before) (sym (all_counted before (legal refl)) ∙ counted) took)
