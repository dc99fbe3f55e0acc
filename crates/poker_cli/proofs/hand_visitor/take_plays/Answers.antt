-- The plays of all hands are taken.
use Rattle.std.proofs.Common.{◌≡◌, List, [], refl, subst}
use Rattle.convert_core.proofs.Taken.{plays_are}
use Rattle.convert_core.specs.Verdicts.{legal_plays}
use Rattle.hand_canon.specs.declared.trace.Play.{Play}
use Rattle.poker_cli.proofs.hand_visitor.take_plays.Goals as goal

-- there are none before the first hand
no_plays : [] ≡ legal_plays []
unfolding legal_plays
no_plays = refl

pub judge_all-requires : goal.judge_all-requires
judge_all-requires g c =
    subst (λ (plays : List Play). g.T.HandVisitor.TookPlays c.args.visitor c.args.visitor plays) no_plays c.requires

pub returns-clause-taken : goal.returns-clause-taken
returns-clause-taken g c =
    let taken = c.in_ok-judge_all.ensures.taken in
    record { plays = legal_plays taken.verdicts; are = plays_are _ _ _ _ _ taken; took = taken.took }
