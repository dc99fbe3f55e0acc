-- The plays that are kept are those of the records.
use Rattle.std.proofs.lemmas.Result.{IfOk-weaker}
use Rattle.convert_core.proofs.Taken.{kept_are, kept_sound}
use Rattle.convert_core.proofs.retained_plays.plays_of.Goals as goal

pub returns-clause-plays : goal.returns-clause-plays
returns-clause-plays c =
    IfOk-weaker c.judge_all.result _ _ (λ plays taken. kept_are _ c.args.records _ plays.items taken) c.judge_all.ensures.taken

pub returns-clause-sound : goal.returns-clause-sound
returns-clause-sound c =
    IfOk-weaker c.judge_all.result _ _
    (λ plays taken. kept_sound c.args.records plays.items c.judge_all.ensures.sound (kept_are _ c.args.records _ plays.items taken))
    c.judge_all.ensures.taken
