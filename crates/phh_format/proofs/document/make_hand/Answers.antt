use Rattle.std.proofs.Common.{subst, sym}
use Rattle.canon_laws.proofs.MoveCounts.{tidy_within}
use Rattle.play_event.specs.Tidy.{IsTidy}
use Rattle.hand_canon.specs.SoundRecord.{script_said}
use Rattle.phh_format.proofs.document.make_hand.Goals as goal

pub put_trace-requires-clause-tidy : goal.put_trace-requires-clause-tidy
put_trace-requires-clause-tidy c =
    let hand = c.play-play.result.now.hand in
    let sound = c.play-play.ensures.sound in
    subst IsTidy (sym sound.trace.core) (tidy_within hand.setup hand.rules (script_said hand) sound.legal.played sound.within.moves)
