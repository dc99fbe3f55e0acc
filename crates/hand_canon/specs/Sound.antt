-- Sound plays: a valid setup, a legal script within the limits, its trace, and allowed notes.
use Rattle.play_event.specs.Scripts.{past_at_end}
use Rattle.play_event.specs.ValidSetup.{IsValid}
use Rattle.hand_canon.specs.declared.trace.Play.{Play}
use Rattle.hand_canon.specs.AllowedNotes.{AreAllowed}
use Rattle.hand_canon.specs.SoundRecord.{script_said}
use Rattle.play_event.specs.PlayedScript.{IsWithinLimits}
use Rattle.hand_canon.specs.LegalHand.{IsLegalHand}
use Rattle.hand_canon.specs.WholeTrace.{IsTraceOf}

-- a play is sound
pub record IsSound (play : Play) : Type 0 where
  pub valid : IsValid play.hand.setup
  pub within : IsWithinLimits (script_said play.hand)
  pub legal : IsLegalHand play.hand.setup play.hand.rules (script_said play.hand)
  pub trace :
      IsTraceOf play.hand.setup (past_at_end play.hand.setup (script_said play.hand)) play.trace
  pub notes : AreAllowed play.hand.setup.stacks.seats play.hand.notes
