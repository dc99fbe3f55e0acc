-- Plays whose hand is legal, with its trace, and whose stated facts all agree.
use Rattle.std.specs.Prelude.{◌≡◌, None}
use Rattle.play_event.specs.Scripts.{past_at_end}
use Rattle.hand_canon.specs.SoundRecord.{script_said}
use Rattle.hand_canon.specs.declared.record.Record.{Record}
use Rattle.hand_canon.specs.declared.trace.Play.{Play}
use Rattle.hand_canon.specs.declared.trace.Trace.{Trace}
use Rattle.hand_canon.specs.Agreement.{first_difference}
use Rattle.hand_canon.specs.LegalHand.{IsLegalHand}
use Rattle.hand_canon.specs.WholeTrace.{IsTraceOf}

-- a trace is that of a record whose hand is legal
pub record IsTraceOfLegal (hand : Record) (trace : Trace) : Type 0 where
  pub legal : IsLegalHand hand.setup hand.rules (script_said hand)
  pub whole : IsTraceOf hand.setup (past_at_end hand.setup (script_said hand)) trace

-- the hand of a play is legal and has this trace, and every stated fact agrees with it
pub record IsLegalPlay (play : Play) : Type 0 where
  pub traced : IsTraceOfLegal play.hand play.trace
  pub agrees : first_difference play.trace play.hand.stated ≡ None
