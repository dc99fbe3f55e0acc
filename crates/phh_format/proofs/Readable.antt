-- What a reader needs of a play, so that it reads back after it was written.
use Rattle.std.specs.Prelude.{◌≡◌, ℕ, ◌<◌, count_by}
use Rattle.std.specs.List.{AllByRecursion}
use Rattle.play_event.specs.PlayedScript.{IsWithinLimits, is_move_event}
use Rattle.chip_ledger.specs.RakeRow.{rake_of}
use Rattle.play_event.specs.ValidSetup.{IsValid}
use Rattle.hand_canon.specs.declared.trace.Play.{Play}
use Rattle.hand_canon.specs.AllowedNotes.{AreAllowed}
use Rattle.phh_format.specs.HandFields.{script_of}
use Rattle.play_event.specs.Ranges.{IsInRange}

-- Its setup is valid, an action can express each event of its canonical script, which is within the
-- limits, there is no rake past the last pot, and its notes are allowed.
pub record IsReadable (play : Play) : Type 0 where
  pub valid : IsValid play.trace.setup
  pub events : AllByRecursion (IsInRange play.trace.setup.stacks.seats) (script_of play.trace)
  pub within : IsWithinLimits (script_of play.trace)
  pub finish : play.trace.finish.seats ≡ play.trace.setup.stacks.seats
  pub no_more_rakes : (pot : ℕ) → play.trace.pots.count < pot → rake_of play.trace.setup.rakes pot ≡ 0
  pub notes : AreAllowed play.trace.setup.stacks.seats play.hand.notes

-- the moves that are written of a play
abbrev pub moves_written : Play → ℕ
moves_written play = count_by is_move_event (script_of play.trace)
