-- What `options` answers: the legal moves at a point of a hand.
use Rattle.std.specs.Prelude.{◌≡◌, ℕ, ◌<◌, ◌≤◌, List, ◌++◌, length, codes, Some, None}
use Rattle.std.specs.Fmt.{decimal}
use Rattle.hand_options.specs.declared.choices.Options.{Options}
use Rattle.hand_options.specs.Legal.{AreOptions}
use Rattle.hand_options.specs.Printed.{options_said}
use Rattle.hand_canon.specs.SoundRecord.{script_said}
use Rattle.hand_canon.specs.declared.trace.Play.{Play}
use Rattle.play_event.specs.Scripts.{past_after}
use Rattle.poker_cli.specs.AnswerParts.{Answer, done, hand_numbered, no_hand, of_text, refusal}
use Rattle.poker_cli.specs.declared.status.Status.TheVariants as statuses

-- the hand with this number has fewer events
abbrev pub no_event : ℕ → ℕ → ℕ → Answer
no_event number events all =
    refusal statuses.NoSuch
    (codes "no such event: hand " ++ (decimal number ++ (codes ": " ++ of_text events all)))

-- What is legal after the first events of the hand with this number.
pub data AreOptionsAt (number events : ℕ) (plays : List Play) : Answer → Type 0 where
  -- no hand has this number
  NoHand : hand_numbered plays number ≡ None
      → AreOptionsAt number events plays (no_hand number (length plays))
  -- the hand has fewer events
  NoEvent : (play : Play) → hand_numbered plays number ≡ Some play
      → length play.hand.script < events
      → AreOptionsAt number events plays (no_event number events (length play.hand.script))
  -- these are the options of the player to act after these events
  Listed : (play : Play) → hand_numbered plays number ≡ Some play → events ≤ length play.hand.script
      → (options : Options)
      → AreOptions play.hand.setup play.hand.rules
      (past_after play.hand.setup (script_said play.hand) events) options
      → AreOptionsAt number events plays (done (options_said number events options))
