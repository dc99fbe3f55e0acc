-- The texts of the options at the points of a hand, one after the other.
use Rattle.std.specs.Prelude.{◌≡◌, ℕ, ◌+◌, List, [], ◌++◌}
use Rattle.hand_canon.specs.SoundRecord.{script_said}
use Rattle.hand_canon.specs.declared.record.Record.{Record}
use Rattle.play_event.specs.Scripts.{past_after}
use Rattle.hand_options.specs.declared.choices.Options.{Options}
use Rattle.hand_options.specs.Legal.{AreOptions}
use Rattle.hand_options.specs.Printed.{options_said}

-- The options of the hand with this number before its first event, after one event, after two, and
-- so on: at this number of points.
pub data AreOptionTexts (number : ℕ) (hand : Record) : (points : ℕ) → (text : List ℕ) → Type 0 where
  -- at no point
  NoPoint : AreOptionTexts number hand 0 []
  -- at one point more: as many events as there were points before it have taken place
  OneMore : (points : ℕ) (text : List ℕ) → AreOptionTexts number hand points text
      → (options : Options)
      → AreOptions hand.setup hand.rules (past_after hand.setup (script_said hand) points) options
      → AreOptionTexts number hand (points + 1) (text ++ options_said number points options)

-- The options at this number of points come after a text.
pub record HasOptionTexts (number : ℕ) (hand : Record) (points : ℕ) (before text : List ℕ) : Type 0
  where
    pub added : List ℕ
    pub are : AreOptionTexts number hand points added
    pub said : text ≡ before ++ added
