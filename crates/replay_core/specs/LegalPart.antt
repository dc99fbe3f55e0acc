-- The longest legal beginning of a script: the events before the first illegal one, or all of them.
use Rattle.std.specs.Prelude.{◌≡◌, ℕ, ◌-◌, ◌<◌, ◌≤◌, List, length, reverse, take, Some, None}
use Rattle.play_event.specs.declared.played.Move as rows
use Rattle.play_event.specs.declared.reason.Illegal.{Illegal}
use Rattle.play_event.specs.declared.setup.Rules.{Rules}
use Rattle.play_event.specs.declared.setup.Setup.{Setup}
use Rattle.play_event.specs.Laws.{AreLegal}
use Rattle.play_event.specs.Said.{Said}
use Rattle.play_event.specs.Scripts.{past_after, why_at}
use Rattle.replay_core.specs.declared.fault.ReplayFault.{ReplayFault}
use Rattle.replay_core.specs.declared.fault.ReplayFault.TheVariants as faults
use Rattle.replay_core.specs.Events.{AreMovesOf}

-- the first events of a script, this number of them, are legal
abbrev pub AreLegalBefore : Setup → Rules → List Said → ℕ → Type 0
AreLegalBefore setup rules script count =
    (index : ℕ) → index < count → why_at setup rules script index ≡ None

-- the first events of a script, this number of them, are legal, and the next one is not, if there
-- is one
pub record IsLegalBeginning (setup : Setup) (rules : Rules) (script : List Said) (count : ℕ)
    : Type 0 where
  pub within : count ≤ length script
  pub legal : AreLegalBefore setup rules script count
  pub longest :
      count < length script → (reason : Illegal) × (why_at setup rules script count ≡ Some reason)

-- the longest legal beginning of a script has this number of events and these moves
pub record IsLegalPart (setup : Setup) (rules : Rules) (script : List Said) (count : ℕ)
    (moves : List rows.Move) : Type 0 where
  pub beginning : IsLegalBeginning setup rules script count
  -- its events are legal one after the other
  pub legal : AreLegal setup rules (reverse (take count script))
  -- and these are the moves of the trace after it
  pub are : AreMovesOf setup (past_after setup script count) moves

-- if an event is illegal, these are the moves before it
abbrev pub ArePlayedBefore : Setup → Rules → List Said → List rows.Move → ReplayFault → Type 0
ArePlayedBefore setup rules script moves (faults.Illegal event at reason) =
    IsLegalPart setup rules script (event - 1) moves
ArePlayedBefore setup rules script moves (faults.EndsEarly events) = Unit {0}
ArePlayedBefore setup rules script moves (faults.RakeTooBig pot) = Unit {0}
ArePlayedBefore setup rules script moves (faults.NoShownHand pot) = Unit {0}
ArePlayedBefore setup rules script moves (faults.Memory memory) = Unit {0}
