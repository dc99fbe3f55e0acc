-- Where the events of a script lead, and which of them is the first illegal one.
use Rattle.std.specs.Prelude.{◌≡◌, ℕ, ◌-◌, ◌≤◌, List, map, slice_get, Some}
use Rattle.std.specs.Option.{option_map}
use Rattle.betting_numbers.specs.declared.betting_state.BettingState.{BettingState}
use Rattle.betting_numbers.specs.LegalMoves.{reason_after}
use Rattle.play_event.specs.declared.event.Event.{Event}
use Rattle.play_event.specs.declared.played.Move as rows
use Rattle.play_event.specs.declared.reason.Illegal.{Illegal}
use Rattle.play_event.specs.declared.setup.Rules.{Rules}
use Rattle.play_event.specs.declared.setup.Setup.{Setup}
use Rattle.play_event.specs.Past.{Past, moves_of}
use Rattle.play_event.specs.Played.{move_said}
use Rattle.play_event.specs.Said.{Said, said_of}
use Rattle.play_event.specs.Scripts.{IsFirstIllegal}
use Rattle.play_event.specs.Trace.{traced_moves}
use Rattle.replay_core.specs.declared.fault.ReplayFault.{ReplayFault}
use Rattle.replay_core.specs.declared.fault.ReplayFault.TheVariants as faults

-- the events of a script, as the definitions see them
abbrev pub said_by : List Event → List Said
said_by script = map said_of script

-- rows of moves are the moves of the trace after a past
abbrev pub AreMovesOf : Setup → Past → List rows.Move → Type 0
AreMovesOf setup past moves = map move_said moves ≡ traced_moves setup (moves_of past)

-- the event with this number, from 1, is the first illegal one, for this reason; `at` is the number
-- of its action
pub record IsIllegalAt (setup : Setup) (rules : Rules) (script : List Event) (event at : ℕ)
    (reason : Illegal) : Type 0 where
  pub counted : 1 ≤ event
  pub first : IsFirstIllegal setup rules (said_by script) (event - 1) reason
  pub action : option_map (λ (e : Event). e.at) (slice_get script (event - 1)) ≡ Some at

-- an event is refused after a past: it is illegal, or there is no memory for its move
abbrev pub IsRefusedEvent : BettingState → Event → ℕ → Past → ReplayFault → Type 0
IsRefusedEvent b event number past (faults.Illegal added at reason) =
    (added ≡ number) × (at ≡ event.at) × (reason_after b past (said_of event) ≡ Some reason)
IsRefusedEvent b event number past (faults.EndsEarly events) = ⊥
IsRefusedEvent b event number past (faults.RakeTooBig pot) = ⊥
IsRefusedEvent b event number past (faults.NoShownHand pot) = ⊥
IsRefusedEvent b event number past (faults.Memory memory) = Unit {0}

-- the events of a script are refused: the first illegal one is reported, or there is no memory for
-- the moves
abbrev pub AreRefused : Setup → Rules → List Event → ReplayFault → Type 0
AreRefused setup rules script (faults.Illegal event at reason) =
    IsIllegalAt setup rules script event at reason
AreRefused setup rules script (faults.EndsEarly events) = ⊥
AreRefused setup rules script (faults.RakeTooBig pot) = ⊥
AreRefused setup rules script (faults.NoShownHand pot) = ⊥
AreRefused setup rules script (faults.Memory memory) = Unit {0}
