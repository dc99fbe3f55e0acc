-- What records are replayed to: each to its play, or the first refused hand and the reason.
use Rattle.std.specs.Prelude.{◌≡◌, ℕ, ◌+◌, List, [], ◌∷◌, ◌++◌, length, map, All, Some}
use Rattle.hand_canon.specs.declared.agreement.FactDiffers.{FactDiffers}
use Rattle.hand_canon.specs.declared.record.Record.{Record}
use Rattle.hand_canon.specs.declared.trace.Play.{Play}
use Rattle.hand_canon.specs.declared.trace.Trace.{Trace}
use Rattle.hand_canon.specs.Agreement.{difference_said, first_difference}
use Rattle.hand_canon.specs.LegalPlay.{IsLegalPlay, IsTraceOfLegal}
use Rattle.replay_core.specs.declared.fault.ReplayFault.{ReplayFault}
use Rattle.replay_core.specs.declared.fault.ReplayFault.TheVariants as faults
use Rattle.replay_core.specs.Faults.{IsFaultOf}
use Rattle.convert_core.specs.declared.refusal.PlaysFault.{PlaysFault}
use Rattle.convert_core.specs.declared.refusal.PlaysFault.TheVariants as plays_faults
use Rattle.convert_core.specs.declared.refusal.Refusal.{Refusal}
use Rattle.convert_core.specs.declared.refusal.Refusal.TheVariants as refusals

-- these are the plays of the records: the same number, in their order, and each is replayed and
-- agrees
pub record ArePlaysOf (records : List Record) (plays : List Play) : Type 0 where
  pub same : map (λ (play : Play). play.hand) plays ≡ records
  pub judged : All IsLegalPlay plays

-- these plays are followed by one more, the play of this record
pub record IsOneMorePlay (before : List Play) (hand : Record) (after : List Play) : Type 0 where
  pub play : Play
  pub same : play.hand ≡ hand
  pub judged : IsLegalPlay play
  pub behind : after ≡ before ++ play ∷ []

-- the fault of a script, if it is not that memory ran out
abbrev pub IsReplayFaultOf : Record → ReplayFault → Type 0
IsReplayFaultOf hand (faults.Memory memory) = ⊥
IsReplayFaultOf hand fault = IsFaultOf hand.setup hand.rules hand.script fault

-- a hand is legal, and this is the first stated fact that differs from its trace
pub record HasDifference (hand : Record) (told : FactDiffers) : Type 0 where
  pub trace : Trace
  pub traced : IsTraceOfLegal hand trace
  pub differs : first_difference trace hand.stated ≡ Some (difference_said told)

-- a hand is refused for this reason: its script cannot be replayed, or else a stated fact differs
-- from its trace
abbrev pub IsRefusedFor : Record → Refusal → Type 0
IsRefusedFor hand (refusals.Replay fault) = IsReplayFaultOf hand fault
IsRefusedFor hand (refusals.Fact differs) = HasDifference hand differs

-- the hand with this number, from 1, is the first refused one: those before it have plays
pub record IsFirstRefused (records : List Record) (number : ℕ) (why : Refusal) : Type 0 where
  pub before : List Play
  pub judged : All IsLegalPlay before
  pub hand : Record
  pub behind : List Record
  pub where_it_stands : map (λ (play : Play). play.hand) before ++ hand ∷ behind ≡ records
  pub counted : number ≡ length before + 1
  pub refused : IsRefusedFor hand why

-- why records have no plays; out of memory says nothing about them
abbrev pub IsPlaysFaultOf : List Record → PlaysFault → Type 0
IsPlaysFaultOf records (plays_faults.Refused number why) = IsFirstRefused records number why
IsPlaysFaultOf records (plays_faults.Memory memory) = Unit {0}

-- why the hand with this number has no play; out of memory says nothing about it
abbrev pub IsFaultAt : Record → ℕ → PlaysFault → Type 0
IsFaultAt hand number (plays_faults.Refused told why) = (told ≡ number) × IsRefusedFor hand why
IsFaultAt hand number (plays_faults.Memory memory) = Unit {0}

-- there are no plays because memory ran out
abbrev pub IsPlaysOutOfMemory : PlaysFault → Type 0
IsPlaysOutOfMemory (plays_faults.Refused number why) = ⊥
IsPlaysOutOfMemory (plays_faults.Memory memory) = Unit {0}
