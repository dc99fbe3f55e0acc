-- A play is sound if the hand in its record is legal and within the limits, and its notes are
-- allowed.
use Rattle.std.specs.Prelude.{List}
use Rattle.std.proofs.Common.{subst, sym}
use Rattle.play_event.specs.declared.setup.Rules.{Rules}
use Rattle.play_event.specs.declared.setup.Setup.{Setup}
use Rattle.play_event.specs.Said.{Said}
use Rattle.play_event.specs.ValidSetup.{IsValid}
use Rattle.play_event.specs.PlayedScript.{IsWithinLimits}
use Rattle.hand_canon.specs.declared.notes.Notes.{Notes}
use Rattle.hand_canon.specs.declared.record.Record.{Record}
use Rattle.hand_canon.specs.declared.trace.Trace.{Trace}
use Rattle.hand_canon.specs.AllowedNotes.{AreAllowed}
use Rattle.hand_canon.specs.LegalHand.{IsLegalHand}
use Rattle.hand_canon.specs.Sound.{IsSound}
use Rattle.hand_canon.specs.SoundRecord.{script_said}
use Rattle.worked_hands.specs.PlayOutcomes.{HasTrace}
use Rattle.worked_hands.specs.Plays.{SaysHand, play_of}

-- what a sound play requires of a hand
record IsSoundHand (setup : Setup) (rules : Rules) (script : List Said) (notes : Notes) (trace : Trace) : Type 0 where
  pub valid : IsValid setup
  pub within : IsWithinLimits script
  pub legal : IsLegalHand setup rules script
  pub traced : HasTrace setup script trace
  pub allowed : AreAllowed setup.stacks.seats notes

-- it is required of the record
pub sound_by : (setup : Setup) (rules : Rules) (script : List Said) (notes : Notes) (hand : Record) (trace : Trace) → SaysHand setup rules script notes hand
    → IsValid setup → IsWithinLimits script → IsLegalHand setup rules script → HasTrace setup script trace → AreAllowed setup.stacks.seats notes → IsSound (play_of hand trace)
sound_by setup rules script notes hand trace says valid within legal traced allowed =
    let start : IsSoundHand setup rules script notes trace = record { valid = valid; within = within; legal = legal; traced = traced; allowed = allowed } in
    let first : IsSoundHand hand.setup rules script notes trace = let P : Setup → Type 0 = λ s. IsSoundHand s rules script notes trace in subst P (sym says.same_setup) start in
    let second : IsSoundHand hand.setup hand.rules script notes trace = let P : Rules → Type 0 = λ r. IsSoundHand hand.setup r script notes trace in subst P (sym says.same_rules) first in
    let third : IsSoundHand hand.setup hand.rules (script_said hand) notes trace = let P : List Said → Type 0 = λ l. IsSoundHand hand.setup hand.rules l notes trace in subst P (sym says.same_script) second in
    let all : IsSoundHand hand.setup hand.rules (script_said hand) hand.notes trace = let P : Notes → Type 0 = λ n. IsSoundHand hand.setup hand.rules (script_said hand) n trace in subst P (sym says.same_notes) third in
    record { valid = all.valid; within = all.within; legal = all.legal; trace = all.traced; notes = all.allowed }

-- a sound play of a hand has the trace of the hand
pub trace_said : (setup : Setup) (rules : Rules) (script : List Said) (notes : Notes) (hand : Record) (trace : Trace) → SaysHand setup rules script notes hand → IsSound (play_of hand trace) → HasTrace setup script trace
trace_said setup rules script notes hand trace says sound =
    let first : HasTrace setup (script_said hand) trace = let P : Setup → Type 0 = λ s. HasTrace s (script_said hand) trace in subst P says.same_setup sound.trace in
    let P : List Said → Type 0 = λ l. HasTrace setup l trace in
    subst P says.same_script first

-- and is a legal hand
pub legal_said : (setup : Setup) (rules : Rules) (script : List Said) (notes : Notes) (hand : Record) (trace : Trace) → SaysHand setup rules script notes hand → IsSound (play_of hand trace) → IsLegalHand setup rules script
legal_said setup rules script notes hand trace says sound =
    let first : IsLegalHand setup hand.rules (script_said hand) = let P : Setup → Type 0 = λ s. IsLegalHand s hand.rules (script_said hand) in subst P says.same_setup sound.legal in
    let second : IsLegalHand setup rules (script_said hand) = let P : Rules → Type 0 = λ r. IsLegalHand setup r (script_said hand) in subst P says.same_rules first in
    let P : List Said → Type 0 = λ l. IsLegalHand setup rules l in
    subst P says.same_script second

-- with allowed notes
pub notes_said : (setup : Setup) (rules : Rules) (script : List Said) (notes : Notes) (hand : Record) (trace : Trace) → SaysHand setup rules script notes hand → IsSound (play_of hand trace) → AreAllowed setup.stacks.seats notes
notes_said setup rules script notes hand trace says sound =
    let first : AreAllowed setup.stacks.seats hand.notes = let P : Setup → Type 0 = λ s. AreAllowed s.stacks.seats hand.notes in subst P says.same_setup sound.notes in
    let P : Notes → Type 0 = λ n. AreAllowed setup.stacks.seats n in
    subst P says.same_notes first
