-- Records and plays of the hand in which p3 steals the blinds.
use Rattle.std.specs.Prelude.{◌≡◌, List, [], ◌∷◌, codes}
use Rattle.play_event.specs.declared.setup.Rules.{Rules}
use Rattle.play_event.specs.declared.setup.Setup.{Setup}
use Rattle.play_event.specs.Said.{Said}
use Rattle.hand_canon.specs.declared.notes.Notes.{Notes}
use Rattle.hand_canon.specs.declared.record.Record.{Record}
use Rattle.hand_canon.specs.declared.trace.Play.{Play}
use Rattle.hand_canon.specs.declared.trace.Trace.{Trace}
use Rattle.hand_canon.specs.SoundRecord.{script_said}
use Rattle.worked_hands.specs.Words.{deal, fold, raise}

-- a record is that of a hand
pub record SaysHand (setup : Setup) (rules : Rules) (script : List Said) (notes : Notes)
    (hand : Record) : Type 0 where
  pub same_setup : hand.setup ≡ setup
  pub same_rules : hand.rules ≡ rules
  pub same_script : script_said hand ≡ script
  pub same_notes : hand.notes ≡ notes

-- a record and a trace
abbrev pub play_of : Record → Trace → Play
play_of hand trace = record { hand = hand; trace = trace }

-- the hand without its last fold
abbrev pub cut_short : List Said
cut_short =
    deal 1 (codes "????") ∷ deal 2 (codes "Ks7d") ∷ deal 3 (codes "AcAd") ∷ raise 3 6 ∷ fold 1
    ∷ []

-- the hand with the raise before the last deal
abbrev pub early_raise : List Said
early_raise =
    deal 1 (codes "????") ∷ deal 2 (codes "Ks7d") ∷ raise 3 6 ∷ deal 3 (codes "AcAd") ∷ fold 1
    ∷ fold 2 ∷ []
