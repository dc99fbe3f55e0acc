-- Hands that are the same, place by place: they have the same trace, and the same notes are kept.
use Rattle.std.specs.Prelude.{◌≡◌, ℕ, ◌+◌, List, [], ◌∷◌}
use Rattle.hand_canon.specs.declared.trace.Play.{Play}
use Rattle.hand_canon.specs.declared.writing.Keep.{Keep}
use Rattle.hand_canon.specs.declared.writing.Keep.TheVariants as keeps
use Rattle.hand_canon.specs.SaidNotes.{SaidNotes, notes_of}

-- plays in pairs, from two lists of the same length; the first pair is at this place, from 0
unfoldable pub AllPaired : (ℕ → Play → Play → Type 0) → ℕ → List Play → List Play → Type 0
AllPaired P place [] [] = Unit {0}
AllPaired P place [] (other ∷ others) = ⊥
AllPaired P place (play ∷ plays) [] = ⊥
AllPaired P place (play ∷ plays) (other ∷ others) =
    P place play other × AllPaired P (place + 1) plays others

-- two plays at the same place of their files have the same trace, and the same notes, as far as
-- these are kept
pub record AreSameHand (kept : SaidNotes → SaidNotes) (place : ℕ) (play other : Play)
    : Type 0 where
  pub trace : play.trace ≡ other.trace
  pub notes : kept (notes_of place play) ≡ kept (notes_of place other)

-- the plays of two files are the same, hand by hand, as far as notes are kept
abbrev pub AreSameHands : (SaidNotes → SaidNotes) → List Play → List Play → Type 0
AreSameHands kept plays others = AllPaired (AreSameHand kept) 0 plays others

-- the notes that are kept: all of them, or those that a notation can express
abbrev pub kept_notes : Keep → (SaidNotes → SaidNotes) → SaidNotes → SaidNotes
kept_notes keeps.All spelled notes = notes
kept_notes keeps.Spelled spelled notes = spelled notes
