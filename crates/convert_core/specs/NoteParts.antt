-- Notes that are a part of others: each of them is either left out, or the others say it as well.
use Rattle.std.specs.Prelude.{◌≡◌, ℕ, List, [], ◌∷◌, Option, Some, IfSome}
use Rattle.hand_canon.specs.NoteTable.{texts_listed}
use Rattle.hand_canon.specs.SaidNotes.{SaidNotes}

-- if a note is said here, it is said there as well
abbrev pub IsSaidThere : {A : Type 0} → (here there : Option A) → Type 0
IsSaidThere here there = IfSome here (λ note. there ≡ Some note)

-- names of the same number of seats, or texts of the same notes, where each that is said here is
-- said there as well
abbrev pub AreSaidThere : (here there : List (Option (List ℕ))) → Type 0
AreSaidThere [] [] = Unit {0}
AreSaidThere [] (other ∷ there) = ⊥
AreSaidThere (name ∷ here) [] = ⊥
AreSaidThere (name ∷ here) (other ∷ there) = IsSaidThere name other × AreSaidThere here there

-- notes are a part of other notes: what they say of a seat or of the hand, the others say as well
pub record ArePartOf (part whole : SaidNotes) : Type 0 where
  pub names : AreSaidThere part.names whole.names
  pub seats : IsSaidThere part.seats whole.seats
  pub seat_count : IsSaidThere part.seat_count whole.seat_count
  pub hand : IsSaidThere part.hand whole.hand
  pub texts : AreSaidThere (texts_listed part.texts) (texts_listed whole.texts)
  pub year : IsSaidThere part.year whole.year
  pub month : IsSaidThere part.month whole.month
  pub day : IsSaidThere part.day whole.day
  pub time : IsSaidThere part.time whole.time
  pub zone : IsSaidThere part.zone whole.zone
