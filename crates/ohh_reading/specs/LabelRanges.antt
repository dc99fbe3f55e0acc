-- The ranges of where and when a hand was played.
use Rattle.std.specs.Prelude.{ℕ, IfSome}
use Rattle.hand_canon.specs.AllowedNotes.{AreNoteTexts, IsNoteText, IsSeatCount}
use Rattle.ohh_reading.specs.declared.labels.Labels.{Labels}
use Rattle.ohh_reading.specs.MomentRanges.{IsMoment}

-- the labels of a hand with this number of seats
pub record AreLabels (seats : ℕ) (labels : Labels) : Type 0 where
  pub hand : IfSome labels.hand IsNoteText
  pub texts : AreNoteTexts labels.texts
  pub seat_count : IfSome labels.seat_count (IsSeatCount seats)
  pub moment : IfSome labels.moment IsMoment
