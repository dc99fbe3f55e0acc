-- The ranges of a moment.
use Rattle.hand_canon.specs.AllowedNotes.{IsDayOf, IsTime, IsWithin}
use Rattle.hand_canon.specs.declared.notes.CivilDate.{CivilDate}
use Rattle.hand_canon.specs.declared.notes.Moment.{Moment}

-- a date that the calendar has
pub record IsDay (day : CivilDate) : Type 0 where
  pub year : IsWithin 1 9999 day.year
  pub month : IsWithin 1 12 day.month
  pub day_of_month : IsWithin 1 31 day.day
  pub date : IsDayOf day.year day.month day.day

-- a moment on such a date
pub record IsMoment (moment : Moment) : Type 0 where
  pub day : IsDay moment.day
  pub time : IsTime moment.time
