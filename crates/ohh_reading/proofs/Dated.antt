-- The parts of a moment are within their ranges.
use Rattle.std.proofs.Common.{Option, Some, None, IfSome}
use Rattle.std.specs.Prelude.{option_map}
use Rattle.hand_canon.specs.AllowedNotes.{IsDayOf, IsTime, IsWithin}
use Rattle.hand_canon.specs.declared.notes.Moment.{Moment}
use Rattle.ohh_reading.specs.MomentRanges.{IsMoment}

pub year_within : (moment : Option Moment) → IfSome moment IsMoment → IfSome (option_map (λ moment. moment.day.year) moment) (IsWithin 1 9999)
year_within None is = tt
year_within (Some moment) is = is.day.year

pub month_within : (moment : Option Moment) → IfSome moment IsMoment → IfSome (option_map (λ moment. moment.day.month) moment) (IsWithin 1 12)
month_within None is = tt
month_within (Some moment) is = is.day.month

pub day_within : (moment : Option Moment) → IfSome moment IsMoment → IfSome (option_map (λ moment. moment.day.day) moment) (IsWithin 1 31)
day_within None is = tt
day_within (Some moment) is = is.day.day_of_month

pub date_within : (moment : Option Moment) → IfSome moment IsMoment
    → IfSome (option_map (λ moment. moment.day.year) moment) (λ year. IfSome (option_map (λ moment. moment.day.month) moment) (λ month. IfSome (option_map (λ moment. moment.day.day) moment) (IsDayOf year month)))
date_within None is = tt
date_within (Some moment) is = is.day.date

pub time_within : (moment : Option Moment) → IfSome moment IsMoment → IfSome (option_map (λ moment. moment.time) moment) IsTime
time_within None is = tt
time_within (Some moment) is = is.time
