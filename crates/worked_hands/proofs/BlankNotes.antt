-- Notes that name nobody are allowed if each of their parts is.
use Rattle.std.specs.Prelude.{ℕ, ◌-◌, List, Option, None, replicate, slice_index_or, IfSome}
use Rattle.std.proofs.Common.{subst, sym}
use Rattle.chip_ledger.specs.Fillers.{index-replicate}
use Rattle.hand_canon.specs.declared.notes.Clock.{Clock}
use Rattle.hand_canon.specs.AllowedNotes.{AreAllowed, AreSeatNumbers, IsDayOf, IsName, IsNoteText, IsSeatCount, IsTime, IsWithin}
use Rattle.worked_hands.specs.WrittenNotes.{no_notes}

abbrev nobody : List (Option (List ℕ))
nobody = replicate 10 None

-- no seat has a name that is not allowed
none_named : (seat : ℕ) → IfSome (slice_index_or nobody (seat - 1) None) (IsName seat)
none_named seat =
    let P : Option (List ℕ) → Type 0 = λ name. IfSome name (IsName seat) in
    subst P (sym (index-replicate {X = Option (List ℕ)} 10 None (seat - 1))) tt

-- seat numbers, a count of seats, a table, a date and a time
pub allowed_with : (seats : Option (List ℕ)) (seat_count : Option ℕ) (table : Option (List ℕ)) (year month day : Option ℕ) (time : Option Clock)
    → IfSome seats (AreSeatNumbers 3) → IfSome seat_count (IsSeatCount 3) → IfSome table IsNoteText
    → IfSome year (IsWithin 1 9999) → IfSome month (IsWithin 1 12) → IfSome day (IsWithin 1 31)
    → IfSome year (λ year. IfSome month (λ month. IfSome day (IsDayOf year month))) → IfSome time IsTime
    → AreAllowed 3 (record no_notes { seats = seats; seat_count = seat_count; table = table; year = year; month = month; day = day; time = time })
allowed_with seats seat_count table year month day time numbered counted texted in_years in_months in_days dated timed =
    record {
      names = λ seat least most. none_named seat;
      no_more_names = λ index late. index-replicate {X = Option (List ℕ)} 10 None index;
      seats = numbered;
      seat_count = counted;
      hand = tt;
      texts = (texted, (tt, (tt, tt)));
      year = in_years;
      month = in_months;
      day = in_days;
      date = dated;
      time = timed;
      zone = tt;
    }
