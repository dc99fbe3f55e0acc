-- The calendar of the days is that of the crate of dates.
use Rattle.std.proofs.Common.{◌≡◌, ℕ, ◌≤◌, ◌↔◌, Bool, true, false, nat_le, IsTrue, pos, sym, ◌∙◌, refl, inl, inr}
use Rattle.std.proofs.lemmas.Bool.{cases_Bool, leb-true, le-leb}
use Rattle.jiff.specs.Words.{IsDate}
use Rattle.hand_canon.specs.AllowedNotes.{days_in_month}
use Rattle.card_set.proofs.Integers.{negative_below, signed, unsigned}

-- a day that is a date is one that its month has
pub in_calendar : (year month day : ℕ) (found : Bool) → (IsTrue found ↔ IsDate (pos year) (pos month) (pos day)) → year ≤ 9999 → 1 ≤ month → month ≤ 12 → 1 ≤ day → found ≡ nat_le day (days_in_month year month)
in_calendar year month day true is few some twelve first = sym (le-leb day (days_in_month year month) (unsigned day (days_in_month year month) (is.0 refl).2.1))
in_calendar year month day false is few some twelve first =
    elim (cases_Bool (nat_le day (days_in_month year month))) [
      | inl within ↦ is.1 ((negative_below year, signed year 9999 few), (signed 1 month some, signed month 12 twelve), (signed 1 day first, signed day (days_in_month year month) (leb-true day (days_in_month year month) within))) ∙ sym within
      | inr beyond ↦ sym beyond
    ]
