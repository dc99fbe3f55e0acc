-- A hand that is refused, among those that are read one after another.
use Rattle.std.proofs.Common.{◌≡◌, ℕ, ◌+◌, ◌<◌, List, length, map, drop, get_or, Option, Some, None, IfSome, Result, Err}
use Rattle.first_fault.specs.Reading.{thread_from}
use Rattle.first_fault.specs.declared.stop.ReadError.TheVariants as read_errors
use Rattle.first_fault.proofs.Thread.{behind, thread_ends}
use Rattle.ohh_reading.specs.Reading.{Wrong}

module _ {V D A S : Type 0} (seen : V → D) (form : S → ℕ → D → Result (List A × S) Wrong) where
  -- what is wrong with the hand, if it is known, is what is read of all
  pub hand_refused : (found : Option Wrong) (front : List A) (so_far : S) (values : List V) (index : ℕ) (value : V) (whole : Result (List A × S) Wrong)
      → index < length values → get_or values index value ≡ value → IfSome found (λ wrong. form so_far (index + 1) (seen value) ≡ Err wrong)
      → behind front (thread_from form so_far (index + 1) (map seen (drop index values))) ≡ whole
      → IfSome found (λ wrong. whole ≡ Err wrong)
  hand_refused None front so_far values index value whole within at is before = tt
  hand_refused (Some wrong) front so_far values index value whole within at is before =
      thread_ends seen form (read_errors.Fault wrong) front so_far values index value whole within at is before
