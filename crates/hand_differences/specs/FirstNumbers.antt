-- The first number, from 1, at which two lists differ.
use Rattle.std.specs.Prelude.{◌≡◌, ◌≢◌, ℕ, ◌-◌, ◌≤◌, max, Bool, not, List, length, find, slice_get, take, Option}
use Rattle.std.specs.List.{range_with_len}
use Rattle.std.specs.Option.{option_or}
use Rattle.hand_differences.specs.SameParts.{is_same_option}

-- At this number, from 1, both lists have ended, or both have entries that are the same.
abbrev pub is_same_at : {A : Type 0} → (A → A → Bool) → List A → List A → ℕ → Bool
is_same_at same xs ys number =
    is_same_option same (slice_get xs (number - 1)) (slice_get ys (number - 1))

-- the smallest number, from 1, at which two lists differ
abbrev pub first_other_number : {A : Type 0} → (A → A → Bool) → List A → List A → Option ℕ
first_other_number same xs ys =
    find (λ number. not (is_same_at same xs ys number))
    (range_with_len 1 (max (length xs) (length ys)))

-- The entry of the first list at a number, from 1, or else that of the other. If the lists of sound
-- plays differ, neither is the beginning of the other, so both have an entry there.
abbrev pub entry_at : {A : Type 0} → List A → List A → ℕ → Option A
entry_at xs ys number = option_or (slice_get xs (number - 1)) (slice_get ys (number - 1))

-- two lists are the same before a number, from 1, and differ at it
pub record DifferFirstAt {A : Type 0} (xs ys : List A) (number : ℕ) : Type 0 where
  pub since : 1 ≤ number
  pub before : take (number - 1) xs ≡ take (number - 1) ys
  pub differ : slice_get xs (number - 1) ≢ slice_get ys (number - 1)
