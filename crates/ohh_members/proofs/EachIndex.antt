-- Items that are read one after the other, each with its index from 0, as a loop does.
use Rattle.std.proofs.Common.{◌≡◌, ℕ, ◌+◌, ◌-◌, ◌<◌, ◌≤◌, List, [], ◌∷◌, ◌++◌, length, map, drop, get_or, Result, Ok}
use Rattle.first_fault.specs.declared.stop.ReadError.{ReadError}
use Rattle.first_fault.specs.Reading.{Fails, each_from}
use Rattle.first_fault.proofs.EachItem.{with_front, goes_on, ends, is_done}
use Rattle.card_set.proofs.Numbers.{plus_one_less_one}
use Rattle.ohh_members.specs.declared.fault.MemberFault.{MemberFault}

-- the items from an index on
abbrev pub items_left : {V D A : Type 0} → (V → D) → (ℕ → D → Result A MemberFault) → ℕ → List V → Result (List A) MemberFault
items_left seen form index values = each_from (λ n. form (n - 1)) (index + 1) (map seen (drop index values))

module _ {V D A : Type 0} (seen : V → D) (form : ℕ → D → Result A MemberFault) where
  -- one more item was read
  pub item_read : (front : List A) (values : List V) (index : ℕ) (value : V) (x : A) (whole : Result (List A) MemberFault)
      → index < length values → get_or values index value ≡ value → form index (seen value) ≡ Ok x
      → with_front front (items_left seen form index values) ≡ whole
      → with_front (front ++ x ∷ []) (items_left seen form (index + 1) values) ≡ whole
  item_read front values index value x whole within at is so_far =
      goes_on seen (λ n. form (n - 1)) front values index value x whole within at (rw (plus_one_less_one index) is) so_far

  -- an item was refused
  pub item_refused : (stop : ReadError MemberFault) (front : List A) (values : List V) (index : ℕ) (value : V) (whole : Result (List A) MemberFault)
      → index < length values → get_or values index value ≡ value → Fails stop (form index (seen value))
      → with_front front (items_left seen form index values) ≡ whole
      → Fails stop whole
  item_refused stop front values index value whole within at is so_far =
      ends seen (λ n. form (n - 1)) stop front values index value whole within at (rw (plus_one_less_one index) is) so_far

  -- no item is left
  pub items_read : (front : List A) (values : List V) (index : ℕ) (whole : Result (List A) MemberFault) → length values ≤ index
      → with_front front (items_left seen form index values) ≡ whole → whole ≡ Ok front
  items_read front values index whole le so_far = is_done seen (λ n. form (n - 1)) front values index whole le so_far
