-- Items added one after another to what was read before, as a loop does.
use Rattle.std.proofs.Common.{◌≡◌, ℕ, ◌+◌, ◌<◌, ◌≤◌, List, length, map, drop, get_or, Result, Ok, Err, refl, sym, ◌∙◌}
use Rattle.std.proofs.lemmas.List.{drop_more, drop_all}
use Rattle.first_fault.specs.declared.stop.ReadError.{ReadError}
use Rattle.first_fault.specs.declared.stop.ReadError.TheVariants as read_errors
use Rattle.first_fault.specs.Reading.{Fails, added_from}

-- the items from an index on are added
abbrev pub add_left : {F V D S : Type 0} → (V → D) → (S → ℕ → D → Result S F) → S → ℕ → List V → Result S F
add_left seen form before index values = added_from form before index (map seen (drop index values))

module _ {F V D S : Type 0} (seen : V → D) (form : S → ℕ → D → Result S F) where
  -- one more item was added
  pub added : (before after : S) (values : List V) (index : ℕ) (value : V) (whole : Result S F)
      → index < length values → get_or values index value ≡ value → form before index (seen value) ≡ Ok after
      → add_left seen form before index values ≡ whole
      → add_left seen form after (index + 1) values ≡ whole
  unfolding added_from
  added before after values index value whole within at is so_far =
      let one : add_left seen form before index values ≡ add_left seen form after (index + 1) values =
      rw (drop_more values index value within, at, is) refl in
      sym one ∙ so_far

  -- an item was refused
  pub not_added : (stop : ReadError F) (before : S) (values : List V) (index : ℕ) (value : V) (whole : Result S F)
      → index < length values → get_or values index value ≡ value → Fails stop (form before index (seen value))
      → add_left seen form before index values ≡ whole
      → Fails stop whole
  unfolding added_from
  not_added (read_errors.Memory memory) before values index value whole within at is so_far = tt
  not_added (read_errors.Fault fault) before values index value whole within at is so_far =
      let one : add_left seen form before index values ≡ Err fault =
      rw (drop_more values index value within, at, is) refl in
      sym so_far ∙ one

  -- no item is left
  pub all_added : (before : S) (values : List V) (index : ℕ) (whole : Result S F) → length values ≤ index
      → add_left seen form before index values ≡ whole → whole ≡ Ok before
  unfolding added_from
  all_added before values index whole le so_far =
      let one : add_left seen form before index values ≡ Ok before =
      rw (drop_all index values le) refl in
      sym so_far ∙ one
