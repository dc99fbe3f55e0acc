-- Items read one after another, as a loop does.
use Rattle.std.proofs.Common.{◌≡◌, ℕ, ◌+◌, ◌<◌, ◌≤◌, List, [], ◌∷◌, ◌++◌, length, map, drop, get_or, Result, Ok, Err, refl, sym, ap, ◌∙◌, append_assoc}
use Rattle.std.proofs.lemmas.List.{append-nil, drop_more, drop_all}
use Rattle.first_fault.specs.declared.stop.ReadError.{ReadError}
use Rattle.first_fault.specs.declared.stop.ReadError.TheVariants as read_errors
use Rattle.first_fault.specs.Reading.{◌>>=◌, Fails, each_from}

-- what was read before, and what is still read
abbrev pub with_front : {F A : Type 0} → List A → Result (List A) F → Result (List A) F
with_front front read = read >>= λ rest. Ok (front ++ rest)

regroup : {F A : Type 0} (front : List A) (x : A) (read : Result (List A) F) → with_front front (read >>= λ xs. Ok (x ∷ xs)) ≡ with_front (front ++ x ∷ []) read
regroup front x (Ok xs) = ap Ok (sym (append_assoc front (x ∷ []) xs))
regroup front x (Err fault) = refl

module _ {F V D A : Type 0} (seen : V → D) (form : ℕ → D → Result A F) where
  -- one more item was read
  pub goes_on : (front : List A) (values : List V) (index : ℕ) (value : V) (x : A) (whole : Result (List A) F)
      → index < length values → get_or values index value ≡ value → form (index + 1) (seen value) ≡ Ok x
      → with_front front (each_from form (index + 1) (map seen (drop index values))) ≡ whole
      → with_front (front ++ x ∷ []) (each_from form (index + 1 + 1) (map seen (drop (index + 1) values))) ≡ whole
  unfolding each_from
  goes_on front values index value x whole within at is so_far =
      let one : with_front front (each_from form (index + 1) (map seen (drop index values))) ≡ with_front (front ++ x ∷ []) (each_from form (index + 1 + 1) (map seen (drop (index + 1) values))) =
      rw (drop_more values index value within, at, is) (regroup front x (each_from form (index + 1 + 1) (map seen (drop (index + 1) values)))) in
      sym one ∙ so_far

  -- an item was refused
  pub ends : (stop : ReadError F) (front : List A) (values : List V) (index : ℕ) (value : V) (whole : Result (List A) F)
      → index < length values → get_or values index value ≡ value → Fails stop (form (index + 1) (seen value))
      → with_front front (each_from form (index + 1) (map seen (drop index values))) ≡ whole
      → Fails stop whole
  unfolding each_from
  ends (read_errors.Memory memory) front values index value whole within at is so_far = tt
  ends (read_errors.Fault fault) front values index value whole within at is so_far =
      let one : with_front front (each_from form (index + 1) (map seen (drop index values))) ≡ Err fault =
      rw (drop_more values index value within, at, is) refl in
      sym so_far ∙ one

  -- no item is left
  pub is_done : (front : List A) (values : List V) (index : ℕ) (whole : Result (List A) F) → length values ≤ index
      → with_front front (each_from form (index + 1) (map seen (drop index values))) ≡ whole → whole ≡ Ok front
  unfolding each_from
  is_done front values index whole le so_far =
      let one : with_front front (each_from form (index + 1) (map seen (drop index values))) ≡ Ok front =
      rw (drop_all index values le) (ap Ok (append-nil front)) in
      sym so_far ∙ one
