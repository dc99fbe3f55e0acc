-- Items read one after another, with a count passed on, as a loop does.
use Rattle.std.proofs.Common.{◌≡◌, ℕ, ◌+◌, ◌<◌, ◌≤◌, List, ◌++◌, length, map, drop, get_or, Result, Ok, Err, refl, sym, ap, ◌∙◌, append_assoc, IfOk}
use Rattle.std.proofs.lemmas.List.{append-nil, drop_more, drop_all}
use Rattle.first_fault.specs.declared.stop.ReadError.{ReadError}
use Rattle.first_fault.specs.declared.stop.ReadError.TheVariants as read_errors
use Rattle.first_fault.specs.Reading.{◌>>=◌, Fails, thread_from}

-- what was found before, and what is still read
abbrev pub behind : {F A S : Type 0} → List A → Result (List A × S) F → Result (List A × S) F
behind front read = read >>= λ rest. Ok (front ++ rest.0, rest.1)

regroup : {F A S : Type 0} (front found : List A) (read : Result (List A × S) F) → behind front (read >>= λ others. Ok (found ++ others.0, others.1)) ≡ behind (front ++ found) read
regroup front found (Ok rest) = ap (λ all. Ok (all, rest.1)) (sym (append_assoc front found rest.0))
regroup front found (Err fault) = refl

module _ {F V D A S : Type 0} (seen : V → D) (form : S → ℕ → D → Result (List A × S) F) where
  -- one more item was read
  pub threads_on : (front : List A) (so_far next : S) (values : List V) (index : ℕ) (value : V) (found : List A) (whole : Result (List A × S) F)
      → index < length values → get_or values index value ≡ value → form so_far (index + 1) (seen value) ≡ Ok (found, next)
      → behind front (thread_from form so_far (index + 1) (map seen (drop index values))) ≡ whole
      → behind (front ++ found) (thread_from form next (index + 1 + 1) (map seen (drop (index + 1) values))) ≡ whole
  unfolding thread_from
  threads_on front so_far next values index value found whole within at is before =
      let one : behind front (thread_from form so_far (index + 1) (map seen (drop index values))) ≡ behind (front ++ found) (thread_from form next (index + 1 + 1) (map seen (drop (index + 1) values))) =
      rw (drop_more values index value within, at, is) (regroup front found (thread_from form next (index + 1 + 1) (map seen (drop (index + 1) values)))) in
      sym one ∙ before

  -- an item was refused
  pub thread_ends : (stop : ReadError F) (front : List A) (so_far : S) (values : List V) (index : ℕ) (value : V) (whole : Result (List A × S) F)
      → index < length values → get_or values index value ≡ value → Fails stop (form so_far (index + 1) (seen value))
      → behind front (thread_from form so_far (index + 1) (map seen (drop index values))) ≡ whole
      → Fails stop whole
  unfolding thread_from
  thread_ends (read_errors.Memory memory) front so_far values index value whole within at is before = tt
  thread_ends (read_errors.Fault fault) front so_far values index value whole within at is before =
      let one : behind front (thread_from form so_far (index + 1) (map seen (drop index values))) ≡ Err fault =
      rw (drop_more values index value within, at, is) refl in
      sym before ∙ one

  -- no item is left
  pub thread_done : (front : List A) (so_far : S) (values : List V) (index : ℕ) (whole : Result (List A × S) F) → length values ≤ index
      → behind front (thread_from form so_far (index + 1) (map seen (drop index values))) ≡ whole → whole ≡ Ok (front, so_far)
  unfolding thread_from
  thread_done front so_far values index whole le before =
      let one : behind front (thread_from form so_far (index + 1) (map seen (drop index values))) ≡ Ok (front, so_far) =
      rw (drop_all index values le) (ap (λ all. Ok (all, so_far)) (append-nil front)) in
      sym before ∙ one

-- what holds of the rest holds of the whole
pub bound : {A B F : Type 0} (P : B → Type 0) (first : Result A F) (next : A → Result B F) → ((a : A) → IfOk (next a) P) → IfOk (first >>= next) P
bound P (Ok a) next each = each a
bound P (Err fault) next each = tt
