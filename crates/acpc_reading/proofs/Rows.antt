-- Rows written entry by entry, as the parts of a field are read.
use Rattle.std.proofs.Common.{◌≡◌, ℕ, ◌+◌, List, [], ◌∷◌, ◌++◌, length, Option, Result, Ok, ℤ, refl, sym, ap, ◌∙◌}
use Rattle.first_fault.specs.declared.stop.ReadError.{ReadError}
use Rattle.first_fault.specs.Reading.{Fails}
use Rattle.acpc_game.specs.declared.fault.LineFault.{LineFault}
use Rattle.acpc_game.proofs.Steps.{fails_first, fails_at}
use Rattle.acpc_reading.specs.Values.{value_said, values_after}
use Rattle.acpc_reading.specs.Names.{name_said, names_after}

module _ (values : List ℤ) (at : ℕ) (all : List (List ℕ)) (whole : Result (List ℤ) LineFault) where
  -- one more value was read
  pub value_read : (part : List ℕ) (parts : List (List ℕ)) (value : ℤ) → all ≡ part ∷ parts → value_said at part ≡ Ok value
      → values_after values at all ≡ whole → values_after (values ++ value ∷ []) (at + length part + 1) parts ≡ whole
  unfolding values_after
  value_read part parts value cut is so_far =
      let one : values_after values at all ≡ values_after (values ++ value ∷ []) (at + length part + 1) parts = rw (cut, is) refl in
      sym one ∙ so_far

  -- a value was refused
  pub value_fails : (stop : ReadError LineFault) (part : List ℕ) (parts : List (List ℕ)) → all ≡ part ∷ parts → Fails stop (value_said at part)
      → values_after values at all ≡ whole → Fails stop whole
  unfolding values_after
  value_fails stop part parts cut fails so_far =
      fails_at stop (values_after values at (part ∷ parts)) whole (ap (values_after values at) (sym cut) ∙ so_far)
      (fails_first stop (value_said at part) (λ value. values_after (values ++ value ∷ []) (at + length part + 1) parts) fails)

  -- no value is left
  pub values_done : all ≡ [] → values_after values at all ≡ whole → whole ≡ Ok values
  unfolding values_after
  values_done none so_far = sym so_far ∙ ap (values_after values at) none

module _ (names : List (Option (List ℕ))) (seat at : ℕ) (all : List (List ℕ)) (whole : Result (List (Option (List ℕ))) LineFault) where
  -- one more name was read
  pub name_read : (part : List ℕ) (parts : List (List ℕ)) (name : Option (List ℕ)) → all ≡ part ∷ parts → name_said seat at part ≡ Ok name
      → names_after names seat at all ≡ whole → names_after (names ++ name ∷ []) (seat + 1) (at + length part + 1) parts ≡ whole
  unfolding names_after
  name_read part parts name cut is so_far =
      let one : names_after names seat at all ≡ names_after (names ++ name ∷ []) (seat + 1) (at + length part + 1) parts = rw (cut, is) refl in
      sym one ∙ so_far

  -- a name was refused
  pub name_fails : (stop : ReadError LineFault) (part : List ℕ) (parts : List (List ℕ)) → all ≡ part ∷ parts → Fails stop (name_said seat at part)
      → names_after names seat at all ≡ whole → Fails stop whole
  unfolding names_after
  name_fails stop part parts cut fails so_far =
      fails_at stop (names_after names seat at (part ∷ parts)) whole (ap (names_after names seat at) (sym cut) ∙ so_far)
      (fails_first stop (name_said seat at part) (λ name. names_after (names ++ name ∷ []) (seat + 1) (at + length part + 1) parts) fails)

  -- no name is left
  pub names_done : all ≡ [] → names_after names seat at all ≡ whole → whole ≡ Ok names
  unfolding names_after
  names_done none so_far = sym so_far ∙ ap (names_after names seat at) none
