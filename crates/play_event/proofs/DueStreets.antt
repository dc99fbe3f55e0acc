-- If nothing is due on any street, none is found, and conversely.
use Rattle.std.proofs.Common.{None, Option, Some, ap, arith, inl, inr, refl, suc, zero, ℕ, ◌+◌, ◌<◌, ◌∙◌, ◌≡◌, ◌≤◌}
use Rattle.std.specs.Option.{option_map}
use Rattle.play_event.specs.declared.reason.Due.{Due}
use Rattle.play_event.specs.Due.{first_due, found_or}
use Rattle.card_set.proofs.Options.{some_is_none}
use Rattle.std.proofs.lemmas.Bool.{cases_lt}

-- if nothing is found, nothing is due on any of the streets
none_step : (on : ℕ → Option Due) (rest street : ℕ) (here : Option Due) → on street ≡ here → found_or (option_map (λ d. (street, d)) here) (first_due on rest (street + 1)) ≡ None → (on street ≡ None) × (first_due on rest (street + 1) ≡ None)
none_step on rest street (Some due) here is = absurd (some_is_none is)
none_step on rest street None here is = (here, is)

-- if no street is found, nothing is due on any of them
pub none_found : (on : ℕ → Option Due) (rest street : ℕ) → first_due on rest street ≡ None → (between : ℕ) → street ≤ between → between < street + rest → on between ≡ None
none_found on zero street is between least most = absurd (omega (arith, least, most))
none_found on (suc rest) street is between least most =
    let both = none_step on rest street (on street) refl is in
    elim (cases_lt street between) [
      | inl above ↦ none_found on rest (street + 1) both.1 between (omega (arith, above)) (omega (arith, most))
      | inr below ↦ let same : between ≡ street = omega (arith, below, least) in ap on same ∙ both.0
    ]

-- if nothing is due on any street, none is found
pub first_quiet : (on : ℕ → Option Due) (rest street : ℕ) → ((between : ℕ) → street ≤ between → between < street + rest → on between ≡ None) → first_due on rest street ≡ None
first_quiet on zero street quiet = refl
first_quiet on (suc rest) street quiet =
    ap (λ o. found_or (option_map (λ due. (street, due)) o) (first_due on rest (street + 1))) (quiet street (omega arith) (omega arith))
    ∙ first_quiet on rest (street + 1) (λ between low high. quiet between (omega (arith, low)) (omega (arith, high)))
