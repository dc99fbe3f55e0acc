-- The first hand that differs from a place on.
use Rattle.std.proofs.Common.{◌≡◌, ℕ, ◌+◌, ◌<◌, ◌≤◌, Bool, List, [], ◌∷◌, length, drop, get_or, Option, Some, None, option_map, refl, ap, sym, ◌∙◌}
use Rattle.std.specs.Option.{option_or}
use Rattle.std.proofs.lemmas.List.{drop_all, drop_more}
use Rattle.hand_differences.specs.FirstDifference.{PlainDifference, reported_difference}
use Rattle.hand_canon.specs.declared.trace.Play.{Play}
use Rattle.poker_cli.specs.Compare.{DifferentHand, first_different}

-- if one side has no hands, nothing differs
nothing_beside : (notes : Bool) (place : ℕ) (plays : List Play) → first_different notes place plays [] ≡ None
unfolding first_different
nothing_beside notes place [] = refl
nothing_beside notes place (play ∷ plays) = refl

module _ (notes : Bool) (plays others : List Play) where
  -- for the hands from a place on
  abbrev pub different_from : ℕ → Option DifferentHand
  different_from place = first_different notes place (drop place plays) (drop place others)

  -- it is that at the place, or the first after it
  abbrev here_or : (place : ℕ) → Option PlainDifference → Option DifferentHand
  here_or place found =
      option_or (option_map (λ difference. record { number = place + 1; difference = difference }) found) (different_from (place + 1))

  pair : (place : ℕ) (play other : Play) → place < length plays → get_or plays place play ≡ play → place < length others
      → get_or others place other ≡ other → different_from place ≡ here_or place (reported_difference notes place play other)
  unfolding first_different
  pair place play other within at within_too at_too =
      rw (drop_more plays place play within, at, drop_more others place other within_too, at_too) refl

  pub differs_here : (place : ℕ) (play other : Play) (difference : PlainDifference) → place < length plays → get_or plays place play ≡ play
      → place < length others → get_or others place other ≡ other → reported_difference notes place play other ≡ Some difference
      → different_from place ≡ Some (record { number = place + 1; difference = difference })
  differs_here place play other difference within at within_too at_too differs =
      pair place play other within at within_too at_too ∙ ap (here_or place) differs

  pub same_here : (place : ℕ) (play other : Play) (total : Option DifferentHand) → place < length plays → get_or plays place play ≡ play
      → place < length others → get_or others place other ≡ other → reported_difference notes place play other ≡ None
      → different_from place ≡ total → different_from (place + 1) ≡ total
  same_here place play other total within at within_too at_too same so_far =
      sym (ap (here_or place) same) ∙ sym (pair place play other within at within_too at_too) ∙ so_far

  pub none_left : (place : ℕ) → length plays ≤ place → different_from place ≡ None
  unfolding first_different
  none_left place over = rw (drop_all place plays over) refl

  pub none_beside : (place : ℕ) → length others ≤ place → different_from place ≡ None
  none_beside place over =
      ap (first_different notes place (drop place plays)) (drop_all place others over) ∙ nothing_beside notes place (drop place plays)
