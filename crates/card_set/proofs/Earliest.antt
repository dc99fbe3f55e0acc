-- Among some elements there is one before which no other comes.
use Rattle.std.proofs.Common.{◌≡◌, Bool, true, false, not, if◌then◌else◌, inl, inr, ◌⊎◌, List, [], ◌∷◌, is_some, find, refl, sym, ap, ◌∙◌}
use Rattle.std.proofs.lemmas.Bool.{true≢false, or_left, or_right, or_from, false_from_ne_true}
use Rattle.std.specs.List.{list_any}
use Rattle.card_set.proofs.Finding.{some_found}

abbrev In : {X : Type 0} → X → List X → Type 0
In x [] = ⊥
In x (y ∷ ys) = (x ≡ y) ⊎ In x ys

any_in : {X : Type 0} (p : X → Bool) (x : X) (xs : List X) → In x xs → p x ≡ true → list_any p xs ≡ true
any_in p x [] among is = absurd among
any_in p x (y ∷ ys) (inl same) is = or_left (p y) (list_any p ys) (sym (ap p same) ∙ is)
any_in p x (y ∷ ys) (inr later) is = or_right (p y) (list_any p ys) (any_in p x ys later is)

none_in : {X : Type 0} (q : X → Bool) (xs : List X) → ((y : X) → In y xs → q y ≡ false) → list_any q xs ≡ false
none_in q [] none = refl
none_in q (y ∷ ys) none = or_from (q y) (list_any q ys) (none y (inl refl)) (none_in q ys (λ z among. none z (inr among)))

abbrev earlier : {X : Type 0} → Bool → X → X → X
earlier before y m = if before then y else m

best : {X : Type 0} (r : X → X → Bool) → X → List X → X
best r m [] = m
best r m (y ∷ ys) = best r (earlier (r y m) y m) ys

module _ {X : Type 0} (r : X → X → Bool) (irreflexive : (x : X) → r x x ≡ false) (transitive : (x y z : X) → r x y ≡ true → r y z ≡ true → r x z ≡ true) where
  turned : (S : X → Type 0) (m y : X) (b : Bool) → r y m ≡ b → ((x : X) → S x → r x m ≡ false) → (x : X) → (S x ⊎ (x ≡ y)) → r x (earlier b y m) ≡ false
  turned S m y true is none x (inl seen) = false_from_ne_true (r x y) (λ before. true≢false (sym (transitive x y m before is) ∙ none x seen))
  turned S m y true is none x (inr same) = ap (λ z. r z y) same ∙ irreflexive y
  turned S m y false is none x (inl seen) = none x seen
  turned S m y false is none x (inr same) = ap (λ z. r z m) same ∙ is

  best_none : (S : X → Type 0) (m : X) (ys : List X) → ((x : X) → S x → r x m ≡ false) → (x : X) → (S x ⊎ In x ys) → r x (best r m ys) ≡ false
  unfolding best
  best_none S m [] none x (inl seen) = none x seen
  best_none S m [] none x (inr among) = absurd among
  best_none S m (y ∷ ys) none x (inl seen) = best_none (λ z. S z ⊎ (z ≡ y)) (earlier (r y m) y m) ys (turned S m y (r y m) refl none) x (inl (inl seen))
  best_none S m (y ∷ ys) none x (inr (inl same)) = best_none (λ z. S z ⊎ (z ≡ y)) (earlier (r y m) y m) ys (turned S m y (r y m) refl none) x (inl (inr same))
  best_none S m (y ∷ ys) none x (inr (inr among)) = best_none (λ z. S z ⊎ (z ≡ y)) (earlier (r y m) y m) ys (turned S m y (r y m) refl none) x (inr among)

  kept_in : (m y : X) (ys : List X) (b : Bool) (x : X) → In x (earlier b y m ∷ ys) → In x (m ∷ y ∷ ys)
  kept_in m y ys true x (inl same) = inr (inl same)
  kept_in m y ys false x (inl same) = inl same
  kept_in m y ys true x (inr among) = inr (inr among)
  kept_in m y ys false x (inr among) = inr (inr among)

  best_in : (m : X) (ys : List X) → In (best r m ys) (m ∷ ys)
  unfolding best
  best_in m [] = inl refl
  best_in m (y ∷ ys) = kept_in m y ys (r y m) (best r (earlier (r y m) y m) ys) (best_in (earlier (r y m) y m) ys)

  all_none : (m : X) (ys : List X) (x : X) → In x (m ∷ ys) → r x (best r m ys) ≡ false
  all_none m ys x (inl same) = best_none (λ z. z ≡ m) m ys (λ z is. ap (λ w. r w m) is ∙ irreflexive m) x (inl same)
  all_none m ys x (inr among) = best_none (λ z. z ≡ m) m ys (λ z is. ap (λ w. r w m) is ∙ irreflexive m) x (inr among)

  pub first_exists : (m : X) (ys : List X) → is_some (find (λ x. not (list_any (λ y. r y x) (m ∷ ys))) (m ∷ ys)) ≡ true
  first_exists m ys =
      some_found (λ x. not (list_any (λ y. r y x) (m ∷ ys))) (m ∷ ys)
      ∙ any_in (λ x. not (list_any (λ y. r y x) (m ∷ ys))) (best r m ys) (m ∷ ys) (best_in m ys) (ap not (none_in (λ y. r y (best r m ys)) (m ∷ ys) (all_none m ys)))
