-- In the order of dealing the cards of an owner come street by street.
use Rattle.std.proofs.Common.{◌≡◌, ℕ, zero, suc, ◌+◌, ◌≤◌, Bool, true, false, ◌&&◌, ◌==◌, nat_lt, inl, inr, Option, List, [], ◌∷◌, ◌++◌, filter, refl, sym, ap, ◌∙◌, arith, if◌then◌else◌}
use Rattle.std.specs.List.{flat_map, range_with_len}
use Rattle.std.proofs.lemmas.Bool.{and_right, and_left, cases_lt, eq-eqb, ne_eqb, le-ltb, lt-ltb}
use Rattle.play_event.specs.Laws.{IsAmong}
use Rattle.play_event.specs.Places.{Place, is_in_group, is_same_owner, group_of}
use Rattle.play_laws.proofs.FittingMoves.{none_pass}
use Rattle.play_laws.proofs.UnknownOrder.{AreSorted}
use Rattle.card_set.proofs.NumbersOfRange.{flat_more}

-- a card of an owner that was dealt before a street
abbrev pub is_before : Option ℕ → ℕ → Place → Bool
is_before owner street place = is_same_owner place.owner owner && nat_lt place.street street

pick : (p : Place → Bool) (first : Place) (rest : List Place) (b : Bool) → p first ≡ b → filter p (first ∷ rest) ≡ (if b then (first ∷ filter p rest) else filter p rest)
pick p first rest b is = ap (λ c. if c then (first ∷ filter p rest) else filter p rest) is

pub split : (owner : Option ℕ) (street : ℕ) (placed : List Place) → AreSorted placed → filter (is_before owner (street + 1)) placed ≡ filter (is_before owner street) placed ++ group_of placed street owner
split owner street [] sorted = refl
split owner street (first ∷ rest) sorted = by_owner (is_same_owner first.owner owner) refl (split owner street rest sorted.1)
  where
    passed : (a : Bool) → is_same_owner first.owner owner ≡ true → nat_lt first.street (street + 1) ≡ a → is_before owner (street + 1) first ≡ a
    passed a own is = ap (λ b. b && nat_lt first.street (street + 1)) own ∙ is

    before : (a : Bool) → is_same_owner first.owner owner ≡ true → nat_lt first.street street ≡ a → is_before owner street first ≡ a
    before a own is = ap (λ b. b && nat_lt first.street street) own ∙ is

    now : (a : Bool) → is_same_owner first.owner owner ≡ true → (first.street == street) ≡ a → is_in_group owner street first ≡ a
    now a own is = ap (λ b. b && (first.street == street)) own ∙ is

    skipped : is_before owner (street + 1) first ≡ false → is_before owner street first ≡ false → is_in_group owner street first ≡ false → filter (is_before owner (street + 1)) rest ≡ filter (is_before owner street) rest ++ group_of rest street owner → filter (is_before owner (street + 1)) (first ∷ rest) ≡ filter (is_before owner street) (first ∷ rest) ++ group_of (first ∷ rest) street owner
    skipped x y z later =
        pick (is_before owner (street + 1)) first rest false x ∙ later
        ∙ sym (ap (λ l. l ++ group_of (first ∷ rest) street owner) (pick (is_before owner street) first rest false y) ∙ ap (λ l. filter (is_before owner street) rest ++ l) (pick (is_in_group owner street) first rest false z))

    by_owner : (own : Bool) → is_same_owner first.owner owner ≡ own → filter (is_before owner (street + 1)) rest ≡ filter (is_before owner street) rest ++ group_of rest street owner → filter (is_before owner (street + 1)) (first ∷ rest) ≡ filter (is_before owner street) (first ∷ rest) ++ group_of (first ∷ rest) street owner
    by_owner false own later =
        skipped (and_left (is_same_owner first.owner owner) (nat_lt first.street (street + 1)) own) (and_left (is_same_owner first.owner owner) (nat_lt first.street street) own) (and_left (is_same_owner first.owner owner) (first.street == street) own) later
    by_owner true own later = elim (cases_lt first.street street) [
      | inl less ↦
          pick (is_before owner (street + 1)) first rest true (passed true own (lt-ltb first.street (street + 1) (omega (arith, less)))) ∙ ap (λ l. first ∷ l) later
          ∙ sym (ap (λ l. l ++ group_of (first ∷ rest) street owner) (pick (is_before owner street) first rest true (before true own (lt-ltb first.street street less)))
          ∙ ap (λ l. (first ∷ filter (is_before owner street) rest) ++ l) (pick (is_in_group owner street) first rest false (now false own (ne_eqb first.street street (λ same. omega (arith, same, less))))))
      | inr not_less ↦ elim (cases_lt street first.street) [
        | inl more ↦
            skipped (passed false own (le-ltb first.street (street + 1) (omega (arith, more)))) (before false own (le-ltb first.street street not_less)) (now false own (ne_eqb first.street street (λ same. omega (arith, same, more)))) later
        | inr not_more ↦
            let none : filter (is_before owner street) rest ≡ [] = none_pass (is_before owner street) rest (λ place among. and_right (is_same_owner place.owner owner) (nat_lt place.street street) (le-ltb place.street street (omega (arith, not_less, sorted.0 place among)))) in
            pick (is_before owner (street + 1)) first rest true (passed true own (lt-ltb first.street (street + 1) (omega (arith, not_more))))
            ∙ ap (λ l. first ∷ l) (later ∙ ap (λ l. l ++ group_of rest street owner) none)
            ∙ sym (ap (λ l. l ++ group_of (first ∷ rest) street owner) (pick (is_before owner street) first rest false (before false own (le-ltb first.street street not_less)) ∙ none)
            ∙ pick (is_in_group owner street) first rest true (now true own (eq-eqb first.street street (omega (arith, not_less, not_more)))))
      ]
    ]

-- an owner has no cards before the first street
pub none_before : (owner : Option ℕ) (placed : List Place) → ((place : Place) → IsAmong placed place → 1 ≤ place.street) → filter (is_before owner (0 + 1)) placed ≡ []
none_before owner placed since =
    none_pass (is_before owner (0 + 1)) placed (λ place among. and_right (is_same_owner place.owner owner) (nat_lt place.street (0 + 1)) (le-ltb place.street (0 + 1) (omega (arith, since place among))))

-- street by street they are all its cards
pub by_streets : (owner : Option ℕ) (count : ℕ) (placed : List Place) → AreSorted placed → ((place : Place) → IsAmong placed place → 1 ≤ place.street) → flat_map (λ street. group_of placed street owner) (range_with_len 1 count) ≡ filter (is_before owner (count + 1)) placed
by_streets owner zero placed sorted since = sym (none_before owner placed since)
by_streets owner (suc count) placed sorted since =
    let next : 1 + count ≡ count + 1 = omega arith in
    let up : (count + 1) + 1 ≡ suc count + 1 = omega arith in
    flat_more (λ street. group_of placed street owner) 1 count
    ∙ ap (λ l. l ++ group_of placed (1 + count) owner) (by_streets owner count placed sorted since)
    ∙ ap (λ n. filter (is_before owner (count + 1)) placed ++ group_of placed n owner) next
    ∙ sym (split owner (count + 1) placed sorted)
    ∙ ap (λ n. filter (is_before owner n) placed) up
