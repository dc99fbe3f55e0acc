-- A discard whose names all find a place takes at least as many cards as it names: each name is
-- that of a known place or one of the other names.
use Rattle.std.proofs.Common.{◌≡◌, ◌+◌, ◌≤◌, Bool, true, false, ◌||◌, if◌then◌else◌, List, [], ◌∷◌, length, refl, sym, ap, ◌∙◌, arith}
use Rattle.card_set.specs.declared.card.Card.{Card}
use Rattle.card_set.specs.declared.card.Slot.{Slot}
use Rattle.card_set.specs.declared.card.Slot.TheVariants as slots
use Rattle.card_set.specs.Deck.{is_same_card}
use Rattle.play_event.specs.Places.{Place}
use Rattle.play_event.specs.NameMatching.{without_name, unmatched_names, is_named, is_known_and_named, named_count}

-- each name of one list is in the other
abbrev pub AreNamed : List Card → List Card → Type 0
AreNamed some names = (card : Card) → is_named card some ≡ true → is_named card names ≡ true

without_named : (slot : Slot) (some : List Card) (card : Card) → is_named card (without_name slot some) ≡ true → is_named card some ≡ true
without_named slots.Unknown some card is = is
without_named (slots.Known other) [] card is = is
without_named (slots.Known other) (name ∷ rest) card is = by_first (is_same_card other name) (is_same_card card name) refl is (without_named (slots.Known other) rest card)
  where
    by_first : (b c : Bool) → is_same_card card name ≡ c → is_named card (if b then rest else (name ∷ without_name (slots.Known other) rest)) ≡ true → (is_named card (without_name (slots.Known other) rest) ≡ true → is_named card rest ≡ true) → (c || is_named card rest) ≡ true
    by_first b true here found later = refl
    by_first true false here found later = found
    by_first false false here found later = later (ap (λ x. x || is_named card (without_name (slots.Known other) rest)) (sym here) ∙ found)

-- at most one name is taken out, and none if the card is not named
one_out : (card : Card) (some : List Card) → length some ≤ 1 + length (without_name (slots.Known card) some)
one_out card [] = omega arith
one_out card (name ∷ rest) = by_first (is_same_card card name) (one_out card rest)
  where
    by_first : (b : Bool) → length rest ≤ 1 + length (without_name (slots.Known card) rest) → length (name ∷ rest) ≤ 1 + length (if b then rest else (name ∷ without_name (slots.Known card) rest))
    by_first true later = omega arith
    by_first false later = omega (arith, later)

none_out : (card : Card) (some : List Card) → is_named card some ≡ false → length some ≤ length (without_name (slots.Known card) some)
none_out card [] is = omega arith
none_out card (name ∷ rest) is = by_first (is_same_card card name) is (none_out card rest)
  where
    by_first : (b : Bool) → (b || is_named card rest) ≡ false → (is_named card rest ≡ false → length rest ≤ length (without_name (slots.Known card) rest)) → length (name ∷ rest) ≤ length (if b then rest else (name ∷ without_name (slots.Known card) rest))
    by_first true none later = absurd cc
    by_first false none later = let more = later none in omega (arith, more)

out_of : (slot : Slot) (some names : List Card) → AreNamed some names → length some ≤ (if is_known_and_named names slot then 1 else 0) + length (without_name slot some)
out_of slots.Unknown some names are = omega arith
out_of (slots.Known card) some names are = by_some (is_named card some) (is_named card names) refl refl
  where
    by_some : (b c : Bool) → is_named card some ≡ b → is_named card names ≡ c → length some ≤ (if c then 1 else 0) + length (without_name (slots.Known card) some)
    by_some b true here there = one_out card some
    by_some false false here there = omega (arith, none_out card some here)
    by_some true false here there = let yes_is : is_named card names ≡ true = are card here in absurd cc

pub names_least : (places : List Place) (some names : List Card) → AreNamed some names → length some ≤ named_count names places + length (unmatched_names places some)
names_least [] some names are = omega arith
names_least (place ∷ rest) some names are =
    omega (arith, out_of place.slot some names are, names_least rest (without_name place.slot some) names (λ card is. are card (without_named place.slot some card is)))
