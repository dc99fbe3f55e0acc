-- A name has a place if and only if it is among the names, and a new name gets the place after
-- them.
use Rattle.std.proofs.Common.{◌≡◌, ℕ, ◌+◌, ◌<◌, ◌≤◌, Bool, true, false, cond, ◌||◌, List, [], ◌∷◌, ◌++◌, length, Option, Some, None, bytes_eq, refl, sym, ap, ◌∙◌, arith}
use Rattle.std.specs.Cmp.Lexicographic.{bytes_decides}
use Rattle.std.specs.List.{list_any, position_from}
use Rattle.std.proofs.lemmas.Bool.{true≢false}
use Rattle.std.proofs.lemmas.Option.{same_Some}
use Rattle.card_set.proofs.Bytes.{different_bytes, same_bytes}
use Rattle.printed_hands.specs.Names.{with_name}

-- what has a place is among the names
pub placed : (name : List ℕ) (names : List (List ℕ)) (from place : ℕ)
    → position_from (bytes_eq name) from names ≡ Some place → list_any (bytes_eq name) names ≡ true
placed name [] from place is = absurd (cc (is))
placed name (first ∷ rest) from place is = by (bytes_eq name first) (placed name rest (from + 1) place) is
  where
    by : (b : Bool) → (position_from (bytes_eq name) (from + 1) rest ≡ Some place → list_any (bytes_eq name) rest ≡ true)
        → cond b (Some from) (position_from (bytes_eq name) (from + 1) rest) ≡ Some place
        → (b || list_any (bytes_eq name) rest) ≡ true
    by true later is = refl
    by false later is = later is

-- what has no place is not
pub unplaced : (name : List ℕ) (names : List (List ℕ)) (from : ℕ)
    → position_from (bytes_eq name) from names ≡ None → list_any (bytes_eq name) names ≡ false
unplaced name [] from is = refl
unplaced name (first ∷ rest) from is = by (bytes_eq name first) (unplaced name rest (from + 1)) is
  where
    by : (b : Bool) → (position_from (bytes_eq name) (from + 1) rest ≡ None → list_any (bytes_eq name) rest ≡ false)
        → cond b (Some from) (position_from (bytes_eq name) (from + 1) rest) ≡ None
        → (b || list_any (bytes_eq name) rest) ≡ false
    by true later is = absurd (cc (is))
    by false later is = later is

-- the place of a name after one more name was added
pub place_more : (asked name : List ℕ) (names : List (List ℕ)) (from : ℕ)
    → position_from (bytes_eq asked) from (names ++ name ∷ [])
    ≡ cond (list_any (bytes_eq asked) names) (position_from (bytes_eq asked) from names) (cond (bytes_eq asked name) (Some (from + length names)) None)
place_more asked name [] from = ap (λ (n : ℕ). cond (bytes_eq asked name) (Some n) None) (omega arith)
place_more asked name (first ∷ rest) from = by (bytes_eq asked first) (place_more asked name rest (from + 1))
  where
    here : from + 1 + length rest ≡ from + length (first ∷ rest)
    here = omega arith

    by : (b : Bool)
        → position_from (bytes_eq asked) (from + 1) (rest ++ name ∷ [])
        ≡ cond (list_any (bytes_eq asked) rest) (position_from (bytes_eq asked) (from + 1) rest) (cond (bytes_eq asked name) (Some (from + 1 + length rest)) None)
        → cond b (Some from) (position_from (bytes_eq asked) (from + 1) (rest ++ name ∷ []))
        ≡ cond (b || list_any (bytes_eq asked) rest) (cond b (Some from) (position_from (bytes_eq asked) (from + 1) rest))
        (cond (bytes_eq asked name) (Some (from + length (first ∷ rest))) None)
    by true later = refl
    by false later =
        later ∙ ap (λ (n : ℕ). cond (list_any (bytes_eq asked) rest) (position_from (bytes_eq asked) (from + 1) rest) (cond (bytes_eq asked name) (Some n) None)) here

-- the place of a new name is how many there were
pub new_place : (name : List ℕ) (names : List (List ℕ)) → list_any (bytes_eq name) names ≡ false
    → position_from (bytes_eq name) 0 (names ++ name ∷ []) ≡ Some (length names)
new_place name names missing =
    place_more name name names 0
    ∙ ap (λ (b : Bool). cond b (position_from (bytes_eq name) 0 names) (cond (bytes_eq name name) (Some (0 + length names)) None)) missing
    ∙ ap (λ (b : Bool). cond b (Some (0 + length names)) None) (same_bytes name)
    ∙ ap (λ (n : ℕ). Some n) (omega arith)

-- a place is within the list
pub place_range : (name : List ℕ) (names : List (List ℕ)) (from place : ℕ)
    → position_from (bytes_eq name) from names ≡ Some place → (from ≤ place) × (place < from + length names)
place_range name [] from place is = absurd (cc (is))
place_range name (first ∷ rest) from place is = by (bytes_eq name first) (place_range name rest (from + 1) place) is
  where
    by : (b : Bool) → (position_from (bytes_eq name) (from + 1) rest ≡ Some place → (from + 1 ≤ place) × (place < from + 1 + length rest))
        → cond b (Some from) (position_from (bytes_eq name) (from + 1) rest) ≡ Some place
        → (from ≤ place) × (place < from + length (first ∷ rest))
    by true later at = let same = same_Some from place at in (omega (arith, same), omega (arith, same))
    by false later at = let range = later at in (omega (arith, range.0), omega (arith, range.1))

-- names with a new one
pub with_new : (name : List ℕ) (names : List (List ℕ)) → list_any (bytes_eq name) names ≡ false → with_name names name ≡ names ++ name ∷ []
with_new name names missing = ap (λ (b : Bool). cond b names (names ++ name ∷ [])) missing

-- names with one more that is already among them
pub with_known : (name : List ℕ) (names : List (List ℕ)) → list_any (bytes_eq name) names ≡ true → with_name names name ≡ names
with_known name names known = ap (λ (b : Bool). cond b names (names ++ name ∷ [])) known

-- the place of a name that was among the names is below their number, and that of a new one is
-- their number
pub known_place : (name : List ℕ) (names : List (List ℕ)) (place : ℕ) → list_any (bytes_eq name) names ≡ true
    → position_from (bytes_eq name) 0 (with_name names name) ≡ Some place → place < length names
known_place name names place known at =
    omega (arith, (place_range name names 0 place (ap (position_from (bytes_eq name) 0) (sym (with_known name names known)) ∙ at)).1)

pub last_place : (name : List ℕ) (names : List (List ℕ)) (place : ℕ) → list_any (bytes_eq name) names ≡ false
    → position_from (bytes_eq name) 0 (with_name names name) ≡ Some place → place ≡ length names
last_place name names place missing at =
    same_Some place (length names) (sym at ∙ ap (position_from (bytes_eq name) 0) (with_new name names missing) ∙ new_place name names missing)

-- if no name was found, there is none
nowhere : (asked : List ℕ) (names : List (List ℕ)) (b : Bool) → list_any (bytes_eq asked) names ≡ b
    → position_from (bytes_eq asked) 0 names ≡ cond b (position_from (bytes_eq asked) 0 names) None
nowhere asked names true is = refl
nowhere asked names false is = none (position_from (bytes_eq asked) 0 names) refl
  where
    none : (found : Option ℕ) → position_from (bytes_eq asked) 0 names ≡ found → found ≡ None
    none None at = refl
    none (Some place) at = absurd (true≢false (sym (placed asked names 0 place at) ∙ is))

-- if a new name gets the place after the others and the others keep theirs, all names are found
pub indexed_more : (before after : List ℕ → Option ℕ) (names : List (List ℕ)) (name : List ℕ) (others : ℕ)
    → ((asked : List ℕ) → before asked ≡ position_from (bytes_eq asked) 0 names)
    → list_any (bytes_eq name) names ≡ false → length names ≡ others
    → ((asked : List ℕ) → after asked ≡ cond (bytes_eq name asked) (Some others) (before asked))
    → (asked : List ℕ) → after asked ≡ position_from (bytes_eq asked) 0 (names ++ name ∷ [])
indexed_more before after names name others are missing many updates asked =
    updates asked
    ∙ ap (λ (n : ℕ). cond (bytes_eq name asked) (Some n) (before asked)) (sym many)
    ∙ ap (λ (found : Option ℕ). cond (bytes_eq name asked) (Some (length names)) found) (are asked)
    ∙ by (bytes_eq name asked) refl
  where
    by : (b : Bool) → bytes_eq name asked ≡ b
        → cond b (Some (length names)) (position_from (bytes_eq asked) 0 names) ≡ position_from (bytes_eq asked) 0 (names ++ name ∷ [])
    by true same =
        sym (new_place name names missing)
        ∙ ap (λ (text : List ℕ). position_from (bytes_eq text) 0 (names ++ name ∷ [])) ((bytes_decides name asked).0 same)
    by false other =
        nowhere asked names (list_any (bytes_eq asked) names) refl
        ∙ ap (λ (b : Bool). cond (list_any (bytes_eq asked) names) (position_from (bytes_eq asked) 0 names) (cond b (Some (0 + length names)) None))
        (sym (different_bytes asked name (λ same. true≢false (sym (same_bytes name) ∙ ap (bytes_eq name) (sym same) ∙ other))))
        ∙ sym (place_more asked name names 0)
