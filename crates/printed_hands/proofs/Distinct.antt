-- Names in the order in which they are first seen are different, and none is left out.
use Rattle.std.proofs.Common.{◌≡◌, ℕ, ◌||◌, Bool, true, false, List, [], ◌∷◌, ◌++◌, fold, bytes_eq, refl, sym, ap, subst, ◌∙◌}
use Rattle.std.specs.Cmp.Lexicographic.{bytes_decides}
use Rattle.std.specs.List.{list_any}
use Rattle.std.proofs.lemmas.Bool.{true≢false}
use Rattle.std.proofs.lemmas.List.Folds.{list_any-append}
use Rattle.std.proofs.lemmas.List.Sums.{fold-append}
use Rattle.card_set.proofs.Bytes.{different_bytes, same_bytes}
use Rattle.card_set.proofs.Tests.{or_assoc, or_false, or_right}
use Rattle.printed_hands.specs.Names.{with_name}
use Rattle.printed_hands.proofs.Placed.{with_known, with_new}

-- no name occurs twice in a list
abbrev pub AreDistinct : List (List ℕ) → Type 0
AreDistinct [] = Unit {0}
AreDistinct (name ∷ rest) = (list_any (bytes_eq name) rest ≡ false) × AreDistinct rest

-- texts are compared alike from both sides
pub bytes_flip : (name other : List ℕ) (b : Bool) → bytes_eq name other ≡ b → bytes_eq other name ≡ b
bytes_flip name other true same = subst (λ text. bytes_eq text name ≡ true) ((bytes_decides name other).0 same) (same_bytes name)
bytes_flip name other false differ = different_bytes other name (λ same. true≢false (sym (same_bytes name) ∙ ap (bytes_eq name) (sym same) ∙ differ))

-- a name is among names with one more if it was before or is that one
pub any_with : (asked : List ℕ) (names : List (List ℕ)) (name : List ℕ)
    → list_any (bytes_eq asked) (with_name names name) ≡ (list_any (bytes_eq asked) names || bytes_eq asked name)
any_with asked names name = by (list_any (bytes_eq name) names) refl
  where
    stays : (b : Bool) → bytes_eq asked name ≡ b → list_any (bytes_eq name) names ≡ true → list_any (bytes_eq asked) names ≡ (list_any (bytes_eq asked) names || b)
    stays true same known =
        let is : list_any (bytes_eq asked) names ≡ true = subst (λ text. list_any (bytes_eq text) names ≡ true) (sym ((bytes_decides asked name).0 same)) known in
        is ∙ sym (ap (λ (b : Bool). b || true) is)
    stays false other known = sym (or_false (list_any (bytes_eq asked) names))

    by : (b : Bool) → list_any (bytes_eq name) names ≡ b → list_any (bytes_eq asked) (with_name names name) ≡ (list_any (bytes_eq asked) names || bytes_eq asked name)
    by true known = ap (list_any (bytes_eq asked)) (with_known name names known) ∙ stays (bytes_eq asked name) refl known ∙ refl
    by false missing =
        ap (list_any (bytes_eq asked)) (with_new name names missing)
        ∙ list_any-append (bytes_eq asked) names (name ∷ [])
        ∙ ap (λ (b : Bool). list_any (bytes_eq asked) names || b) (or_false (bytes_eq asked name))

pub any_fold : (asked : List ℕ) (base names : List (List ℕ))
    → list_any (bytes_eq asked) (fold with_name base names) ≡ (list_any (bytes_eq asked) base || list_any (bytes_eq asked) names)
any_fold asked base [] = sym (or_false (list_any (bytes_eq asked) base))
any_fold asked base (name ∷ names) =
    any_fold asked (with_name base name) names
    ∙ ap (λ (b : Bool). b || list_any (bytes_eq asked) names) (any_with asked base name)
    ∙ sym (or_assoc (list_any (bytes_eq asked) base) (bytes_eq asked name) (list_any (bytes_eq asked) names))

-- different names stay so with a new one
distinct_new : (names : List (List ℕ)) (name : List ℕ) → AreDistinct names → list_any (bytes_eq name) names ≡ false → AreDistinct (names ++ name ∷ [])
distinct_new [] name distinct missing = (refl, tt)
distinct_new (first ∷ rest) name distinct missing = by (λ none. distinct_new rest name distinct.1 none) (bytes_eq name first) refl missing
  where
    by : (list_any (bytes_eq name) rest ≡ false → AreDistinct (rest ++ name ∷ [])) → (b : Bool) → bytes_eq name first ≡ b → (b || list_any (bytes_eq name) rest) ≡ false → AreDistinct (first ∷ (rest ++ name ∷ []))
    by later true same none = absurd (true≢false none)
    by later false other none = (
      list_any-append (bytes_eq first) rest (name ∷ [])
          ∙ ap (λ (b : Bool). b || (bytes_eq first name || false)) distinct.0
          ∙ ap (λ (b : Bool). b || false) (bytes_flip name first false other),
      later none,
    )

pub distinct_with : (names : List (List ℕ)) (name : List ℕ) → AreDistinct names → AreDistinct (with_name names name)
distinct_with names name distinct = by (list_any (bytes_eq name) names) refl
  where
    by : (b : Bool) → list_any (bytes_eq name) names ≡ b → AreDistinct (with_name names name)
    by true known = subst AreDistinct (sym (with_known name names known)) distinct
    by false missing = subst AreDistinct (sym (with_new name names missing)) (distinct_new names name distinct missing)

pub distinct_fold : (base names : List (List ℕ)) → AreDistinct base → AreDistinct (fold with_name base names)
distinct_fold base [] distinct = distinct
distinct_fold base (name ∷ names) distinct = distinct_fold (with_name base name) names (distinct_with base name distinct)

-- adding names once or as often as they come is the same
once : (base names : List (List ℕ)) (name : List ℕ) → fold with_name base (with_name names name) ≡ with_name (fold with_name base names) name
once base names name = by (list_any (bytes_eq name) names) refl
  where
    by : (b : Bool) → list_any (bytes_eq name) names ≡ b → fold with_name base (with_name names name) ≡ with_name (fold with_name base names) name
    by true known =
        ap (fold with_name base) (with_known name names known)
        ∙ sym (with_known name (fold with_name base names) (any_fold name base names ∙ or_right (list_any (bytes_eq name) base) (list_any (bytes_eq name) names) known))
    by false missing = ap (fold with_name base) (with_new name names missing) ∙ fold-append with_name base names (name ∷ [])

pub fold_once : (base names more : List (List ℕ)) → fold with_name base (fold with_name names more) ≡ fold with_name (fold with_name base names) more
fold_once base names [] = refl
fold_once base names (name ∷ more) =
    fold_once base (with_name names name) more ∙ ap (λ l. fold with_name l more) (once base names name)
