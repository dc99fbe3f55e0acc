-- Lemmas on texts as bytes: whether two are equal, and whether bytes are a text.
use Rattle.std.proofs.Common.{Bool, IsTrue, IsUtf8, List, bytes_eq, false, inl, inr, refl, subst, true, ℕ, ◌↔◌, ◌≡◌}
use Rattle.std.proofs.lemmas.Bool.{cases_Bool}
use Rattle.std.proofs.lemmas.Bool.Decides.{same_from_decides}
use Rattle.std.proofs.lemmas.Slice.Eq.{bytes_eq-Decides}
use Rattle.std.proofs.lemmas.Str.{IsUtf8-from_is_utf8, is_utf8-from_IsUtf8}
use Rattle.std.specs.Cmp.Lexicographic.{bytes_decides}
use Rattle.std.specs.Str.{is_utf8}

-- a text equals itself
pub same_bytes : (text : List ℕ) → bytes_eq text text ≡ true
same_bytes text = (bytes_eq-Decides text text).1 refl

pub different_bytes : (text default : List ℕ) → (text ≡ default → ⊥) → bytes_eq text default ≡ false
different_bytes text default other = go (bytes_eq text default) refl
  where
    go : (same : Bool) → bytes_eq text default ≡ same → same ≡ false
    go true is = absurd (other ((bytes_eq-Decides text default).0 is))
    go false is = refl

pub different_by_test : (xs ys : List ℕ) (b : Bool) → bytes_eq xs ys ≡ b → (xs ≡ ys → ⊥) → b ≡ false
different_by_test xs ys true e other = absurd (other ((bytes_eq-Decides xs ys).0 e))
different_by_test xs ys false e other = refl

-- an answer that says when two lists are equal is their comparison
pub equal_by_test : (same : Bool) (numbers others : List ℕ) → (IsTrue same ↔ (numbers ≡ others)) → same ≡ bytes_eq numbers others
equal_by_test same numbers others exact = same_from_decides same (bytes_eq numbers others) exact (bytes_eq-Decides numbers others)

pub same_key : (asked name key : List ℕ) → bytes_eq asked key ≡ true → bytes_eq asked name ≡ true → bytes_eq name key ≡ true
same_key asked name key first second = subst (λ text. bytes_eq text key ≡ true) ((bytes_decides asked name).0 second) first

pub is_no_text : (bytes : List ℕ) → ¬ (IsUtf8 bytes) → is_utf8 bytes ≡ false
is_no_text bytes none =
    elim (cases_Bool (is_utf8 bytes)) [
      | inl text ↦ absurd (none (IsUtf8-from_is_utf8 bytes text))
      | inr other ↦ other
    ]

pub is_text : (bytes : List ℕ) → IsUtf8 bytes → is_utf8 bytes ≡ true
is_text bytes is = is_utf8-from_IsUtf8 bytes is
