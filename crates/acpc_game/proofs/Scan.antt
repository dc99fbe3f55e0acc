-- Laws of the digits at the front of a text.
use Rattle.std.proofs.Common.{◌≡◌, ℕ, suc, ◌+◌, ◌≤◌, Bool, true, false, cond, List, [], ◌∷◌, length, take, drop, refl, sym, ap, ◌∙◌, subst, arith}
use Rattle.std.proofs.lemmas.List.{length-take-le}
use Rattle.std.specs.List.{prefix_len, list_all}
use Rattle.std.specs.Char.{is_digit}
use Rattle.acpc_game.specs.Letters.{scan}

-- the digits at the front of a text, and the rest
pub record IsScanned (text : List ℕ) (len : ℕ) : Type 0 where
  pub digits : (scan text).0 ≡ take len text
  pub letters : (scan text).1 ≡ (scan (drop len text)).1
  pub behind : (scan (drop len text)).0 ≡ []
  pub all : list_all (λ b. is_digit b 10) (take len text) ≡ true
  pub within : len ≤ length text

one_more : (b : ℕ) (rest : List ℕ) (digit : Bool) → is_digit b 10 ≡ digit → IsScanned rest (prefix_len (λ b. is_digit b 10) rest) → IsScanned (b ∷ rest) (prefix_len (λ b. is_digit b 10) (b ∷ rest))
one_more b rest true is more =
    let k = prefix_len (λ b. is_digit b 10) rest in
    let made : IsScanned (b ∷ rest) (suc k) = record {
      digits = rw is (ap (λ (l : List ℕ). b ∷ l) more.digits);
      letters = rw is more.letters;
      behind = more.behind;
      all = rw is more.all;
      within = omega (arith, more.within);
    } in
    let same : cond (is_digit b 10) (1 + k) 0 ≡ suc k = rw is (omega arith) in
    subst (IsScanned (b ∷ rest)) (sym same) made
one_more b rest false is more =
    let made : IsScanned (b ∷ rest) 0 = record { digits = rw is refl; letters = refl; behind = rw is refl; all = refl; within = omega arith } in
    let same : cond (is_digit b 10) (1 + prefix_len (λ b. is_digit b 10) rest) 0 ≡ 0 = rw is refl in
    subst (IsScanned (b ∷ rest)) (sym same) made

pub scanned : (text : List ℕ) → IsScanned text (prefix_len (λ b. is_digit b 10) text)
scanned [] = record { digits = refl; letters = refl; behind = refl; all = refl; within = omega arith }
scanned (b ∷ rest) = one_more b rest (is_digit b 10) refl (scanned rest)

pub digits_at_front : (text : List ℕ) → length (scan text).0 ≡ prefix_len (λ b. is_digit b 10) text
digits_at_front text = let is = scanned text in ap length is.digits ∙ length-take-le (prefix_len (λ b. is_digit b 10) text) text is.within

-- a letter at the front, with the digits after it
letter_from : (letter : ℕ) (text digits after : List ℕ) (digit : Bool) → is_digit letter 10 ≡ digit → (scan text).0 ≡ digits → (scan text).1 ≡ (scan after).1 → (scan (letter ∷ text)).0 ≡ [] → (scan (letter ∷ text)).1 ≡ (letter, digits) ∷ (scan after).1
letter_from letter text digits after true is front rest begins = let none : letter ∷ (scan text).0 ≡ [] = rw is at begins in absurd (cc)
letter_from letter text digits after false is front rest begins = rw (is, front, rest) refl

pub letter_at : (letter : ℕ) (text digits after : List ℕ) → (scan text).0 ≡ digits → (scan text).1 ≡ (scan after).1 → (scan (letter ∷ text)).0 ≡ [] → (scan (letter ∷ text)).1 ≡ (letter, digits) ∷ (scan after).1
letter_at letter text digits after front rest begins = letter_from letter text digits after (is_digit letter 10) refl front rest begins
