-- Numbers compare as the digits of their texts do without leading zeros: the longer is the greater,
-- and with equal length the greater digits.
use Rattle.std.proofs.Common.{◌≡◌, ℕ, zero, suc, ◌+◌, ◌-◌, ◌*◌, ◌<◌, ◌≤◌, ◌==◌, true, false, List, [], ◌∷◌, ◌++◌, length, replicate, Less, Greater, nat_cmp, nat_lt, refl, sym, subst, ap, ◌∙◌, inl, inr, arith, length-append}
use Rattle.std.proofs.lemmas.Bool.{cases_Bool, cases_lt, and_parts, eqb-true}
use Rattle.std.proofs.lemmas.List.{length-replicate}
use Rattle.std.specs.Char.{digit_value, is_digit}
use Rattle.std.specs.Cmp.Lexicographic.{slice_cmp}
use Rattle.std.specs.List.{AllByRecursion, list_all, prefix_len}
use Rattle.std.specs.Ordering.{ordering_then}
use Rattle.std.specs.Str.Parse.{digits_value, digits_value_after}
use Rattle.first_fault.specs.Digits.{are_digits}
use Rattle.phh_reading.specs.Stripped.{number_digits}
use Rattle.card_set.proofs.Digits.{digit_least, digit_most, zeros_say}
use Rattle.card_set.proofs.Orderings.{equal, greater, less, then_assoc, then_equal}

-- a digit
abbrev IsDigit : ℕ → Type 0
IsDigit sign = (48 ≤ sign) × (sign ≤ 57)

abbrev pub AreDigits : List ℕ → Type 0
AreDigits text = AllByRecursion IsDigit text

digit_is : (sign : ℕ) → IsDigit sign → digit_value sign ≡ sign - 48
digit_is sign is = grind (arith, is.0, is.1)

pub digits_from : (text : List ℕ) → list_all (λ sign. is_digit sign 10) text ≡ true → AreDigits text
digits_from [] all = tt
digits_from (sign ∷ rest) all =
    let parts = and_parts (is_digit sign 10) (list_all (λ other. is_digit other 10) rest) all in
    ((digit_least sign parts.0, digit_most sign parts.0), digits_from rest parts.1)

-- one more digit on each side
next : (n m x y : ℕ) → IsDigit x → IsDigit y → nat_cmp (n * 10 + digit_value x) (m * 10 + digit_value y) ≡ ordering_then (nat_cmp n m) (nat_cmp x y)
next n m x y dx dy =
    let vx = digit_is x dx in
    let vy = digit_is y dy in
    elim (cases_lt n m) [
      | inl lt ↦ rw (less n m lt) (less (n * 10 + digit_value x) (m * 10 + digit_value y) (omega (arith, lt, vx, vy, dx.0, dx.1, dy.0, dy.1)))
      | inr least ↦ elim (cases_lt m n) [
        | inl gt ↦ rw (greater n m gt) (greater (n * 10 + digit_value x) (m * 10 + digit_value y) (omega (arith, gt, vx, vy, dx.0, dx.1, dy.0, dy.1)))
        | inr most ↦ rw (equal n m (omega (arith, least, most))) (elim (cases_lt x y) [
          | inl lt ↦ less (n * 10 + digit_value x) (m * 10 + digit_value y) (omega (arith, least, most, lt, vx, vy, dx.0, dy.0)) ∙ sym (less x y lt)
          | inr above ↦ elim (cases_lt y x) [
            | inl gt ↦ greater (n * 10 + digit_value x) (m * 10 + digit_value y) (omega (arith, least, most, gt, vx, vy, dx.0, dy.0)) ∙ sym (greater x y gt)
            | inr below ↦ equal (n * 10 + digit_value x) (m * 10 + digit_value y) (omega (arith, least, most, above, below, vx, vy)) ∙ sym (equal x y (omega (arith, above, below)))
          ]
        ])
      ]
    ]

-- the same number of digits on each side
same_length : (xs ys : List ℕ) (n m : ℕ) → AreDigits xs → AreDigits ys → length xs ≡ length ys → nat_cmp (digits_value_after 10 n xs) (digits_value_after 10 m ys) ≡ ordering_then (nat_cmp n m) (slice_cmp nat_cmp xs ys)
same_length [] [] n m dx dy same = then_equal (nat_cmp n m)
same_length [] (y ∷ ys) n m dx dy same = absurd (omega (arith, same))
same_length (x ∷ xs) [] n m dx dy same = absurd (omega (arith, same))
same_length (x ∷ xs) (y ∷ ys) n m dx dy same =
    same_length xs ys (n * 10 + digit_value x) (m * 10 + digit_value y) dx.1 dy.1 (omega (arith, same))
    ∙ ap (λ first. ordering_then first (slice_cmp nat_cmp xs ys)) (next n m x y dx.0 dy.0)
    ∙ then_assoc (nat_cmp n m) (nat_cmp x y) (slice_cmp nat_cmp xs ys)

zeros_are : (k : ℕ) (xs : List ℕ) → AreDigits xs → AreDigits (replicate k 48 ++ xs)
zeros_are zero xs all = all
zeros_are (suc k) xs all = ((omega arith, omega arith), zeros_are k xs all)

strip_zero : (c : ℕ) (cs : List ℕ) → (c == 48) ≡ true → number_digits (c ∷ cs) ≡ number_digits cs
strip_zero c cs is =
    let one : 1 + prefix_len (λ digit. digit == 48) cs ≡ suc (prefix_len (λ digit. digit == 48) cs) = omega arith in
    rw (is, one) refl

strip_other : (c : ℕ) (cs : List ℕ) → (c == 48) ≡ false → number_digits (c ∷ cs) ≡ c ∷ cs
strip_other c cs other = rw other refl

-- digits without leading zeros
abbrev IsStripped : List ℕ → Type 0
IsStripped [] = Unit {0}
IsStripped (c ∷ cs) = (c == 48) ≡ false

strip_is : (key : List ℕ) → IsStripped (number_digits key)
strip_is [] = tt
strip_is (c ∷ cs) =
    elim (cases_Bool (c == 48)) [
      | inl is ↦ subst IsStripped (sym (strip_zero c cs is)) (strip_is cs)
      | inr other ↦ subst IsStripped (sym (strip_other c cs other)) other
    ]

strip_digits : (key : List ℕ) → AreDigits key → AreDigits (number_digits key)
strip_digits [] all = tt
strip_digits (c ∷ cs) all =
    elim (cases_Bool (c == 48)) [
      | inl is ↦ subst AreDigits (sym (strip_zero c cs is)) (strip_digits cs all.1)
      | inr other ↦ subst AreDigits (sym (strip_other c cs other)) all
    ]

strip_value : (key : List ℕ) → digits_value 10 key ≡ digits_value 10 (number_digits key)
strip_value [] = refl
strip_value (c ∷ cs) =
    elim (cases_Bool (c == 48)) [
      | inl is ↦
          let zero_first : digits_value 10 (c ∷ cs) ≡ digits_value 10 cs = ap (λ digit. digits_value 10 (digit ∷ cs)) (eqb-true c 48 is) in
          zero_first ∙ strip_value cs ∙ ap (digits_value 10) (sym (strip_zero c cs is))
      | inr other ↦ ap (digits_value 10) (sym (strip_other c cs other))
    ]

above_zero : (y : ℕ) → IsDigit y → (y == 48) ≡ false → 48 < y
above_zero y is other = grind (arith, is.0, other)

-- a number with fewer digits is less than one with more digits and no leading zero
padded : (xs : List ℕ) (y : ℕ) (ys : List ℕ) → length xs < length (y ∷ ys) → length (replicate (suc (length ys - length xs)) 48 ++ xs) ≡ length (y ∷ ys)
padded xs y ys few = omega (arith, few, length-append (replicate (suc (length ys - length xs)) 48) xs, length-replicate {A = ℕ} (suc (length ys - length xs)) 48)

shorter : (xs ys : List ℕ) → AreDigits xs → AreDigits ys → IsStripped ys → length xs < length ys → nat_cmp (digits_value 10 xs) (digits_value 10 ys) ≡ Less
shorter xs [] dx dy is few = absurd (omega (arith, few))
shorter xs (y ∷ ys) dx dy is few =
    let k = length ys - length xs in
    ap (λ value. nat_cmp value (digits_value 10 (y ∷ ys))) (sym (zeros_say (suc k) xs))
    ∙ same_length (replicate (suc k) 48 ++ xs) (y ∷ ys) 0 0 (zeros_are (suc k) xs dx) dy (padded xs y ys few)
    ∙ rw (less 48 y (above_zero y dy.0 is)) refl

longer : (xs ys : List ℕ) → AreDigits xs → AreDigits ys → IsStripped xs → length ys < length xs → nat_cmp (digits_value 10 xs) (digits_value 10 ys) ≡ Greater
longer [] ys dx dy is few = absurd (omega (arith, few))
longer (x ∷ xs) ys dx dy is few =
    let k = length xs - length ys in
    ap (λ value. nat_cmp (digits_value 10 (x ∷ xs)) value) (sym (zeros_say (suc k) ys))
    ∙ same_length (x ∷ xs) (replicate (suc k) 48 ++ ys) 0 0 dx (zeros_are (suc k) ys dy) (sym (padded ys x xs few))
    ∙ rw (greater x 48 (above_zero x dx.0 is)) refl

stripped_order : (xs ys : List ℕ) → AreDigits xs → AreDigits ys → IsStripped xs → IsStripped ys → nat_cmp (digits_value 10 xs) (digits_value 10 ys) ≡ ordering_then (nat_cmp (length xs) (length ys)) (slice_cmp nat_cmp xs ys)
stripped_order xs ys dx dy sx sy =
    elim (cases_lt (length xs) (length ys)) [
      | inl few ↦ shorter xs ys dx dy sy few ∙ rw (less (length xs) (length ys) few) refl
      | inr least ↦ elim (cases_lt (length ys) (length xs)) [
        | inl many ↦ longer xs ys dx dy sx many ∙ rw (greater (length xs) (length ys) many) refl
        | inr most ↦
            let same : length xs ≡ length ys = omega (arith, least, most) in
            same_length xs ys 0 0 dx dy same ∙ rw (equal (length xs) (length ys) same) refl
      ]
    ]

-- two numbers compare as their digits do
pub number_order : (key other : List ℕ) → AreDigits key → AreDigits other → nat_cmp (digits_value 10 key) (digits_value 10 other) ≡ ordering_then (nat_cmp (length (number_digits key)) (length (number_digits other))) (slice_cmp nat_cmp (number_digits key) (number_digits other))
number_order key other dk dother =
    ap (λ value. nat_cmp value (digits_value 10 other)) (strip_value key)
    ∙ ap (λ value. nat_cmp (digits_value 10 (number_digits key)) value) (strip_value other)
    ∙ stripped_order (number_digits key) (number_digits other) (strip_digits key dk) (strip_digits other dother) (strip_is key) (strip_is other)

pub digits_of_number : (text : List ℕ) → are_digits text ≡ true → AreDigits text
unfolding are_digits
digits_of_number text is = digits_from text (and_parts (nat_lt 0 (length text)) (list_all (λ sign. is_digit sign 10) text) is).1
