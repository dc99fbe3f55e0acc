-- Numbers written with a space before each read back as the same numbers.
use Rattle.std.proofs.Common.{◌≡◌, ℕ, ◌+◌, ◌-◌, ◌≤◌, ◌<◌, ◌^◌, Bool, true, false, nat_le, nat_lt, eqb, decimal, List, [], ◌∷◌, ◌++◌, length, map, filter, slice_index, All, Ok, refl, sym, ap, ◌∙◌, arith, append_assoc}
use Rattle.std.specs.List.{list_all, slice_split}
use Rattle.std.specs.Char.{is_digit}
use Rattle.std.proofs.lemmas.Bool.{and_parts, le-leb, leb-true, lt-ltb}
use Rattle.std.proofs.lemmas.Fmt.{decimal_is_IsNumeral}
use Rattle.std.proofs.lemmas.List.{append-nil, get_or-append-add, length-append}
use Rattle.std.proofs.lemmas.List.Folds.{list_all-append}
use Rattle.std.proofs.lemmas.List.Splits.{slice_split_at, slice_split_none}
use Rattle.chip_ledger.specs.AmountTexts.{spaced}
use Rattle.first_fault.specs.Digits.{are_digits, number_of}
use Rattle.first_fault.specs.Words.{is_space, words_of}
use Rattle.first_fault.proofs.DecimalDigits.{decimal_digits}
use Rattle.card_set.proofs.Digits.{digit_least, digit_most, number_said as digits_say, of_digits}
use Rattle.card_set.proofs.Entries.{never_at}
use Rattle.card_set.proofs.Tests.{both_true}
use Rattle.acpc_game.specs.GameEntries.{number_said, numbers_after}

-- a sign is a decimal digit
abbrev is_decimal : ℕ → Bool
is_decimal sign = is_digit sign 10

-- no number is greater than this
abbrev pub are_within : ℕ → List ℕ → Bool
are_within most numbers = list_all (λ number. nat_le number most) numbers

decimal_signs : (n : ℕ) → n < 2 ^ 64 → list_all is_decimal (decimal n) ≡ true
decimal_signs n small = of_digits (decimal n) (decimal_is_IsNumeral n small).0.1

-- a sign that is no digit is not in a number
no_sign : (sign n : ℕ) → n < 2 ^ 64 → is_decimal sign ≡ false → All (λ b. eqb b sign ≡ false) (decimal n)
no_sign sign n small other = λ k d within. never_at is_decimal sign (decimal n) other (decimal_signs n small) k d within

-- a sign that passes a test passes a weaker one
wider : (p q : ℕ → Bool) (text : List ℕ) → ((sign : ℕ) → p sign ≡ true → q sign ≡ true) → list_all p text ≡ true → list_all q text ≡ true
wider p q [] more all = refl
wider p q (sign ∷ text) more all =
    let parts = and_parts (p sign) (list_all p text) all in
    both_true (q sign) (list_all q text) (more sign parts.0) (wider p q text more parts.1)

-- the last sign of a text that is put after another
last_behind : (front behind : List ℕ) → 0 < length behind → slice_index (front ++ behind) (length (front ++ behind) - 1) ≡ slice_index behind (length behind - 1)
last_behind front behind some =
    let place : length (front ++ behind) - 1 ≡ length front + (length behind - 1) = omega (arith, some, length-append front behind) in
    ap (slice_index (front ++ behind)) place ∙ get_or-append-add front behind (length behind - 1) 0

-- words that are not empty are kept
kept : (words : List (List ℕ)) → list_all (λ word. nat_lt 0 (length word)) words ≡ true → filter (λ word. nat_lt 0 (length word)) words ≡ words
kept [] all = refl
kept (word ∷ words) all =
    let parts = and_parts (nat_lt 0 (length word)) (list_all (λ word. nat_lt 0 (length word)) words) all in
    rw (parts.0, kept words parts.1) refl

module _ (most : ℕ) (small : most < 2 ^ 64) where
  first_small : (n : ℕ) (numbers : List ℕ) → are_within most (n ∷ numbers) ≡ true → n < 2 ^ 64
  first_small n numbers all = omega (arith, small, leb-true n most (and_parts (nat_le n most) (are_within most numbers) all).0)

  others_within : (n : ℕ) (numbers : List ℕ) → are_within most (n ∷ numbers) ≡ true → are_within most numbers ≡ true
  others_within n numbers all = (and_parts (nat_le n most) (are_within most numbers) all).1

  -- the signs of numbers are spaces and digits
  pub spaced_pass : (p : ℕ → Bool) (numbers : List ℕ) → p 32 ≡ true → ((sign : ℕ) → 48 ≤ sign → sign ≤ 57 → p sign ≡ true) → are_within most numbers ≡ true → list_all p (spaced numbers) ≡ true
  spaced_pass p [] space digits all = refl
  spaced_pass p (n ∷ numbers) space digits all =
      let one : list_all p (decimal n) ≡ true = wider is_decimal p (decimal n) (λ sign is. digits sign (digit_least sign is) (digit_most sign is)) (decimal_signs n (first_small n numbers all)) in
      both_true (p 32) (list_all p (decimal n ++ spaced numbers)) space
      (list_all-append p (decimal n) (spaced numbers) ∙ both_true (list_all p (decimal n)) (list_all p (spaced numbers)) one (spaced_pass p numbers space digits (others_within n numbers all)))

  -- numbers end with a digit
  pub ends_in_digit : (n : ℕ) (numbers : List ℕ) → are_within most (n ∷ numbers) ≡ true → is_space (slice_index (spaced (n ∷ numbers)) (length (spaced (n ∷ numbers)) - 1)) ≡ false
  ends_in_digit n [] all =
      let some : 0 < length (decimal n) = (decimal_is_IsNumeral n (first_small n [] all)).0.0 in
      ap (λ (text : List ℕ). is_space (slice_index (32 ∷ text) (length (32 ∷ text) - 1))) (append-nil (decimal n))
      ∙ ap is_space (last_behind (32 ∷ []) (decimal n) some)
      ∙ no_sign 32 n (first_small n [] all) refl (length (decimal n) - 1) 0 (omega (arith, some))
  ends_in_digit n (next ∷ numbers) all =
      ap is_space (last_behind (32 ∷ decimal n) (spaced (next ∷ numbers)) (omega arith))
      ∙ ends_in_digit next numbers (others_within n (next ∷ numbers) all)

  split_again : (n : ℕ) (numbers : List ℕ) → are_within most (n ∷ numbers) ≡ true → slice_split is_space (decimal n ++ spaced numbers) ≡ map decimal (n ∷ numbers)
  split_again n [] all =
      ap (slice_split is_space) (append-nil (decimal n)) ∙ slice_split_none is_space (decimal n) (no_sign 32 n (first_small n [] all) refl)
  split_again n (next ∷ numbers) all =
      slice_split_at is_space (decimal n) 32 (decimal next ++ spaced numbers) (no_sign 32 n (first_small n (next ∷ numbers) all) refl) refl
      ∙ ap (λ (words : List (List ℕ)). decimal n ∷ words) (split_again next numbers (others_within n (next ∷ numbers) all))

  some_signs : (numbers : List ℕ) → are_within most numbers ≡ true → list_all (λ word. nat_lt 0 (length word)) (map decimal numbers) ≡ true
  some_signs [] all = refl
  some_signs (n ∷ numbers) all =
      both_true (nat_lt 0 (length (decimal n))) (list_all (λ word. nat_lt 0 (length word)) (map decimal numbers))
      (lt-ltb 0 (length (decimal n)) (decimal_is_IsNumeral n (first_small n numbers all)).0.0) (some_signs numbers (others_within n numbers all))

  -- the words of numbers are their digits
  pub words_again : (n : ℕ) (numbers : List ℕ) → are_within most (n ∷ numbers) ≡ true → words_of (spaced (n ∷ numbers)) ≡ map decimal (n ∷ numbers)
  words_again n numbers all =
      ap (λ (parts : List (List ℕ)). filter (λ part. nat_lt 0 (length part)) ([] ∷ parts)) (split_again n numbers all)
      ∙ kept (map decimal (n ∷ numbers)) (some_signs (n ∷ numbers) all)

  pub all_digits : (numbers : List ℕ) → are_within most numbers ≡ true → list_all are_digits (map decimal numbers) ≡ true
  all_digits [] all = refl
  all_digits (n ∷ numbers) all =
      both_true (are_digits (decimal n)) (list_all are_digits (map decimal numbers)) (decimal_digits n (first_small n numbers all)) (all_digits numbers (others_within n numbers all))

  number_again : (line n : ℕ) → n ≤ most → number_said line most (decimal n) ≡ Ok n
  unfolding number_said number_of
  number_again line n few = rw (digits_say n (omega (arith, small, few)), le-leb n most few) refl

  -- the digits of numbers say these numbers
  pub numbers_again : (line : ℕ) (before numbers : List ℕ) → are_within most numbers ≡ true → numbers_after line most before (map decimal numbers) ≡ Ok (before ++ numbers)
  unfolding numbers_after
  numbers_again line before [] all = ap Ok (sym (append-nil before))
  numbers_again line before (n ∷ numbers) all =
      let few : n ≤ most = leb-true n most (and_parts (nat_le n most) (are_within most numbers) all).0 in
      rw (number_again line n few)
      (numbers_again line (before ++ n ∷ []) numbers (others_within n numbers all) ∙ ap Ok (append_assoc before (n ∷ []) numbers))
