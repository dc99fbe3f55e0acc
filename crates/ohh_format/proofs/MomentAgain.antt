-- The moment of a hand that was written reads as that moment.
use Rattle.std.proofs.Common.{◌≡◌, ℕ, zero, suc, ◌+◌, ◌-◌, ◌*◌, ◌/◌, ◌%◌, ◌^◌, ◌<◌, ◌≤◌, ◌==◌, Bool, true, false, nat_le, cond, List, [], ◌∷◌, ◌++◌, codes, length, take, drop, replicate, Ok, refl, sym, ap, ◌∙◌, arith}
use Rattle.std.specs.Char.{is_digit}
use Rattle.std.specs.List.{list_all}
use Rattle.std.specs.Str.Parse.{digits_value}
use Rattle.std.proofs.lemmas.Bool.{and_parts, eqb-true, le-leb, lt-ltb}
use Rattle.std.proofs.lemmas.Grind.{pow_more}
use Rattle.std.proofs.lemmas.List.{append-nil, length-append}
use Rattle.std.proofs.lemmas.List.Folds.{list_all-append}
use Rattle.first_fault.specs.Digits.{are_digits}
use Rattle.hand_canon.specs.AllowedNotes.{days_in_month}
use Rattle.ohh_reading.specs.MomentRanges.{IsMoment}
use Rattle.ohh_reading.specs.Moments.{clock_said, day_said, digits_in_front, digits_said, fraction_of, fraction_said, moment_in, nine_of, parts_said, zoned}
use Rattle.hand_canon.specs.declared.notes.Moment.{Moment}
use Rattle.ohh_writing.specs.Moment.{by_digits, moment_text}
use Rattle.card_set.proofs.Digits.{digit_good, digit_is, value_more}
use Rattle.card_set.proofs.Lists.{take_front}

-- ---- digits

digits_count : (count n : ℕ) → length (by_digits count n) ≡ count
digits_count zero n = refl
digits_count (suc count) n = length-append (by_digits count (n / 10)) ((48 + n % 10) ∷ []) ∙ ap (λ k. k + 1) (digits_count count (n / 10)) ∙ omega arith

all_digits : (count n : ℕ) → list_all (λ sign. is_digit sign 10) (by_digits count n) ≡ true
all_digits zero n = refl
all_digits (suc count) n =
    list_all-append (λ sign. is_digit sign 10) (by_digits count (n / 10)) ((48 + n % 10) ∷ [])
    ∙ rw (all_digits count (n / 10), digit_good n) refl

-- the number that is written with this many digits
value_again : (count n : ℕ) → n < 10 ^ count → digits_value 10 (by_digits count n) ≡ n
value_again zero n small = omega (arith, small)
value_again (suc count) n small =
    let power : 10 ^ suc count ≡ 10 ^ count * 10 = ap (λ (k : ℕ). 10 ^ k) (omega arith) ∙ pow_more 10 count in
    let low : n / 10 < 10 ^ count = omega (arith, small, power) in
    let last : n % 10 < 10 = omega arith in
    let digit = digit_is (n % 10) last in
    value_more 0 (by_digits count (n / 10)) (48 + n % 10) ∙ omega (arith, value_again count (n / 10) low, digit)

digits_again : (least most count n : ℕ) → 1 ≤ count → n < 10 ^ count → least ≤ n → n ≤ most → digits_said least most (by_digits count n) ≡ Ok n
unfolding digits_said are_digits
digits_again least most count n some small low high =
    let count_is = digits_count count n in
    rw (
      lt-ltb 0 (length (by_digits count n)) (omega (arith, count_is, some)),
      all_digits count n,
      value_again count n small,
      le-leb least n low,
      le-leb n most high,
    ) refl

in_front : (digits rest : List ℕ) → list_all (λ sign. is_digit sign 10) digits ≡ true → digits_in_front (digits ++ rest) ≡ length digits + digits_in_front rest
in_front [] rest all = omega arith
in_front (digit ∷ digits) rest all =
    let parts = and_parts (is_digit digit 10) (list_all (λ sign. is_digit sign 10) digits) all in
    rw parts.0 (omega (arith, in_front digits rest parts.1))

-- ---- after the seconds

nine_again : (nano : ℕ) → nano ≤ 999999999 → fraction_of (digits_in_front (by_digits 9 nano ++ codes "Z")) (by_digits 9 nano ++ codes "Z") ≡ Ok nano
unfolding fraction_of zoned
nine_again nano few =
    let nine : length (by_digits 9 nano) ≡ 9 = digits_count 9 nano in
    let found : digits_in_front (by_digits 9 nano ++ codes "Z") ≡ 9 = in_front (by_digits 9 nano) (codes "Z") (all_digits 9 nano) ∙ ap (λ n. n + 0) nine in
    let front : take 9 (by_digits 9 nano ++ codes "Z") ≡ by_digits 9 nano = ap (λ n. take n (by_digits 9 nano ++ codes "Z")) (sym nine) ∙ take_front (by_digits 9 nano) (codes "Z") in
    let whole : nine_of (by_digits 9 nano) ≡ by_digits 9 nano = ap (λ n. by_digits 9 nano ++ replicate (9 - n) 48) nine ∙ append-nil (by_digits 9 nano) in
    rw (found, front, whole, digits_again 0 999999999 9 nano (omega arith) (omega (arith, few)) (omega arith) few) refl

fraction_again : (nano : ℕ) → nano ≤ 999999999 → (none : Bool) → (nano == 0) ≡ none → fraction_said (cond none [] (codes "." ++ by_digits 9 nano) ++ codes "Z") ≡ Ok nano
unfolding fraction_said zoned
fraction_again nano few true is = ap (λ (n : ℕ). Ok n) (sym (eqb-true nano 0 is))
fraction_again nano few false is = nine_again nano few

-- ---- the whole text

module _ (moment : Moment) (is : IsMoment moment) where
  abbrev text : List ℕ
  text = moment_text moment

  day_again : day_said text ≡ Ok moment.day
  unfolding day_said
  day_again =
      let day = moment.day in
      let of = is.day in
      rw (
        digits_again 1 9999 4 day.year (omega arith) (omega (arith, of.year.1)) of.year.0 of.year.1,
        digits_again 1 12 2 day.month (omega arith) (omega (arith, of.month.1)) of.month.0 of.month.1,
        digits_again 1 31 2 day.day (omega arith) (omega (arith, of.day_of_month.1)) of.day_of_month.0 of.day_of_month.1,
        le-leb day.day (days_in_month day.year day.month) of.date,
      ) refl

  clock_again : clock_said moment.time.nano text ≡ Ok moment.time
  unfolding clock_said
  clock_again =
      rw (
        digits_again 0 23 2 moment.time.hour (omega arith) (omega (arith, is.time.hour)) (omega arith) is.time.hour,
        digits_again 0 59 2 moment.time.minute (omega arith) (omega (arith, is.time.minute)) (omega arith) is.time.minute,
        digits_again 0 59 2 moment.time.second (omega arith) (omega (arith, is.time.second)) (omega arith) is.time.second,
      ) refl

  behind_again : fraction_said (drop 19 text) ≡ Ok moment.time.nano
  behind_again = fraction_again moment.time.nano is.time.nano (moment.time.nano == 0) refl

  pub moment_again : moment_in text ≡ Ok moment
  unfolding moment_in parts_said
  moment_again =
      let long : nat_le 19 (length text) ≡ true = le-leb 19 (length text) (omega arith) in
      rw (long, day_again, behind_again, clock_again) refl
