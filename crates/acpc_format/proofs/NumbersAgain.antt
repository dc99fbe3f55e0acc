-- Numbers written in decimal digits read back, and so do the number of the hand and the values.
use Rattle.std.proofs.Common.{◌≡◌, ℕ, zero, suc, ◌+◌, ◌-◌, ◌≤◌, ◌<◌, ◌^◌, ℤ, pos, ◌-ℤ◌, Bool, true, false, ◌&&◌, ◌||◌, ◌==◌, not, nat_le, nat_lt, if◌then◌else◌, cond, eqb, bytes_eq, decimal, List, [], ◌∷◌, ◌++◌, length, map, slice_index, Option, Some, None, Result, Ok, refl, sym, ap, subst, ◌∙◌, arith, append_assoc, ltb-false, ne_eqb, true≢false}
use Rattle.std.specs.List.{list_all, range_with_len}
use Rattle.std.specs.Char.{is_digit, digit_value}
use Rattle.std.specs.Str.Parse.{AllDigits, digits_value}
use Rattle.std.proofs.lemmas.Bool.{and_parts, eqb-true, eq-eqb, le-leb, leb-true, ltb-true}
use Rattle.std.proofs.lemmas.Fmt.{decimal-digits_value, decimal_is_IsNumeral, length-decimal-le}
use Rattle.std.proofs.lemmas.List.{append-nil}
use Rattle.std.proofs.lemmas.Slice.Eq.{bytes_eq-Decides}
use Rattle.std.proofs.lemmas.Str.Parse.{digit_from_value, digits_value_short}
use Rattle.chip_ledger.specs.SeatRow.{amount_of}
use Rattle.chip_ledger.specs.declared.seat_row.SeatRow.{SeatRow}
use Rattle.chip_ledger.specs.declared.seat_row.TheConstants.{MOST_AMOUNT}
use Rattle.first_fault.specs.Digits.{are_digits, number_of}
use Rattle.acpc_game.specs.Parts.{parts_of}
use Rattle.acpc_game.specs.declared.fault.LineFault.{LineFault}
use Rattle.acpc_format.specs.Names.{hand_text, is_spelled_hand}
use Rattle.acpc_format.specs.Values.{value_text}
use Rattle.acpc_reading.specs.Names.{hand_said, most_hand}
use Rattle.acpc_reading.specs.Values.{unsigned_said, value_said, values_after, whole_said}
use Rattle.acpc_format.specs.Again.{kept_hand}
use Rattle.acpc_format.proofs.Signs.{decimal_plain, digits_plain, is_plain}
use Rattle.acpc_format.proofs.Splits.{Passes, whole}
use Rattle.card_set.proofs.Digits.{all_digits, own_digits}
use Rattle.card_set.proofs.Integers.{difference_above, difference_below}
use Rattle.card_set.proofs.Tests.{implied}
use Rattle.first_fault.proofs.DecimalDigits.{decimal_digits}

pub decimal_number : (most n : ℕ) → n ≤ most → n < 2 ^ 64 → number_of most (decimal n) ≡ Some n
unfolding number_of
decimal_number most n few small = rw ((decimal_is_IsNumeral n small).1, le-leb n most few) refl

-- the place of a hand in its file reads as no number
place_again : (place at : ℕ) → place < 2 ^ 32 → hand_said place at (decimal place) ≡ Ok None
unfolding hand_said
place_again place at few =
    let small : place < 2 ^ 64 = omega (arith, few) in
    let short : nat_le (length (decimal place)) 18 ≡ true = le-leb (length (decimal place)) 18 (length-decimal-le 18 place (omega arith) (omega (arith, few)) small) in
    rw (decimal_digits place small, short, decimal_number most_hand place (omega (arith, few)) small, eq-eqb place place refl) refl

-- the number of a hand as it is read
abbrev said_hand : Option (List ℕ) → Result (Option (List ℕ)) LineFault
said_hand found = Ok found

-- a hand number that a line can write reads as itself, unless it is the place
spelled_again : (place at : ℕ) (text : List ℕ) → place < 2 ^ 32 → is_spelled_hand text ≡ true → hand_said place at text ≡ Ok (if bytes_eq text (decimal place) then None else Some text)
unfolding hand_said is_spelled_hand are_digits number_of
spelled_again place at text few spelled =
    let parts = and_parts (are_digits text) ((not (slice_index text 0 == 48) || length text == 1) && nat_le (length text) 18) spelled in
    let more = and_parts (not (slice_index text 0 == 48) || length text == 1) (nat_le (length text) 18) parts.1 in
    let digits = and_parts (nat_lt 0 (length text)) (list_all (λ sign. is_digit sign 10) text) parts.0 in
    let all = all_digits text digits.1 in
    let value = digits_value 10 text in
    let within : value < 10 ^ 18 = digits_value_short own_digits text 18 all (leb-true (length text) 18 more.1) in
    let small : value < 2 ^ 64 = omega (arith, within) in
    let no_zero : slice_index text 0 ≡ 48 → length text ≡ 1 = λ zero_first. eqb-true (length text) 1 (implied (slice_index text 0 == 48) (length text == 1) more.0 (eq-eqb (slice_index text 0) 48 zero_first)) in
    let is : decimal value ≡ text = decimal-digits_value own_digits text all (ltb-true 0 (length text) digits.0) no_zero small in
    rw (digits.0, digits.1, more.1, le-leb value most_hand (omega (arith, within)))
    (by_place value is small (eqb value place) (bytes_eq text (decimal place)) refl refl)
  where
    by_place : (value : ℕ) → decimal value ≡ text → value < 2 ^ 64 → (at_place same : Bool) → eqb value place ≡ at_place → bytes_eq text (decimal place) ≡ same → said_hand (cond at_place None (Some (decimal value))) ≡ said_hand (cond same None (Some text))
    by_place value is small true true one other = refl
    by_place value is small false false one other = ap (λ (t : List ℕ). said_hand (Some t)) is
    by_place value is small true false one other =
        absurd (true≢false (sym ((bytes_eq-Decides text (decimal place)).1 (sym is ∙ ap decimal (eqb-true value place one))) ∙ other))
    by_place value is small false true one other =
        let equal : decimal value ≡ decimal place = is ∙ (bytes_eq-Decides text (decimal place)).0 other in
        let values : value ≡ place = sym (decimal_is_IsNumeral value small).1 ∙ ap (digits_value 10) equal ∙ (decimal_is_IsNumeral place (omega (arith, few))).1 in
        absurd (true≢false (sym (eq-eqb value place values) ∙ one))

pub hand_again : (place at : ℕ) (said : Option (List ℕ)) → place < 2 ^ 32 → hand_said place at (hand_text place said) ≡ Ok (kept_hand place said)
unfolding hand_text
hand_again place at None few = place_again place at few
hand_again place at (Some text) few = by_spelling (is_spelled_hand text) refl
  where
    by_spelling : (spelled : Bool) → is_spelled_hand text ≡ spelled → hand_said place at (cond spelled text (decimal place)) ≡ Ok (cond spelled (if bytes_eq text (decimal place) then None else Some text) None)
    by_spelling true is = spelled_again place at text few is
    by_spelling false is = place_again place at few

-- the digits of a value
unsigned_again : (is_negative : Bool) (at n : ℕ) → n ≤ MOST_AMOUNT → unsigned_said is_negative at (decimal n ∷ []) ≡ Ok (if is_negative then pos 0 -ℤ pos n else pos n)
unfolding whole_said
unsigned_again true at n few = rw (decimal_digits n (omega (arith, few)), decimal_number MOST_AMOUNT n few (omega (arith, few))) refl
unsigned_again false at n few = rw (decimal_digits n (omega (arith, few)), decimal_number MOST_AMOUNT n few (omega (arith, few))) refl

-- a value that is not a loss
gain_again : (at n : ℕ) (text : List ℕ) → decimal n ≡ text → n ≤ MOST_AMOUNT → value_said at text ≡ Ok (pos n)
gain_again at n [] is few = absurd (omega (arith, ap length is, (decimal_is_IsNumeral n (omega (arith, few))).0.0))
gain_again at n (first ∷ rest) is few =
    let small : n < 2 ^ 64 = omega (arith, few) in
    let digit : digit_value first < 10 = (subst (AllDigits 10) is (decimal_is_IsNumeral n small).0.1).0 in
    let no_sign : eqb first 45 ≡ false = ne_eqb first 45 (λ sign. omega (arith, sign, (digit_from_value first digit).0)) in
    rw no_sign
    (ap (unsigned_said false at) (ap (parts_of 46) (sym is) ∙ whole is_plain 46 (decimal n) refl (decimal_plain n small)) ∙ unsigned_again false at n few)

loss_again : (at n : ℕ) → n ≤ MOST_AMOUNT → value_said at (45 ∷ decimal n) ≡ Ok (pos 0 -ℤ pos n)
loss_again at n few =
    ap (unsigned_said true at) (whole is_plain 46 (decimal n) refl (decimal_plain n (omega (arith, few)))) ∙ unsigned_again true at n few

value_again : (stacks finish : SeatRow) (seat at : ℕ) → value_said at (value_text stacks finish seat) ≡ Ok (pos (amount_of finish seat) -ℤ pos (amount_of stacks seat))
value_again stacks finish seat at = by_less (nat_lt (amount_of finish seat) (amount_of stacks seat)) refl
  where
    by_less : (less : Bool) → nat_lt (amount_of finish seat) (amount_of stacks seat) ≡ less
        → value_said at (if less then 45 ∷ decimal (amount_of stacks seat - amount_of finish seat) else decimal (amount_of finish seat - amount_of stacks seat)) ≡ Ok (pos (amount_of finish seat) -ℤ pos (amount_of stacks seat))
    by_less true is =
        loss_again at (amount_of stacks seat - amount_of finish seat) (omega (arith, stacks.bounded (seat - 1)))
        ∙ ap Ok (difference_below (amount_of finish seat) (amount_of stacks seat) (ltb-true (amount_of finish seat) (amount_of stacks seat) is))
    by_less false is =
        gain_again at (amount_of finish seat - amount_of stacks seat) (decimal (amount_of finish seat - amount_of stacks seat)) refl (omega (arith, finish.bounded (seat - 1)))
        ∙ ap Ok (difference_above (amount_of finish seat) (amount_of stacks seat) (ltb-false (amount_of finish seat) (amount_of stacks seat) is))

-- the values of seats, one after another
pub values_again : (stacks finish : SeatRow) (so_far : List ℤ) (first count at : ℕ)
    → values_after so_far at (map (value_text stacks finish) (range_with_len first count)) ≡ Ok (so_far ++ map (λ seat. pos (amount_of finish seat) -ℤ pos (amount_of stacks seat)) (range_with_len first count))
unfolding values_after
values_again stacks finish so_far first zero at = ap Ok (sym (append-nil so_far))
values_again stacks finish so_far first (suc count) at =
    let value = pos (amount_of finish first) -ℤ pos (amount_of stacks first) in
    rw (value_again stacks finish first at)
    (values_again stacks finish (so_far ++ value ∷ []) (first + 1) count (at + length (value_text stacks finish first) + 1)
    ∙ ap Ok (append_assoc so_far (value ∷ []) (map (λ seat. pos (amount_of finish seat) -ℤ pos (amount_of stacks seat)) (range_with_len (first + 1) count))))

-- a hand number that a line can write is digits
pub hand_plain : (text : List ℕ) → is_spelled_hand text ≡ true → Passes is_plain text
unfolding is_spelled_hand are_digits
hand_plain text spelled =
    let parts = and_parts (are_digits text) ((not (slice_index text 0 == 48) || length text == 1) && nat_le (length text) 18) spelled in
    let digits = and_parts (nat_lt 0 (length text)) (list_all (λ sign. is_digit sign 10) text) parts.0 in
    digits_plain text (all_digits text digits.1)
