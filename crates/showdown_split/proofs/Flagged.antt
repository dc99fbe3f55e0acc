-- The flagged seats of a row, counted and found.
use Rattle.std.proofs.Common.{◌≡◌, ◌≢◌, ◌≤◌, ℕ, zero, suc, ◌+◌, ◌-◌, ◌*◌, ◌==◌, ◌&&◌, Bool, true, false, cond, List, [], ◌∷◌, length, filter, sum_by, if◌then◌else◌, get_or, refl, sym, ◌∙◌, ap, arith, length-append}
use Rattle.std.specs.List.{list_any}
use Rattle.std.proofs.lemmas.Bool.{and_parts}
use Rattle.std.proofs.lemmas.List.Elements.{filter-append}
use Rattle.std.proofs.lemmas.List.Folds.{list_any_at}
use Rattle.std.proofs.lemmas.List.FromFn.{get_or-range_with_len, length-range_with_len}
use Rattle.std.proofs.Math.Nat.{mul-suc, mul-zero}
use Rattle.card_set.proofs.Lists.{empty_from}
use Rattle.card_set.proofs.Ranges.{any_within}
use Rattle.card_set.proofs.Any.{none_passes, found_some, list_any-filter}
use Rattle.card_set.proofs.Tests.{same_test}
use Rattle.chip_ledger.specs.declared.live_row.LiveRow.{LiveRow}
use Rattle.chip_ledger.specs.LiveRow.{flag_of, flagged}
use Rattle.chip_ledger.specs.Seat.{seats_of}
use Rattle.chip_ledger.proofs.Flags.{flag-from_flagged, flagged-from_flag}
use Rattle.chip_ledger.proofs.Seats.{seats_of_more, sum_of_seats_more}
use Rattle.variant_table.specs.Division.{count_to}
use Rattle.showdown_split.specs.SeatPoints.{is_flagged}

-- a flagged seat is one of the row's
pub flagged_inside : (row : LiveRow) (n : ℕ) → is_flagged row n ≡ true → (1 ≤ n) × (n ≤ row.seats)
flagged_inside row n h =
    let range = any_within (flag_of row) n 1 row.seats (sym (list_any-filter (λ m. m == n) (flag_of row) (seats_of row.seats)) ∙ h) in
    (range.0, omega (arith, range.1))

-- a seat of the row is flagged if and only if its flag is true
pub is_flagged-flag : (row : LiveRow) (n : ℕ) → 1 ≤ n → is_flagged row n ≡ flag_of row n
is_flagged-flag row n low = same_test (is_flagged row n) (flag_of row n) (flag-from_flagged row n) (flagged-from_flag row n low)

pub some_flagged : (row : LiveRow) → flagged row ≢ [] → (k : ℕ) × (is_flagged row k ≡ true)
some_flagged row some = found_some (flagged row) some

-- the number of seats that pass a test is that of the seats that it keeps
kept_count : (p : ℕ → Bool) (n : ℕ) → length (filter p (seats_of n)) ≡ count_to p n
kept_count p zero = refl
kept_count p (suc n) =
    let next : suc n ≡ n + 1 = omega arith in
    ap (λ (m : ℕ). length (filter p (seats_of m))) next
    ∙ ap (λ (xs : List ℕ). length (filter p xs)) (seats_of_more n)
    ∙ ap length (filter-append p (seats_of n) ((n + 1) ∷ []))
    ∙ length-append (filter p (seats_of n)) (filter p ((n + 1) ∷ []))
    ∙ ap (λ (m : ℕ). m + length (filter p ((n + 1) ∷ []))) (kept_count p n)
    ∙ ap (λ (m : ℕ). count_to p n + length (filter p (m ∷ []))) (sym next)
    ∙ ap (λ (m : ℕ). count_to p n + m) (one (p (suc n)))
  where
    one : (b : Bool) → length (cond b (suc n ∷ []) []) ≡ (if b then 1 else 0)
    one true = refl
    one false = refl

pub length-flagged : (row : LiveRow) → length (flagged row) ≡ count_to (flag_of row) row.seats
length-flagged row = kept_count (flag_of row) row.seats

-- the same chips for each seat that passes a test
pub sum_for_each : (p : ℕ → Bool) (chips n : ℕ) → sum_by (λ k. if p k then chips else 0) (seats_of n) ≡ chips * count_to p n
sum_for_each p chips zero = sym (mul-zero chips)
sum_for_each p chips (suc n) =
    let next : suc n ≡ n + 1 = omega arith in
    ap (λ (m : ℕ). sum_by (λ k. if p k then chips else 0) (seats_of m)) next
    ∙ sum_of_seats_more (λ k. if p k then chips else 0) n
    ∙ ap (λ (m : ℕ). sum_by (λ k. if p k then chips else 0) (seats_of n) + (if p m then chips else 0)) (sym next)
    ∙ ap (λ (m : ℕ). m + (if p (suc n) then chips else 0)) (sum_for_each p chips n)
    ∙ one (p (suc n))
  where
    one : (b : Bool) → chips * count_to p n + (if b then chips else 0) ≡ chips * (count_to p n + (if b then 1 else 0))
    one true =
        let more = mul-suc chips (count_to p n) in
        let same : chips * (count_to p n + 1) ≡ chips * suc (count_to p n) = ap (λ (m : ℕ). chips * m) (omega arith) in
        omega arith
    one false =
        let same : chips * (count_to p n + 0) ≡ chips * count_to p n = ap (λ (m : ℕ). chips * m) (omega arith) in
        omega arith

-- if no seat of a row is flagged, a test that agrees passes nowhere
pub none_flagged : (row : LiveRow) (test : ℕ → Bool) (seats : List ℕ) → ¬ (flagged row ≢ []) → ((n : ℕ) → is_flagged row n ≡ test n) → list_any test seats ≡ false
none_flagged row test seats none same =
    let empty = empty_from (flagged row) none in
    none_passes test seats (λ n. sym (same n) ∙ ap (λ (xs : List ℕ). list_any (λ m. m == n) xs) empty)

-- the seats of a row that are those of one row and of another
pub flagged_both : (both first second : LiveRow) → both.seats ≡ second.seats → first.seats ≡ second.seats → ((n : ℕ) → 1 ≤ n → n ≤ second.seats → flag_of both n ≡ (flag_of first n && flag_of second n)) → (n : ℕ) → is_flagged both n ≡ (is_flagged first n && flag_of second n)
flagged_both both first second same same_first flags n =
    let at : 1 ≤ n → n ≤ second.seats → is_flagged both n ≡ (is_flagged first n && flag_of second n) =
    λ low high. is_flagged-flag both n low ∙ flags n low high ∙ ap (λ (b : Bool). b && flag_of second n) (sym (is_flagged-flag first n low)) in
    same_test (is_flagged both n) (is_flagged first n && flag_of second n)
    (λ here. let range = flagged_inside both n here in sym (at range.0 (omega (arith, range.1, same))) ∙ here)
    (λ here. let range = flagged_inside first n (and_parts (is_flagged first n) (flag_of second n) here).0 in at range.0 (omega (arith, range.1, same_first)) ∙ here)

-- a row with a flagged seat, but not just one, has two or more
pub several_flagged : (row : LiveRow) → flagged row ≢ [] → ¬ (count_to (flag_of row) row.seats ≡ 1) → 2 ≤ length (flagged row)
several_flagged row some not_one = several (flagged row) some (λ one. not_one (sym (length-flagged row) ∙ one))
  where
    several : (xs : List ℕ) → xs ≢ [] → ¬ (length xs ≡ 1) → 2 ≤ length xs
    several [] some not_one = absurd (some refl)
    several (x ∷ []) some not_one = absurd (not_one refl)
    several (x ∷ y ∷ rest) some not_one = omega arith

-- if a seat passes a test, it passes among the seats
pub some_passes : (p : ℕ → Bool) (seats n : ℕ) → 1 ≤ n → n ≤ seats → p n ≡ true → list_any p (seats_of seats) ≡ true
some_passes p seats n low high passes =
    let at : get_or (seats_of seats) (n - 1) 0 ≡ n = get_or-range_with_len 1 seats (n - 1) 0 (omega arith) ∙ omega arith in
    let long = length-range_with_len 1 seats in
    list_any_at p (seats_of seats) (n - 1) 0 (omega arith) (ap p at ∙ passes)
