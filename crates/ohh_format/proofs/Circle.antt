-- Numbers of seats that go round the table once: from one seat to the next they rise, except at one
-- place.
use Rattle.std.proofs.Common.{◌≡◌, ◌≢◌, ℕ, zero, suc, ◌+◌, ◌-◌, ◌<◌, ◌≤◌, ◌==◌, Bool, true, false, not, nat_lt, if◌then◌else◌, List, [], ◌∷◌, length, take, get_or, Some, None, inl, inr, refl, sym, ap, ◌∙◌, arith}
use Rattle.std.specs.List.{list_any}
use Rattle.std.proofs.lemmas.Bool.{and_parts, cases_lt, eqb-true, ltb-false}
use Rattle.std.proofs.lemmas.Bool.Decides.{nat_tests}
use Rattle.std.proofs.lemmas.List.{length-take-le}
use Rattle.hand_canon.specs.AllowedNotes.{AreSeatNumbers, IsWithin}
use Rattle.ohh_writing.specs.Seating.{fall, falls, first_or, has_no_repeat, is_circular, number_among}
use Rattle.card_set.proofs.Any.{not_among}
use Rattle.card_set.proofs.Entries.{any_default, past_default, zero_taken_at}

-- the numbers of this many seats go round: they differ, and rise except after one seat
pub record IsCircle (count : ℕ) (number : ℕ → ℕ) : Type 0 where
  pub each : (seat : ℕ) → 1 ≤ seat → seat ≤ count → IsWithin 1 255 (number seat)
  pub differ : (seat other : ℕ) → 1 ≤ seat → seat < other → other ≤ count → number seat ≢ number other
  pub top : ℕ
  pub low : 1 ≤ top
  pub high : top ≤ count
  pub rise : (seat : ℕ) → 1 ≤ seat → seat + 1 ≤ count → seat ≢ top → number seat < number (seat + 1)
  pub round : top ≢ count → number count < number 1

-- ---- of lists

first_is : (back : ℕ) (rest : List ℕ) → first_or back rest ≡ get_or rest 0 back
first_is back [] = refl
first_is back (next ∷ rest) = refl

no_fall : (x y : ℕ) (down : Bool) → nat_lt y x ≡ down → fall x y ≡ 0 → x ≤ y
no_fall x y true e none = absurd (let one : fall x y ≡ 1 = rw e refl in omega (arith, one, none))
no_fall x y false e none = omega (arith, ltb-false y x e)

-- no step falls
none_falls : (back : ℕ) (xs : List ℕ) → falls back xs ≡ 0 → (k : ℕ) → k < length xs → get_or xs k 0 ≤ get_or xs (suc k) back
none_falls back [] none k within = absurd (omega (arith, within))
none_falls back (x ∷ rest) none zero within = let first = first_is back rest in omega (arith, no_fall x (first_or back rest) (nat_lt (first_or back rest) x) refl (omega (arith, none)), first)
none_falls back (x ∷ rest) none (suc k) within = none_falls back rest (omega (arith, none)) k (omega (arith, within))

-- exactly one step falls
record OneFalls (back : ℕ) (xs : List ℕ) : Type 0 where
  at : ℕ
  within : at < length xs
  others : (k : ℕ) → k < length xs → k ≢ at → get_or xs k 0 ≤ get_or xs (suc k) back

one_falls : (back : ℕ) (xs : List ℕ) → falls back xs ≡ 1 → OneFalls back xs
one_falls back [] one = absurd (omega (arith, one))
one_falls back (x ∷ rest) one = by_first (nat_lt (first_or back rest) x) refl (λ later. one_falls back rest later)
  where
    by_first : (down : Bool) → nat_lt (first_or back rest) x ≡ down → (falls back rest ≡ 1 → OneFalls back rest) → OneFalls back (x ∷ rest)
    by_first true e later =
        let here : fall x (first_or back rest) ≡ 1 = rw e refl in
        record { at = 0; within = omega arith; others = others }
      where
        others : (k : ℕ) → k < length (x ∷ rest) → k ≢ 0 → get_or (x ∷ rest) k 0 ≤ get_or (x ∷ rest) (suc k) back
        others zero within other = absurd (other refl)
        others (suc k) within other =
            let here : fall x (first_or back rest) ≡ 1 = rw e refl in
            none_falls back rest (omega (arith, one, here)) k (omega (arith, within))
    by_first false e later =
        let here : fall x (first_or back rest) ≡ 0 = rw e refl in
        let behind : OneFalls back rest = later (omega (arith, one, here)) in
        record { at = suc behind.at; within = omega (arith, behind.within); others = others behind }
      where
        others : (behind : OneFalls back rest) (k : ℕ) → k < length (x ∷ rest) → k ≢ suc behind.at → get_or (x ∷ rest) k 0 ≤ get_or (x ∷ rest) (suc k) back
        others behind zero within other = let first = first_is back rest in omega (arith, ltb-false (first_or back rest) x e, first)
        others behind (suc k) within other = behind.others k (omega (arith, within)) (λ same. other (ap suc same))

differ_at : (xs : List ℕ) → has_no_repeat xs ≡ true → (i j : ℕ) → i < j → j < length xs → get_or xs i 0 ≢ get_or xs j 0
differ_at [] differ i j before within = absurd (omega (arith, within))
differ_at (x ∷ rest) differ zero zero before within = absurd (omega (arith, before))
differ_at (x ∷ rest) differ zero (suc j) before within = not_among x rest (and_parts (not (list_any (λ other. other == x) rest)) (has_no_repeat rest) differ).0 j (omega (arith, within))
differ_at (x ∷ rest) differ (suc i) zero before within = absurd (omega (arith, before))
differ_at (x ∷ rest) differ (suc i) (suc j) before within = differ_at rest (and_parts (not (list_any (λ other. other == x) rest)) (has_no_repeat rest) differ).1 i j (omega (arith, before)) (omega (arith, within))

-- ---- of seats

-- the usual numbers go round
pub usual_circle : (count : ℕ) → 1 ≤ count → count ≤ 10 → IsCircle count (number_among None)
usual_circle count some few =
    record {
      each = λ seat low high. (low, omega (arith, high, few));
      differ = λ seat other low before high same. omega (arith, before, same);
      top = count;
      low = some;
      high = omega arith;
      rise = λ seat low high apart. omega arith;
      round = λ apart. absurd (apart refl);
    }

-- the same number of numbers is noted
pub long : (count : ℕ) (numbers : List ℕ) → 2 ≤ count → AreSeatNumbers count numbers → count ≤ length numbers
long count numbers some are = elim (cases_lt (length numbers) count) [
  | inl short ↦
      let last = are.each count (omega (arith, some)) (omega arith) in
      let none = past_default numbers (count - 1) 0 (omega (arith, short)) in
      absurd (omega (arith, last.0, none))
  | inr enough ↦ enough
]

module _ (count : ℕ) (numbers : List ℕ) (some : 2 ≤ count) (are : AreSeatNumbers count numbers) (goes : is_circular (take count numbers) ≡ true) where
  abbrev xs : List ℕ
  xs = take count numbers

  whole : length xs ≡ count
  whole = length-take-le count numbers (long count numbers some are)

  -- the number of a seat
  number : (seat : ℕ) → 1 ≤ seat → seat ≤ count → number_among (Some numbers) seat ≡ get_or xs (seat - 1) 0
  number seat low high = sym (zero_taken_at count numbers (seat - 1) (omega (arith, low, high)))

  parts : (has_no_repeat xs ≡ true) × ((falls (get_or xs 0 0) xs == 1) ≡ true)
  parts = and_parts (has_no_repeat xs) (falls (get_or xs 0 0) xs == 1) goes

  one : OneFalls (get_or xs 0 0) xs
  one = one_falls (get_or xs 0 0) xs (eqb-true (falls (get_or xs 0 0) xs) 1 parts.1)

  numbers_differ : (seat other : ℕ) → 1 ≤ seat → seat < other → other ≤ count → number_among (Some numbers) seat ≢ number_among (Some numbers) other
  numbers_differ seat other low before high same =
      differ_at xs parts.0 (seat - 1) (other - 1) (omega (arith, low, before)) (omega (arith, whole, low, before, high))
      (sym (number seat low (omega (arith, before, high))) ∙ same ∙ number other (omega (arith, low, before)) high)

  rises : (seat : ℕ) → 1 ≤ seat → seat + 1 ≤ count → seat ≢ one.at + 1 → number_among (Some numbers) seat < number_among (Some numbers) (seat + 1)
  rises seat low high apart =
      let back : ℕ = get_or xs 0 0 in
      let step = one.others (seat - 1) (omega (arith, whole, low, high)) (λ same. apart (omega (arith, same, low))) in
      let index : suc (seat - 1) ≡ seat + 1 - 1 = omega (arith, low) in
      let next : get_or xs (suc (seat - 1)) back ≡ get_or xs (seat + 1 - 1) 0 = any_default xs (suc (seat - 1)) back 0 (omega (arith, whole, low, high)) ∙ ap (λ k. get_or xs k 0) index in
      let apart_numbers = numbers_differ seat (seat + 1) low (omega arith) high in
      let here = number seat low (omega (arith, high)) in
      let there = number (seat + 1) (omega arith) high in
      elim (cases_lt (number_among (Some numbers) seat) (number_among (Some numbers) (seat + 1))) [
        | inl less ↦ less
        | inr more ↦ absurd (apart_numbers (omega (arith, more, step, next, here, there)))
      ]

  goes_back : one.at + 1 ≢ count → number_among (Some numbers) count < number_among (Some numbers) 1
  goes_back apart =
      let back : ℕ = get_or xs 0 0 in
      let step = one.others (count - 1) (omega (arith, whole, some)) (λ same. apart (omega (arith, same, some))) in
      let next : get_or xs (suc (count - 1)) back ≡ back = past_default xs (suc (count - 1)) back (omega (arith, whole, some)) in
      let apart_numbers = numbers_differ 1 count (omega arith) (omega (arith, some)) (omega arith) in
      let here = number count (omega (arith, some)) (omega arith) in
      let there = number 1 (omega arith) (omega (arith, some)) in
      elim (cases_lt (number_among (Some numbers) count) (number_among (Some numbers) 1)) [
        | inl less ↦ less
        | inr more ↦ absurd (apart_numbers (omega (arith, more, step, next, here, there)))
      ]

  pub said_circle : IsCircle count (number_among (Some numbers))
  said_circle =
      record {
        each = are.each;
        differ = numbers_differ;
        top = one.at + 1;
        low = omega arith;
        high = omega (arith, one.within, whole);
        rise = rises;
        round = goes_back;
      }

-- ---- numbers that go round

module _ (count : ℕ) (number : ℕ → ℕ) (is : IsCircle count number) where
  climb : (first steps : ℕ) → 1 ≤ first → first + steps ≤ count → ((seat : ℕ) → first ≤ seat → seat < first + steps → seat ≢ is.top) → number first ≤ number (first + steps)
  climb first zero low high free = let same : first + 0 ≡ first = omega arith in omega (arith, ap number same)
  climb first (suc steps) low high free =
      let before = climb first steps low (omega (arith, high)) (λ seat from within. free seat from (omega (arith, within))) in
      let step = is.rise (first + steps) (omega (arith, low)) (omega (arith, high)) (free (first + steps) (omega arith) (omega arith)) in
      let same : first + suc steps ≡ first + steps + 1 = omega arith in
      omega (arith, before, step, ap number same)

  -- with nothing between them but rises, a later seat has no lower number
  rising : (seat other : ℕ) → 1 ≤ seat → seat ≤ other → other ≤ count → ((k : ℕ) → seat ≤ k → k < other → k ≢ is.top) → number seat ≤ number other
  rising seat other low order high free =
      let steps : ℕ = other - seat in
      let same : seat + steps ≡ other = omega (arith, order) in
      let climbed = climb seat steps low (omega (arith, same, high)) (λ k from within. free k from (omega (arith, within, same))) in
      omega (arith, climbed, ap number same)

  -- seats up to the top
  front : (seat other : ℕ) → 1 ≤ seat → seat ≤ other → other ≤ is.top → number seat ≤ number other
  front seat other low order high = rising seat other low order (omega (arith, high, is.high)) (λ k from within same. omega (arith, within, same, high))

  -- seats after the top
  back : (seat other : ℕ) → is.top < seat → seat ≤ other → other ≤ count → number seat ≤ number other
  back seat other past order high = rising seat other (omega (arith, past)) order high (λ k from within same. omega (arith, from, same, past))

  -- a seat after the top has a lower number than each up to it
  lower : (seat other : ℕ) → is.top < seat → seat ≤ count → 1 ≤ other → other ≤ is.top → number seat < number other
  lower seat other past high low within =
      let turn = is.round (λ same. omega (arith, same, past, high)) in
      omega (arith, back seat count past high (omega arith), turn, front 1 other (omega arith) low within)

  -- the seat after another, going round
  abbrev pub after : ℕ → ℕ
  after seat = if seat == count then 1 else seat + 1

  -- after any seat but the top, the next higher number is that of the seat after it
  pub next_higher : (seat : ℕ) → 1 ≤ seat → seat ≤ count → seat ≢ is.top → (last : Bool) → (seat == count) ≡ last
      → (number seat < number (if last then 1 else seat + 1)) × ((other : ℕ) → 1 ≤ other → other ≤ count → number seat < number other → number (if last then 1 else seat + 1) ≤ number other)
  next_higher seat low high apart true e =
      let at : seat ≡ count = eqb-true seat count e in
      let turn = is.round (λ same. apart (omega (arith, at, same))) in
      let here = ap number at in (
        omega (arith, turn, here),
        λ other from to above. elim (cases_lt is.top other) [
          | inl past ↦ absurd (omega (arith, back other count past to (omega arith), above, here))
          | inr within ↦ front 1 other (omega arith) from within
        ],
      )
  next_higher seat low high apart false e =
      let before : seat + 1 ≤ count = grind (arith, nat_tests, high) in (
        is.rise seat low before apart,
        λ other from to above. elim (cases_lt is.top seat) [
          | inl past ↦ elim (cases_lt is.top other) [
            | inl beyond ↦ elim (cases_lt seat other) [
              | inl later ↦ back (seat + 1) other (omega (arith, past)) (omega (arith, later)) to
              | inr earlier ↦ absurd (omega (arith, back other seat beyond earlier high, above))
            ]
            | inr within ↦ omega (arith, lower (seat + 1) other (omega (arith, past)) before from within)
          ]
          | inr up ↦ elim (cases_lt is.top other) [
            | inl beyond ↦ absurd (omega (arith, lower other seat beyond to low up, above))
            | inr within ↦ elim (cases_lt seat other) [
              | inl later ↦ front (seat + 1) other (omega arith) (omega (arith, later)) within
              | inr earlier ↦ absurd (omega (arith, front other seat from earlier up, above))
            ]
          ]
        ],
      )

  -- no number is higher than that of the top, and none is lower than that of the seat after it
  pub top_is : (other : ℕ) → 1 ≤ other → other ≤ count → number other ≤ number is.top
  top_is other from to = elim (cases_lt is.top other) [
    | inl beyond ↦ omega (arith, lower other is.top beyond to is.low (omega arith))
    | inr within ↦ front other is.top from within (omega arith)
  ]

  pub after_top : (last : Bool) → (is.top == count) ≡ last → (other : ℕ) → 1 ≤ other → other ≤ count → number (if last then 1 else is.top + 1) ≤ number other
  after_top true e other from to =
      let at : is.top ≡ count = eqb-true is.top count e in
      front 1 other (omega arith) from (omega (arith, at, to))
  after_top false e other from to =
      let before : is.top + 1 ≤ count = grind (arith, nat_tests, is.high) in
      elim (cases_lt is.top other) [
        | inl beyond ↦ back (is.top + 1) other (omega arith) (omega (arith, beyond)) to
        | inr within ↦ omega (arith, lower (is.top + 1) other (omega arith) before from within)
      ]

  -- no two seats have the same number
  pub one_seat : (seat other : ℕ) → 1 ≤ seat → seat ≤ count → 1 ≤ other → other ≤ count → number seat ≡ number other → seat ≡ other
  one_seat seat other low high from to same = elim (cases_lt seat other) [
    | inl before ↦ absurd (is.differ seat other low before to same)
    | inr later ↦ elim (cases_lt other seat) [
      | inl behind ↦ absurd (is.differ other seat from behind high (sym same))
      | inr not_later ↦ omega (arith, later, not_later)
    ]
  ]
