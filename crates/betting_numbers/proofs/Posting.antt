-- What is posted, one more seat at a time.
use Rattle.std.proofs.Common.{◌≡◌, ◌≢◌, ℕ, ◌+◌, ◌-◌, ◌≤◌, Bool, true, false, nat_lt, ◌==◌, cond, [], find, reverse, unwrap_or, max, sum_by, zero, suc, inl, inr, sym, ap, subst, ◌∙◌, arith, refl}
use Rattle.std.proofs.lemmas.Bool.{cases_lt, eqb-false}
use Rattle.std.proofs.lemmas.Bool.Decides.{nat_tests}
use Rattle.chip_ledger.specs.Seat.{seats_of}
use Rattle.chip_ledger.specs.SeatRow.{amount_of}
use Rattle.chip_ledger.specs.declared.seat_row.SeatRow.{SeatRow}
use Rattle.chip_ledger.specs.Greatest.{greatest}
use Rattle.chip_ledger.proofs.Seats.{map-seats, sum_of_seats_more}
use Rattle.chip_ledger.proofs.SeatLists.{greatest_more, last_more}
use Rattle.play_event.specs.Chips.{blind_posted, street_chips}
use Rattle.play_event.specs.CurrentBet.{starting_bet}
use Rattle.play_event.specs.declared.setup.Setup.{Setup}
use Rattle.betting_numbers.specs.Posting.{HasPosted, big_of, last_of}
use Rattle.betting_numbers.specs.declared.starting.Posted.{Posted}

-- the seats so far and one more
pub one_more : (P : ℕ → Type 0) (count : ℕ) → ((k : ℕ) → 1 ≤ k → k ≤ count → P k) → P (count + 1) → (k : ℕ) → 1 ≤ k → k ≤ count + 1 → P k
one_more P count before here k low high = elim (cases_lt k (count + 1)) [
  | inl below ↦ before k low (omega (arith, below))
  | inr above ↦ let same : count + 1 ≡ k = omega (arith, above, high) in subst P same here
]

-- more than what was taken is left
pub less_left : (a b : ℕ) → nat_lt a b ≡ nat_lt 0 (b - a)
less_left a b = grind (arith, nat_tests)

last_by : (f : ℕ → ℕ) (n : ℕ) (big : Bool) → (f (n + 1) == max (big_of f n) (f (n + 1))) ≡ big → cond big (n + 1) (unwrap_or (find (λ seat. f seat == max (big_of f n) (f (n + 1))) (reverse (seats_of n))) 0) ≡ cond big (n + 1) (last_of f n)
last_by f n true is = refl
last_by f n false is =
    let other : f (n + 1) ≢ max (big_of f n) (f (n + 1)) = eqb-false (f (n + 1)) (max (big_of f n) (f (n + 1))) is in
    let same : max (big_of f n) (f (n + 1)) ≡ big_of f n = greatest_by (big_of f n) (f (n + 1)) other in
    ap (λ (g : ℕ). unwrap_or (find (λ seat. f seat == g) (reverse (seats_of n))) 0) same
  where
    greatest_by : (a b : ℕ) → b ≢ max a b → max a b ≡ a
    greatest_by a b other = elim (cases_lt a b) [
      | inl less ↦ let same : b ≡ max a b = omega (arith, less) in absurd (other same)
      | inr more ↦ omega (arith, more)
    ]

-- the last seat with the greatest blind, one more seat
pub last_of_more : (f : ℕ → ℕ) (n : ℕ) → last_of f (n + 1) ≡ cond (f (n + 1) == max (big_of f n) (f (n + 1))) (n + 1) (last_of f n)
last_of_more f n =
    ap (λ (g : ℕ). unwrap_or (find (λ seat. f seat == g) (reverse (seats_of (n + 1)))) 0) (greatest_more f n)
    ∙ last_more (λ seat. f seat == max (big_of f n) (f (n + 1))) n
    ∙ last_by f n (f (n + 1) == max (big_of f n) (f (n + 1))) refl

-- sums over the seats are equal if the terms are
pub sum_seats : (f g : ℕ → ℕ) (n : ℕ) → ((k : ℕ) → 1 ≤ k → k ≤ n → f k ≡ g k) → sum_by f (seats_of n) ≡ sum_by g (seats_of n)
sum_seats f g zero h = refl
sum_seats f g (suc n) h =
    let up : suc n ≡ n + 1 = omega arith in
    let last : f (n + 1) ≡ g (n + 1) = h (n + 1) (omega arith) (omega arith) in
    ap (λ (m : ℕ). sum_by f (seats_of m)) up
    ∙ omega (arith, sum_of_seats_more f n, sum_of_seats_more g n, last, sum_seats f g n (λ k low high. h k low (omega (arith, high))))
    ∙ ap (λ (m : ℕ). sum_by g (seats_of m)) (sym up)

module _ (setup : Setup) (p : Posted) (has : HasPosted setup setup.stacks.seats p) where
  -- the first street starts with the blinds
  pub blind_bet_at_start : p.current_bet ≡ starting_bet setup 1
  blind_bet_at_start = has.current_bet ∙ ap greatest (map-seats (blind_posted setup) (street_chips setup [] 1) setup.stacks.seats (λ k low high. omega arith))

  -- after the last seat nothing is put
  none_behind : (row : SeatRow) → row.seats ≡ setup.stacks.seats → (k : ℕ) → setup.stacks.seats + 1 ≤ k → amount_of row k ≡ 0
  none_behind row same k above = row.filler (k - 1) (omega (arith, same, above))

  -- no seat puts more than its stack
  pub put_within : ((k : ℕ) → amount_of setup.antes k ≤ amount_of setup.stacks k) → (k : ℕ) → 1 ≤ k → amount_of p.puts k ≤ amount_of setup.stacks k
  put_within reach k low = elim (cases_lt setup.stacks.seats k) [
    | inl above ↦ omega (arith, none_behind p.puts has.put_seats k (omega (arith, above)))
    | inr within ↦ omega (arith, has.puts k low (omega (arith, within)), reach k)
  ]

  -- the blind is part of what a seat puts
  pub bet_inside : (k : ℕ) → 1 ≤ k → amount_of p.bets k ≤ amount_of p.puts k
  bet_inside k low = elim (cases_lt setup.stacks.seats k) [
    | inl above ↦ omega (arith, none_behind p.bets has.bet_seats k (omega (arith, above)))
    | inr within ↦ omega (arith, has.puts k low (omega (arith, within)), has.bets k low (omega (arith, within)))
  ]
