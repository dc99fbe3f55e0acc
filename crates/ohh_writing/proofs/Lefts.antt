-- The chips that each seat has left after one more move.
use Rattle.std.proofs.Common.{◌≡◌, ◌≢◌, ℕ, ◌+◌, ◌-◌, ◌≤◌, Bool, true, false, cond, ◌==◌, List, ◌∷◌, length, get_or, set, refl, sym, ap, ◌∙◌, arith}
use Rattle.std.proofs.lemmas.Bool.Decides.{nat_tests}
use Rattle.std.proofs.lemmas.Grind.{get_or-set_at}
use Rattle.std.proofs.lemmas.List.{get_or-set_other}
use Rattle.play_event.specs.declared.setup.Setup.{Setup}
use Rattle.play_event.specs.Chips.{chips_added, chips_left, posted}
use Rattle.play_event.specs.Past.{Move}
use Rattle.chip_ledger.specs.SeatRow.{amount_of}

of_seat : (setup : Setup) (before : List Move) (move : Move) (seat : ℕ) (same : Bool) → (move.seat == seat) ≡ same
    → chips_left setup (move ∷ before) seat ≡ chips_left setup before seat - cond same (move.to - move.from) 0
of_seat setup before move seat same is =
    let added = chips_added seat before in
    let chips : ℕ = cond same (move.to - move.from) 0 in
    let less : amount_of setup.stacks seat - (posted setup seat + (chips + added)) ≡ (amount_of setup.stacks seat - (posted setup seat + added)) - chips = omega arith in
    rw is less

-- each seat has what it had, except the seat of the move
pub left_after : (setup : Setup) (before : List Move) (move : Move) (left : List ℕ) (chips : ℕ) → length left ≡ 10 → 1 ≤ move.seat → move.seat ≤ 10
    → chips ≡ get_or left (move.seat - 1) 0 - (move.to - move.from)
    → ((k : ℕ) → k ≤ 9 → get_or left k 0 ≡ chips_left setup before (k + 1))
    → (k : ℕ) → k ≤ 9 → get_or (set left (move.seat - 1) chips) k 0 ≡ chips_left setup (move ∷ before) (k + 1)
left_after setup before move left chips full first last is rows k few = go (move.seat == k + 1) refl
  where
    go : (same : Bool) → (move.seat == k + 1) ≡ same → get_or (set left (move.seat - 1) chips) k 0 ≡ chips_left setup (move ∷ before) (k + 1)
    go true e =
        let seat : move.seat ≡ k + 1 = grind (arith, nat_tests, e) in
        let place : k ≡ move.seat - 1 = omega (arith, seat) in
        get_or-set_at left (move.seat - 1) k chips 0 place (omega (arith, full, first, last))
        ∙ is
        ∙ ap (λ n. n - (move.to - move.from)) (ap (λ n. get_or left n 0) (sym place) ∙ rows k few)
        ∙ sym (of_seat setup before move (k + 1) true e)
    go false e =
        let other : k ≢ move.seat - 1 = grind (arith, nat_tests, e, first) in
        get_or-set_other left (move.seat - 1) k chips 0 other ∙ rows k few ∙ sym (of_seat setup before move (k + 1) false e ∙ less)
      where
        less : chips_left setup before (k + 1) - 0 ≡ chips_left setup before (k + 1)
        less = omega arith

-- the chips that the seat of the move has left
pub chips_after : (setup : Setup) (before : List Move) (move : Move) (left : List ℕ) (chips : ℕ) → 1 ≤ move.seat → move.seat ≤ 10
    → chips ≡ get_or left (move.seat - 1) 0 - (move.to - move.from)
    → ((k : ℕ) → k ≤ 9 → get_or left k 0 ≡ chips_left setup before (k + 1))
    → chips ≡ chips_left setup (move ∷ before) move.seat
chips_after setup before move left chips first last is rows =
    let seat : move.seat - 1 + 1 ≡ move.seat = omega (arith, first) in
    let same : (move.seat == move.seat) ≡ true = grind (arith, nat_tests) in
    is
    ∙ ap (λ n. n - (move.to - move.from)) (rows (move.seat - 1) (omega (arith, first, last)) ∙ ap (chips_left setup before) seat)
    ∙ sym (of_seat setup before move move.seat true same)
