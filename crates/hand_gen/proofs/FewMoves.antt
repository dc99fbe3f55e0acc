-- A move that comes takes chips from its seat, ends the seat's hand, opens the betting, or is the
-- seat's first on a street; so there are few.
use Rattle.std.proofs.Common.{◌≡◌, ℕ, ◌+◌, ◌*◌, ◌-◌, ◌≤◌, ◌<◌, Bool, true, false, ◌&&◌, ◌||◌, ◌==◌, not, cond, if◌then◌else◌, List, [], ◌∷◌, refl, ap, ◌∙◌, arith}
use Rattle.std.specs.List.{list_any}
use Rattle.std.proofs.lemmas.Bool.{eq-eqb}
use Rattle.card_places.specs.Room.{sum_from}
use Rattle.card_places.proofs.Sums.{sum_least, sum_more, sum_most}
use Rattle.card_set.proofs.Tests.{false_true, or_right}
use Rattle.play_event.specs.declared.setup.Setup.{Setup}
use Rattle.play_event.specs.Chips.{chips_left}
use Rattle.play_event.specs.Due.{has_opened_betting}
use Rattle.play_event.specs.Past.{Move, is_folding, moves_on}
use Rattle.play_event.specs.Raising.{has_moved}
use Rattle.play_event.specs.Seats.{is_live}
use Rattle.play_event.proofs.StillAble.{still_live}

abbrev bit : Bool → ℕ
bit b = cond b 1 0

-- what a seat has to give: its chips, its hand, and its first move on each street
abbrev pub stake : Setup → List Move → ℕ → ℕ
stake setup moves seat = chips_left setup moves seat + (bit (is_live moves seat) + sum_from (λ street. bit (not (has_moved moves street seat))) 1 5)

-- the betting of the first street is still to be opened
abbrev pub opening : List Move → ℕ
opening moves = bit (not (list_any (λ (move : Move). has_opened_betting move.act) (moves_on 1 moves)))

-- the most moves that may come
abbrev pub moves_left : Setup → List Move → ℕ
moves_left setup moves = sum_from (stake setup moves) 1 setup.stacks.seats + opening moves

bit_less : (a b : Bool) → (a ≡ true → b ≡ true) → bit a ≤ bit b
bit_less true b so = let one : ◌≡◌ {A = ℕ} (bit b) 1 = ap {B = ℕ} bit (so refl) in omega (arith, one)
bit_less false b so = omega arith

bit_falls : (a b : Bool) → a ≡ false → b ≡ true → bit a + 1 ≤ bit b
bit_falls a b is_a is_b =
    let none : ◌≡◌ {A = ℕ} (bit a) 0 = ap {B = ℕ} bit is_a in
    let one : ◌≡◌ {A = ℕ} (bit b) 1 = ap {B = ℕ} bit is_b in
    omega (arith, none, one)

not_less : (a b : Bool) → (b ≡ true → a ≡ true) → bit (not a) ≤ bit (not b)
not_less a true so = let none : ◌≡◌ {A = ℕ} (bit (not a)) 0 = ap {B = ℕ} (λ t. bit (not t)) (so refl) in omega (arith, none)
not_less true false so = omega arith
not_less false false so = omega arith

-- a test that some move of a street passes, one of more moves passes
some_more : (p : Move → Bool) (move : Move) (street : ℕ) (moves : List Move) → list_any p (moves_on street moves) ≡ true → list_any p (moves_on street (move ∷ moves)) ≡ true
some_more p move street moves some = by_street (move.street == street)
  where
    by_street : (here : Bool) → list_any p (if here then (move ∷ moves_on street moves) else moves_on street moves) ≡ true
    by_street true = or_right (p move) (list_any p (moves_on street moves)) some
    by_street false = some

-- the newest move is on its street
some_now : (p : Move → Bool) (move : Move) (street : ℕ) (moves : List Move) → move.street ≡ street → p move ≡ true → list_any p (moves_on street (move ∷ moves)) ≡ true
some_now p move street moves on passes = by_street (move.street == street) (eq-eqb move.street street on)
  where
    by_street : (here : Bool) → here ≡ true → list_any p (if here then (move ∷ moves_on street moves) else moves_on street moves) ≡ true
    by_street true is = ap (λ b. b || list_any p (moves_on street moves)) passes
    by_street false is = false_true is

-- no move gives back
module _ (setup : Setup) (move : Move) (moves : List Move) where
  chips_less : (seat : ℕ) → chips_left setup (move ∷ moves) seat ≤ chips_left setup moves seat
  chips_less seat = omega arith

  firsts_less : (seat street : ℕ) → bit (not (has_moved (move ∷ moves) street seat)) ≤ bit (not (has_moved moves street seat))
  firsts_less seat street = not_less (has_moved (move ∷ moves) street seat) (has_moved moves street seat) (some_more (λ (m : Move). m.seat == seat) move street moves)

  live_less : (seat : ℕ) → bit (is_live (move ∷ moves) seat) ≤ bit (is_live moves seat)
  live_less seat = bit_less (is_live (move ∷ moves) seat) (is_live moves seat) (still_live move moves seat)

  all_firsts_less : (seat : ℕ) → sum_from (λ street. bit (not (has_moved (move ∷ moves) street seat))) 1 5 ≤ sum_from (λ street. bit (not (has_moved moves street seat))) 1 5
  all_firsts_less seat = sum_least (λ street. bit (not (has_moved moves street seat))) (λ street. bit (not (has_moved (move ∷ moves) street seat))) 1 5 (λ street from. firsts_less seat street)

  stake_less : (seat : ℕ) → stake setup (move ∷ moves) seat ≤ stake setup moves seat
  stake_less seat = omega (arith, chips_less seat, live_less seat, all_firsts_less seat)

  opening_less : opening (move ∷ moves) ≤ opening moves
  opening_less =
      not_less (list_any (λ (m : Move). has_opened_betting m.act) (moves_on 1 (move ∷ moves))) (list_any (λ (m : Move). has_opened_betting m.act) (moves_on 1 moves)) (some_more (λ (m : Move). has_opened_betting m.act) move 1 moves)

-- what a move takes
pub data Takes (setup : Setup) (move : Move) (moves : List Move) : Type 0 where
  chips : 1 ≤ chips_left setup moves move.seat → move.from < move.to → Takes setup move moves
  hand : is_live moves move.seat ≡ true → is_folding move.act ≡ true → Takes setup move moves
  first : 1 ≤ move.street → move.street ≤ 5 → has_moved moves move.street move.seat ≡ false → Takes setup move moves
  opens : move.street ≡ 1 → has_opened_betting move.act ≡ true → list_any (λ (m : Move). has_opened_betting m.act) (moves_on 1 moves) ≡ false → Takes setup move moves

-- so one move fewer is left
pub one_less : (setup : Setup) (move : Move) (moves : List Move) → 1 ≤ move.seat → move.seat ≤ setup.stacks.seats → Takes setup move moves → moves_left setup (move ∷ moves) + 1 ≤ moves_left setup moves
one_less setup move moves low high takes = by_kind takes
  where
    own : ◌≡◌ {A = Bool} (move.seat == move.seat) true
    own = eq-eqb move.seat move.seat refl

    from_stake : stake setup (move ∷ moves) move.seat + 1 ≤ stake setup moves move.seat → moves_left setup (move ∷ moves) + 1 ≤ moves_left setup moves
    from_stake less =
        omega (arith, opening_less setup move moves, sum_more (stake setup moves) (stake setup (move ∷ moves)) 1 setup.stacks.seats move.seat 1 (stake_less setup move moves) low (omega (arith, high)) less)

    by_kind : Takes setup move moves → moves_left setup (move ∷ moves) + 1 ≤ moves_left setup moves
    by_kind (chips some up) =
        let added : ◌≡◌ {A = ℕ} (if move.seat == move.seat then move.to - move.from else 0) (move.to - move.from) = ap (λ b. if b then move.to - move.from else 0) own in
        let fewer : chips_left setup (move ∷ moves) move.seat + 1 ≤ chips_left setup moves move.seat = omega (arith, added, some, up) in
        from_stake (omega (arith, fewer, live_less setup move moves move.seat, all_firsts_less setup move moves move.seat))
    by_kind (hand live folds) =
        let gone : is_live (move ∷ moves) move.seat ≡ false = ap (λ b. not ((b && (move.seat == move.seat)) || list_any (λ (m : Move). is_folding m.act && (m.seat == move.seat)) moves)) folds ∙ ap (λ b. not (b || list_any (λ (m : Move). is_folding m.act && (m.seat == move.seat)) moves)) own in
        from_stake (omega (arith, chips_less setup move moves move.seat, bit_falls (is_live (move ∷ moves) move.seat) (is_live moves move.seat) gone live, all_firsts_less setup move moves move.seat))
    by_kind (first one five unmoved) =
        let now : has_moved (move ∷ moves) move.street move.seat ≡ true = some_now (λ (m : Move). m.seat == move.seat) move move.street moves refl own in
        let here = bit_falls (not (has_moved (move ∷ moves) move.street move.seat)) (not (has_moved moves move.street move.seat)) (ap not now) (ap not unmoved) in
        from_stake (omega (
          arith,
          chips_less setup move moves move.seat,
          live_less setup move moves move.seat,
          sum_more (λ street. bit (not (has_moved moves street move.seat))) (λ street. bit (not (has_moved (move ∷ moves) street move.seat))) 1 5 move.street 1 (firsts_less setup move moves move.seat) one (omega (arith, five)) here,
        ))
    by_kind (opens on act unopened) =
        let now : list_any (λ (m : Move). has_opened_betting m.act) (moves_on 1 (move ∷ moves)) ≡ true = some_now (λ (m : Move). has_opened_betting m.act) move 1 moves on act in
        let here = bit_falls (not (list_any (λ (m : Move). has_opened_betting m.act) (moves_on 1 (move ∷ moves)))) (not (list_any (λ (m : Move). has_opened_betting m.act) (moves_on 1 moves))) (ap not now) (ap not unopened) in
        omega (arith, here, sum_least (stake setup moves) (stake setup (move ∷ moves)) 1 setup.stacks.seats (λ seat from. stake_less setup move moves seat))

-- all that comes is at most this
firsts_most : (seat : ℕ) → sum_from (λ street. bit (not (has_moved [] street seat))) 1 5 ≤ 5
firsts_most seat = omega arith

pub left_at_start : (setup : Setup) (most : ℕ) → ((seat : ℕ) → chips_left setup [] seat ≤ most) → moves_left setup [] ≤ setup.stacks.seats * (most + 6) + 1
left_at_start setup most few = omega (arith, sum_most (stake setup []) (most + 6) 1 setup.stacks.seats (λ seat. omega (arith, few seat, firsts_most seat)))
