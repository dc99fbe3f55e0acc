-- A seat that has acted on a street, and not since the current bet rose there, has chips to call;
-- and a raise goes above the current bet.
use Rattle.std.proofs.Common.{◌≡◌, ℕ, ◌+◌, ◌-◌, ◌≤◌, ◌<◌, Bool, true, false, ◌&&◌, ◌||◌, ◌==◌, nat_le, if◌then◌else◌, List, [], ◌∷◌, map, refl, sym, ap, ◌∙◌, arith}
use Rattle.std.specs.List.{list_any}
use Rattle.std.proofs.lemmas.Bool.{eq-eqb, eqb-true, leb-false}
use Rattle.chip_ledger.specs.Greatest.{greatest}
use Rattle.card_set.proofs.Tests.{false_true, neither}
use Rattle.play_event.specs.declared.setup.Setup.{Setup}
use Rattle.play_event.specs.Chips.{brought, chips_added, street_chips}
use Rattle.play_event.specs.Due.{has_acted_since_raise}
use Rattle.play_event.specs.Past.{Move, moves_on}
use Rattle.play_event.specs.CurrentBet.{current_bet}
use Rattle.play_event.specs.Raising.{has_moved}
use Rattle.play_event.specs.Seats.{all_seats}
use Rattle.play_event.proofs.FloorLaws.{greatest_reaches}
use Rattle.chip_ledger.specs.Seat.{IsSeatOf}

-- a move is by a seat of the hand, from the chips that the seat had on the street
pub record IsTaken (setup : Setup) (move : Move) (before : List Move) : Type 0 where
  pub from : move.from ≡ street_chips setup before move.street move.seat
  pub seat : IsSeatOf setup.stacks.seats move.seat

-- and so is each move
abbrev pub AreTaken : Setup → List Move → Type 0
AreTaken setup [] = Unit {0}
AreTaken setup (move ∷ before) = IsTaken setup move before × AreTaken setup before

greatest_less : (f g : ℕ → ℕ) (xs : List ℕ) → ((x : ℕ) → f x ≤ g x) → greatest (map f xs) ≤ greatest (map g xs)
greatest_less f g [] less = omega arith
greatest_less f g (x ∷ xs) less = omega (arith, less x, greatest_less f g xs less)

-- no move takes chips off a street
chips_more : (setup : Setup) (move : Move) (moves : List Move) (street seat : ℕ) → street_chips setup moves street seat ≤ street_chips setup (move ∷ moves) street seat
chips_more setup move moves street seat = by_street (move.street == street)
  where
    by_street : (here : Bool) → brought setup street seat + chips_added seat (moves_on street moves) ≤ brought setup street seat + chips_added seat (if here then (move ∷ moves_on street moves) else moves_on street moves)
    by_street true = omega arith
    by_street false = omega arith

current_bet_more : (setup : Setup) (move : Move) (moves : List Move) (street : ℕ) → current_bet setup moves street ≤ current_bet setup (move ∷ moves) street
current_bet_more setup move moves street = greatest_less (street_chips setup moves street) (street_chips setup (move ∷ moves) street) (all_seats setup) (chips_more setup move moves street)

-- no seat of the hand has more chips on a street than the current bet
pub within_current_bet : (setup : Setup) (moves : List Move) (street seat : ℕ) → IsSeatOf setup.stacks.seats seat → street_chips setup moves street seat ≤ current_bet setup moves street
within_current_bet setup moves street seat in_hand = greatest_reaches (street_chips setup moves street) 1 setup.stacks.seats seat in_hand.first (omega (arith, in_hand.last))

-- the chips of a seat on a street after a move there
chips_here : (setup : Setup) (move : Move) (moves : List Move) (street seat : ℕ) (mine : Bool) → (move.street == street) ≡ true → (move.seat == seat) ≡ mine → street_chips setup (move ∷ moves) street seat ≡ brought setup street seat + ((if mine then move.to - move.from else 0) + chips_added seat (moves_on street moves))
chips_here setup move moves street seat mine here own =
    ap (λ b. brought setup street seat + chips_added seat (if b then (move ∷ moves_on street moves) else moves_on street moves)) here
    ∙ ap (λ b. brought setup street seat + ((if b then move.to - move.from else 0) + chips_added seat (moves_on street moves))) own

-- the current bet is at least where a move went
reaches : (setup : Setup) (move : Move) (before : List Move) (street : ℕ) → IsTaken setup move before → (move.street == street) ≡ true → move.to ≤ current_bet setup (move ∷ before) street
reaches setup move before street taken here =
    let same : move.street ≡ street = eqb-true move.street street here in
    let from : move.from ≡ street_chips setup before street move.seat = taken.from ∙ ap (λ s. street_chips setup before s move.seat) same in
    omega (arith, from, chips_here setup move before street move.seat true here (eq-eqb move.seat move.seat refl), within_current_bet setup (move ∷ before) street move.seat taken.seat)

-- a seat that has acted, and not since the current bet rose, has chips to call
pub owes_since : (setup : Setup) (moves : List Move) (street seat : ℕ) → AreTaken setup moves → IsSeatOf setup.stacks.seats seat → has_moved moves street seat ≡ true → has_acted_since_raise setup moves street seat ≡ false → street_chips setup moves street seat < current_bet setup moves street
owes_since setup [] street seat taken in_hand moved since = false_true moved
owes_since setup (move ∷ before) street seat taken in_hand moved since =
    by_street (move.street == street) refl moved since (owes_since setup before street seat taken.1 in_hand)
  where
    still : street_chips setup before street seat < current_bet setup before street → street_chips setup (move ∷ before) street seat ≡ street_chips setup before street seat → street_chips setup (move ∷ before) street seat < current_bet setup (move ∷ before) street
    still owes same = omega (arith, owes, same, current_bet_more setup move before street)

    risen : (move.street == street) ≡ true → street_chips setup (move ∷ before) street seat ≡ street_chips setup before street seat → current_bet setup before street < move.to → street_chips setup (move ∷ before) street seat < current_bet setup (move ∷ before) street
    risen here same above = omega (arith, same, above, within_current_bet setup before street seat in_hand, reaches setup move before street taken.0 here)

    by_current_bet : (low : Bool) → nat_le move.to (current_bet setup before street) ≡ low → (move.street == street) ≡ true → street_chips setup (move ∷ before) street seat ≡ street_chips setup before street seat → has_moved before street seat ≡ true → (low && has_acted_since_raise setup before street seat) ≡ false → (has_moved before street seat ≡ true → has_acted_since_raise setup before street seat ≡ false → street_chips setup before street seat < current_bet setup before street) → street_chips setup (move ∷ before) street seat < current_bet setup (move ∷ before) street
    by_current_bet true is here same moved_before since_before later = still (later moved_before since_before) same
    by_current_bet false is here same moved_before since_before later = risen here same (leb-false move.to (current_bet setup before street) is)

    by_street : (here : Bool) → (move.street == street) ≡ here → list_any (λ (m : Move). m.seat == seat) (if here then (move ∷ moves_on street before) else moves_on street before) ≡ true
        → (if here then ((move.seat == seat) || (nat_le move.to (current_bet setup before street) && has_acted_since_raise setup before street seat)) else has_acted_since_raise setup before street seat) ≡ false
        → (has_moved before street seat ≡ true → has_acted_since_raise setup before street seat ≡ false → street_chips setup before street seat < current_bet setup before street)
        → street_chips setup (move ∷ before) street seat < current_bet setup (move ∷ before) street
    by_street false is moved_now since_now later =
        still (later moved_now since_now) (ap (λ b. brought setup street seat + chips_added seat (if b then (move ∷ moves_on street before) else moves_on street before)) is)
    by_street true is moved_now since_now later =
        let parts = neither (move.seat == seat) (nat_le move.to (current_bet setup before street) && has_acted_since_raise setup before street seat) since_now in
        let moved_before : has_moved before street seat ≡ true = sym (ap (λ b. b || has_moved before street seat) parts.0) ∙ moved_now in
        let same : street_chips setup (move ∷ before) street seat ≡ street_chips setup before street seat = omega (arith, chips_here setup move before street seat false is parts.0) in
        by_current_bet (nat_le move.to (current_bet setup before street)) refl is same moved_before parts.1 later
