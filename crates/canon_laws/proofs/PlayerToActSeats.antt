-- The player to act is a seat of the hand.
use Rattle.std.proofs.Common.{◌≡◌, ℕ, zero, suc, ◌+◌, ◌-◌, ◌≤◌, ◌<◌, Bool, true, false, ◌==◌, nat_lt, if◌then◌else◌, List, [], ◌∷◌, ◌++◌, filter, find, Option, Some, None, inl, inr, refl, sym, subst, arith}
use Rattle.std.specs.List.{AllByRecursion, range_with_len}
use Rattle.std.proofs.lemmas.Bool.{and_parts, cases_lt, ltb-true}
use Rattle.std.proofs.lemmas.Option.{same_Some}
use Rattle.card_set.proofs.Options.{some_is_none}
use Rattle.play_event.specs.Chips.{chips_left}
use Rattle.play_event.specs.Due.{has_to_move}
use Rattle.play_event.specs.PlayerToAct.{first_in_turn, player_to_act, next_in_turn, seats_from}
use Rattle.play_event.specs.Openers.{InTurn, NoSeat, TheSeat, Undecided, UpCards, able_seats, has_unknown_up_card, in_turn, opener_by, seat_after, up_cards_opener}
use Rattle.play_event.specs.Past.{Move, moves_on}
use Rattle.play_event.specs.Seats.{all_seats, can_act, is_live}
use Rattle.play_event.specs.Streets.{opener_of}
use Rattle.play_event.specs.declared.limit.Opener.{Opener}
use Rattle.play_event.specs.declared.limit.Opener.TheVariants as openers
use Rattle.play_event.specs.declared.setup.Setup.{Setup}
use Rattle.play_event.proofs.PlayerToActLaws.{player_to_act_can_act}
use Rattle.chip_ledger.specs.Seat.{IsSeatOf}
use Rattle.play_event.proofs.FloorLaws.{opener_from_one}

-- each of some numbers is at least 1
abbrev FromOne : List ℕ → Type 0
FromOne seats = AllByRecursion (λ seat. 1 ≤ seat) seats

range_from_one : (first count : ℕ) → 1 ≤ first → FromOne (range_with_len first count)
range_from_one first zero some = tt
range_from_one first (suc count) some = (some, range_from_one (first + 1) count (omega arith))

both_from_one : (seats others : List ℕ) → FromOne seats → FromOne others → FromOne (seats ++ others)
both_from_one [] others one other = other
both_from_one (seat ∷ seats) others one other = (one.0, both_from_one seats others one.1 other)

kept_from_one : (p : ℕ → Bool) (seats : List ℕ) → FromOne seats → FromOne (filter p seats)
kept_from_one p [] one = tt
kept_from_one p (seat ∷ seats) one = by_first (p seat) (kept_from_one p seats one.1)
  where
    by_first : (kept : Bool) → FromOne (filter p seats) → FromOne (if kept then (seat ∷ filter p seats) else filter p seats)
    by_first true rest = (one.0, rest)
    by_first false rest = rest

found_from_one : (p : ℕ → Bool) (seats : List ℕ) (seat : ℕ) → FromOne seats → find p seats ≡ Some seat → 1 ≤ seat
found_from_one p [] seat one is = absurd (some_is_none (sym is))
found_from_one p (first ∷ seats) seat one is = by_first (p first) is (found_from_one p seats seat one.1)
  where
    by_first : (here : Bool) → (if here then Some first else find p seats) ≡ Some seat → (find p seats ≡ Some seat → 1 ≤ seat) → 1 ≤ seat
    by_first true it later = omega (arith, one.0, same_Some first seat it)
    by_first false it later = later it

-- the player to act, if there is one, is seat 1 or higher
abbrev IsFromOne : InTurn → Type 0
IsFromOne NoSeat = Unit {0}
IsFromOne Undecided = Unit {0}
IsFromOne (TheSeat seat) = 1 ≤ seat

found_turn : (found : Option ℕ) → ((seat : ℕ) → found ≡ Some seat → 1 ≤ seat) → IsFromOne (in_turn found)
found_turn None one = tt
found_turn (Some seat) one = one seat refl

after_from_one : (setup : Setup) (seat : ℕ) → 1 ≤ seat_after setup seat
after_from_one setup seat = by_last (seat == setup.stacks.seats)
  where
    by_last : (last : Bool) → 1 ≤ (if last then 1 else seat + 1)
    by_last true = omega arith
    by_last false = omega arith

up_from_one : (setup : Setup) (ups : UpCards) (moves : List Move) (street : ℕ) (unknown : Bool) → IsFromOne (if unknown then Undecided else in_turn (up_cards_opener setup ups moves street))
up_from_one setup ups moves street true = tt
up_from_one setup ups moves street false =
    found_turn (up_cards_opener setup ups moves street) (λ seat is.
    found_from_one _ (able_seats setup moves) seat (kept_from_one (can_act setup moves) (all_seats setup) (range_from_one 1 setup.stacks.seats (omega arith))) is)

from_one_by : (opener : Opener) (setup : Setup) (ups : UpCards) (moves : List Move) (street : ℕ) → IsFromOne (opener_by opener setup ups moves street)
from_one_by openers.Blinds setup ups moves street = opener_from_one setup street
from_one_by openers.LowUp setup ups moves street = up_from_one setup ups moves street (has_unknown_up_card setup ups moves)
from_one_by openers.HighUp setup ups moves street = up_from_one setup ups moves street (has_unknown_up_card setup ups moves)

next_from_one : (setup : Setup) (opener : InTurn) (moves : List Move) → IsFromOne opener → IsFromOne (next_in_turn setup opener moves)
next_from_one setup opener [] one = one
next_from_one setup opener (move ∷ before) one = after_from_one setup move.seat

first_from_one : (setup : Setup) (holds : ℕ → Bool) (start : InTurn) → IsFromOne start → IsFromOne (first_in_turn setup holds start)
first_from_one setup holds NoSeat one = tt
first_from_one setup holds Undecided one = tt
first_from_one setup holds (TheSeat seat) one =
    found_turn (find holds (seats_from setup seat)) (λ found is.
    found_from_one holds (seats_from setup seat) found
    (both_from_one (range_with_len seat (setup.stacks.seats + 1 - seat)) (range_with_len 1 (seat - 1)) (range_from_one seat (setup.stacks.seats + 1 - seat) one) (range_from_one 1 (seat - 1) (omega arith))) is)

-- the player to act is a seat of the hand
pub player_to_act_in_hand : (setup : Setup) (ups : UpCards) (moves : List Move) (street seat : ℕ) → player_to_act setup ups moves street ≡ TheSeat seat → IsSeatOf setup.stacks.seats seat
player_to_act_in_hand setup ups moves street seat is =
    let opener : InTurn = opener_by (opener_of setup.code) setup ups moves street in
    let able = and_parts (is_live moves seat) (nat_lt 0 (chips_left setup moves seat)) (player_to_act_can_act setup ups moves street seat is) in
    let some : 0 < chips_left setup moves seat = ltb-true 0 (chips_left setup moves seat) able.1 in
    record {
      first =
          subst IsFromOne is
          (first_from_one setup (has_to_move setup moves street) (next_in_turn setup opener (moves_on street moves))
          (next_from_one setup opener (moves_on street moves) (from_one_by (opener_of setup.code) setup ups moves street)));
      last = elim (cases_lt setup.stacks.seats seat) [
        | inl past ↦ absurd (let none = setup.stacks.filler (seat - 1) (omega (arith, past)) in omega (arith, some, none))
        | inr within ↦ within
      ];
    }
