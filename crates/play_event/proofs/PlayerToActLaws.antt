-- The player to act has a move to make, and so is live with chips left.
use Rattle.std.proofs.Common.{◌≡◌, ℕ, Bool, true, false, Option, Some, None, List, find, sym, ap, nat_lt, nat_le, ◌||◌, if◌then◌else◌}
use Rattle.std.proofs.lemmas.Bool.{and_parts}
use Rattle.card_set.proofs.Options.{some_is_none}
use Rattle.play_event.specs.declared.setup.Setup.{Setup}
use Rattle.play_event.specs.Streets.{opener_of}
use Rattle.play_event.specs.Past.{Move, moves_on}
use Rattle.play_event.specs.Seats.{can_act, able_count}
use Rattle.play_event.specs.CurrentBet.{to_call}
use Rattle.play_event.specs.Due.{has_to_move, has_acted_since_raise}
use Rattle.play_event.specs.Openers.{InTurn, NoSeat, TheSeat, Undecided, in_turn, UpCards, opener_by}
use Rattle.play_event.specs.PlayerToAct.{player_to_act, first_in_turn, next_in_turn, seats_from}
use Rattle.card_set.proofs.Finding.{found_passes}

seat_of : InTurn → Option ℕ
seat_of NoSeat = None
seat_of Undecided = None
seat_of (TheSeat seat) = Some seat

pub found_in_turn : (found : Option ℕ) (seat : ℕ) → in_turn found ≡ TheSeat seat → found ≡ Some seat
unfolding seat_of
found_in_turn None seat is = absurd (some_is_none (sym (ap seat_of is)))
found_in_turn (Some other) seat is = ap seat_of is

first_passes : (setup : Setup) (p : ℕ → Bool) (from : InTurn) (seat : ℕ) → first_in_turn setup p from ≡ TheSeat seat → p seat ≡ true
unfolding seat_of
first_passes setup p NoSeat seat is = absurd (some_is_none (sym (ap seat_of is)))
first_passes setup p Undecided seat is = absurd (some_is_none (sym (ap seat_of is)))
first_passes setup p (TheSeat start) seat is = found_passes p (seats_from setup start) seat (found_in_turn (find p (seats_from setup start)) seat is)

pub player_to_act_has_to_move : (setup : Setup) (ups : UpCards) (moves : List Move) (street seat : ℕ) → player_to_act setup ups moves street ≡ TheSeat seat → has_to_move setup moves street seat ≡ true
player_to_act_has_to_move setup ups moves street seat is =
    first_passes setup (has_to_move setup moves street) (next_in_turn setup (opener_by (opener_of setup.code) setup ups moves street) (moves_on street moves)) seat is

pub player_to_act_can_act : (setup : Setup) (ups : UpCards) (moves : List Move) (street seat : ℕ) → player_to_act setup ups moves street ≡ TheSeat seat → can_act setup moves seat ≡ true
player_to_act_can_act setup ups moves street seat is =
    (and_parts (can_act setup moves seat) (if has_acted_since_raise setup moves street seat then false else (nat_lt 0 (to_call setup moves street seat) || nat_le 2 (able_count setup moves))) (player_to_act_has_to_move setup ups moves street seat is)).0
