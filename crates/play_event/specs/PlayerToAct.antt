-- The player to act: the first seat with a move to make, going round the table.
use Rattle.std.specs.Prelude.{ℕ, Bool, ◌+◌, ◌-◌, List, [], ◌∷◌, ◌++◌, find}
use Rattle.std.specs.List.{range_with_len}
use Rattle.play_event.specs.declared.setup.Setup.{Setup}
use Rattle.play_event.specs.Streets.{opener_of}
use Rattle.play_event.specs.Past.{Move, moves_on}
use Rattle.play_event.specs.Openers.{InTurn, NoSeat, TheSeat, Undecided, in_turn, UpCards, seat_after, opener_by}
use Rattle.play_event.specs.Due.{has_to_move}

-- the seats going round the table once from this one on
abbrev pub seats_from : Setup → ℕ → List ℕ
seats_from setup seat =
    range_with_len seat (setup.stacks.seats + 1 - seat) ++ range_with_len 1 (seat - 1)

-- who is next: the seat after the one that made the street's newest move, or before any move the
-- seat that acts first
abbrev pub next_in_turn : Setup → InTurn → List Move → InTurn
next_in_turn setup opener [] = opener
next_in_turn setup opener (move ∷ before) = TheSeat (seat_after setup move.seat)

-- the first seat for which a test holds, going round from there
abbrev pub first_in_turn : Setup → (ℕ → Bool) → InTurn → InTurn
first_in_turn setup holds NoSeat = NoSeat
first_in_turn setup holds Undecided = Undecided
first_in_turn setup holds (TheSeat seat) = in_turn (find holds (seats_from setup seat))

-- the player to act on this street, if this seat acts first
abbrev pub player_to_act_after : Setup → InTurn → List Move → ℕ → InTurn
player_to_act_after setup opener moves street =
    first_in_turn setup (has_to_move setup moves street)
    (next_in_turn setup opener (moves_on street moves))

-- the player to act on this street, if some seat has a move to make
abbrev pub player_to_act : Setup → UpCards → List Move → ℕ → InTurn
player_to_act setup ups moves street =
    player_to_act_after setup (opener_by (opener_of setup.code) setup ups moves street) moves street
