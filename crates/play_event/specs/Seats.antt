-- Which seats are still in the hand, and which of them still have chips.
use Rattle.std.specs.Prelude.{ℕ, Bool, ◌&&◌, ◌==◌, not, nat_lt, List, count_by}
use Rattle.std.specs.List.{list_any}
use Rattle.chip_ledger.specs.Seat.{seats_of}
use Rattle.play_event.specs.declared.setup.Setup.{Setup}
use Rattle.play_event.specs.Past.{Move, is_folding}
use Rattle.play_event.specs.Chips.{chips_left}

-- a move folds a seat
abbrev pub is_fold_of : ℕ → Move → Bool
is_fold_of seat move = is_folding move.act && (move.seat == seat)

-- a seat is live: it has not folded
abbrev pub is_live : List Move → ℕ → Bool
is_live moves seat = not (list_any (λ move. is_folding move.act && (move.seat == seat)) moves)

-- a seat is able to act: it is live and has chips left
abbrev pub can_act : Setup → List Move → ℕ → Bool
can_act setup moves seat = is_live moves seat && nat_lt 0 (chips_left setup moves seat)

-- the seats of the hand
abbrev pub all_seats : Setup → List ℕ
all_seats setup = seats_of setup.stacks.seats

-- how many seats are live
abbrev pub live_count : Setup → List Move → ℕ
live_count setup moves = count_by (is_live moves) (all_seats setup)

-- how many seats are able to act
abbrev pub able_count : Setup → List Move → ℕ
able_count setup moves = count_by (can_act setup moves) (all_seats setup)
