-- Why a seat may not fold, call, raise or bring in now. Cards play no part here: the player to act
-- is given.
use Rattle.std.specs.Prelude.{ℕ, ◌-◌, Bool, true, false, ◌&&◌, ◌==◌, nat_lt, not, List, Option, Some, None}
use Rattle.play_event.specs.declared.reason.Illegal.{Illegal}
use Rattle.play_event.specs.declared.reason.Illegal.TheVariants as reasons
use Rattle.play_event.specs.declared.setup.Setup.{Setup}
use Rattle.play_event.specs.declared.setup.Rules.{Rules}
use Rattle.play_event.specs.Said as said
use Rattle.play_event.specs.Said.{Said}
use Rattle.play_event.specs.Past.{Move}
use Rattle.play_event.specs.Chips.{street_chips}
use Rattle.play_event.specs.Seats.{can_act}
use Rattle.play_event.specs.CurrentBet.{to_call}
use Rattle.play_event.specs.Amounts.{call_target, raise_target}
use Rattle.play_event.specs.Targets.{is_legal_target, greatest_target}
use Rattle.play_event.specs.Raising.{may_raise}
use Rattle.play_event.specs.Openers.{InTurn, NoSeat, TheSeat, Undecided}

-- the seat that acts in an event: the one that is named, otherwise the player to act
abbrev pub actor_of : Option ℕ → InTurn → ℕ
actor_of (Some seat) turn = seat
actor_of None (TheSeat seat) = seat
actor_of None NoSeat = 0
actor_of None Undecided = 0

-- a seat is named that is not the player to act; or, if the player to act is not known, a seat that
-- is not live with chips left
abbrev pub is_other_seat : Setup → List Move → Option ℕ → InTurn → Bool
is_other_seat setup moves None turn = false
is_other_seat setup moves (Some seat) (TheSeat other) = not (seat == other)
is_other_seat setup moves (Some seat) NoSeat = true
is_other_seat setup moves (Some seat) Undecided = not (can_act setup moves seat)

-- the player to act is not known, because an up-card that decides it is unknown
abbrev pub is_undecided : InTurn → Bool
is_undecided Undecided = true
is_undecided NoSeat = false
is_undecided (TheSeat seat) = false

-- an event is a move, and it is not known whose
abbrev pub is_undecided_move : InTurn → Said → Bool
is_undecided_move turn (said.Fold named) = is_undecided turn
is_undecided_move turn (said.Call named stated) = is_undecided turn
is_undecided_move turn (said.Raise named amount) = is_undecided turn
is_undecided_move turn (said.BringIn named) = is_undecided turn
is_undecided_move turn _ = false

-- a fold with nothing to call, under rules that do not allow it
abbrev pub has_nothing_to_call : Setup → Rules → List Move → ℕ → InTurn → Said → Bool
has_nothing_to_call setup rules moves street turn (said.Fold named) =
    not rules.free_fold && (to_call setup moves street (actor_of named turn) == 0)
has_nothing_to_call setup rules moves street turn _ = false

-- a raise by a seat that may not raise
abbrev pub is_raise_closed : Setup → Rules → List Move → ℕ → InTurn → Said → Bool
is_raise_closed setup rules moves street turn (said.Raise named amount) =
    not (may_raise setup rules moves street (actor_of named turn))
is_raise_closed setup rules moves street turn _ = false

-- a target is not legal, and is below the highest legal one
abbrev pub is_below_targets : Setup → Rules → List Move → ℕ → ℕ → ℕ → Bool
is_below_targets setup rules moves street seat target =
    not (is_legal_target rules.reopen setup moves street seat target)
    && nat_lt target (greatest_target setup moves street seat)

-- a target is above the highest legal one
abbrev pub is_above_targets : Setup → List Move → ℕ → ℕ → ℕ → Bool
is_above_targets setup moves street seat target =
    nat_lt (greatest_target setup moves street seat) target

-- a raise to less than is legal
abbrev pub is_raise_too_small : Setup → Rules → List Move → ℕ → InTurn → Said → Bool
is_raise_too_small setup rules moves street turn (said.Raise named amount) =
    is_below_targets setup rules moves street (actor_of named turn)
    (raise_target setup moves street (actor_of named turn) amount)
is_raise_too_small setup rules moves street turn _ = false

-- a raise to more than is legal
abbrev pub is_raise_too_big : Setup → List Move → ℕ → InTurn → Said → Bool
is_raise_too_big setup moves street turn (said.Raise named amount) =
    is_above_targets setup moves street (actor_of named turn)
    (raise_target setup moves street (actor_of named turn) amount)
is_raise_too_big setup moves street turn _ = false

-- the chips that a call adds
abbrev pub chips_to_call : Setup → List Move → ℕ → ℕ → ℕ
chips_to_call setup moves street seat =
    call_target setup moves street seat - street_chips setup moves street seat

-- a call states another number of chips than it adds, with both numbers
abbrev pub stated_and_due : ℕ → ℕ → Bool × Illegal
stated_and_due stated due = (not (stated == due), reasons.AmountDiffers stated due)

-- whether a call states another number of chips than it adds, and the reason for that; no other
-- event does
abbrev pub amount_reason : Setup → List Move → ℕ → InTurn → Said → Bool × Illegal
amount_reason setup moves street turn (said.Call named (Some stated)) =
    stated_and_due stated (chips_to_call setup moves street (actor_of named turn))
amount_reason setup moves street turn _ = (false, reasons.AmountDiffers 0 0)
