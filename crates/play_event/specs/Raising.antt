-- Who may bet or raise.
use Rattle.std.specs.Prelude.{ℕ, Bool, true, ◌*◌, ◌-◌, ◌&&◌, ◌||◌, ◌==◌, nat_lt, nat_le, not, List, count_by, slice_index, Option, Some, None}
use Rattle.std.specs.List.{list_any}
use Rattle.play_event.specs.declared.setup.Setup.{Setup}
use Rattle.play_event.specs.declared.setup.Rules.{Rules}
use Rattle.play_event.specs.declared.setup.Reopen.{Reopen}
use Rattle.play_event.specs.declared.setup.Reopen.TheVariants as reopen
use Rattle.play_event.specs.declared.limit.Limit.{Limit}
use Rattle.play_event.specs.declared.limit.Limit.TheVariants as limits
use Rattle.play_event.specs.Streets.{limit_of, unit}
use Rattle.play_event.specs.Past.{Move, is_raising, moves_on}
use Rattle.play_event.specs.Chips.{all_in}
use Rattle.play_event.specs.Seats.{can_act, all_seats}
use Rattle.play_event.specs.CurrentBet.{current_bet, to_call, full_raise}
use Rattle.play_event.specs.Targets.{is_legal_target}

-- a seat has acted on this street
abbrev pub has_moved : List Move → ℕ → ℕ → Bool
has_moved moves street seat = list_any (λ move. move.seat == seat) (moves_on street moves)

-- how many raises there were on this street
abbrev pub raises_on : List Move → ℕ → ℕ
raises_on moves street = count_by (λ move. is_raising move.act) (moves_on street moves)

-- there are fewer raises on this street than its cap allows; a street after the fourth is not
-- capped
abbrev pub is_within_cap : Option (List ℕ) → List Move → ℕ → Bool
is_within_cap None moves street = true
is_within_cap (Some caps) moves street =
    nat_lt 4 street || nat_lt (raises_on moves street) (slice_index caps (street - 1))

-- what a seat has to call reopens the betting to it: at least a full raise, or in fixed limit at
-- least half a bet
abbrev pub is_full_raise_to_call : Limit → Setup → List Move → ℕ → ℕ → Bool
is_full_raise_to_call limits.No setup moves street seat =
    nat_le (full_raise setup moves street) (to_call setup moves street seat)
is_full_raise_to_call limits.Pot setup moves street seat =
    nat_le (full_raise setup moves street) (to_call setup moves street seat)
is_full_raise_to_call limits.Fixed setup moves street seat =
    nat_le (unit setup street) (2 * to_call setup moves street seat)

-- the betting is open to a seat: always, or if it has not acted on this street or has enough to
-- call
abbrev pub is_reopened : Reopen → Setup → List Move → ℕ → ℕ → Bool
is_reopened reopen.Always setup moves street seat = true
is_reopened reopen.Full setup moves street seat =
    not (has_moved moves street seat)
    || is_full_raise_to_call (limit_of setup.code) setup moves street seat

-- another seat is live with chips left
abbrev pub has_able_opponent : Setup → List Move → ℕ → Bool
has_able_opponent setup moves seat =
    list_any (λ other. can_act setup moves other && not (other == seat)) (all_seats setup)

-- a seat may raise
abbrev pub may_raise : Setup → Rules → List Move → ℕ → ℕ → Bool
may_raise setup rules moves street seat =
    has_able_opponent setup moves seat
    && nat_lt (current_bet setup moves street) (all_in setup moves street seat)
    && is_within_cap rules.caps moves street
    && is_reopened rules.reopen setup moves street seat

-- a raise is legal only if betting always reopens, whatever the rules of the notation: if only full
-- raises reopened it, the seat could not raise, or its target would not be legal
abbrev pub is_closed : Setup → List Move → ℕ → ℕ → ℕ → Bool
is_closed setup moves street seat target =
    not (is_reopened reopen.Full setup moves street seat)
    || not (is_legal_target reopen.Full setup moves street seat target)
