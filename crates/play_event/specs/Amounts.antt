-- The chips on the street to which an event takes its seat, however the amount is written.
use Rattle.std.specs.Prelude.{ℕ, ◌+◌, ◌-◌, min, nat_lt, if◌then◌else◌, List}
use Rattle.play_event.specs.declared.event.Spelled.{Spelled}
use Rattle.play_event.specs.declared.event.Spelled.TheVariants as spelled
use Rattle.play_event.specs.declared.setup.Setup.{Setup}
use Rattle.play_event.specs.Past.{Move}
use Rattle.play_event.specs.Streets.{unit}
use Rattle.play_event.specs.Chips.{chips_put, street_chips, all_in}
use Rattle.play_event.specs.CurrentBet.{current_bet}

-- a call goes to the current bet, or as far as the player's chips reach
abbrev pub call_target : Setup → List Move → ℕ → ℕ → ℕ
call_target setup moves street seat =
    min (current_bet setup moves street) (all_in setup moves street seat)

-- the chips that a seat put in before this street
abbrev pub put_before_street : Setup → List Move → ℕ → ℕ → ℕ
put_before_street setup moves street seat =
    chips_put setup moves seat - street_chips setup moves street seat

-- in fixed limit, a bet or raise by the street's bet size goes to one bet if the current bet is
-- smaller, and otherwise to one bet above it, and never beyond all-in
abbrev pub unit_target : Setup → List Move → ℕ → ℕ → ℕ
unit_target setup moves street seat =
    min
    (if nat_lt (current_bet setup moves street) (unit setup street)
    then unit setup street
    else current_bet setup moves street + unit setup street)
    (all_in setup moves street seat)

-- the chips on the street to which a bet or raise takes its seat
abbrev pub raise_target : Setup → List Move → ℕ → ℕ → Spelled → ℕ
raise_target setup moves street seat (spelled.To amount) = amount
raise_target setup moves street seat (spelled.Added amount) =
    street_chips setup moves street seat + amount
raise_target setup moves street seat (spelled.HandTotal amount) =
    amount - put_before_street setup moves street seat
raise_target setup moves street seat spelled.Unit = unit_target setup moves street seat

-- a bring-in goes to its size, or as far as the player's chips reach
abbrev pub bring_in_target : Setup → List Move → ℕ → ℕ → ℕ
bring_in_target setup moves street seat = min setup.bring_in (all_in setup moves street seat)
