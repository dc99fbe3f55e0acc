-- The amounts to which a seat that may raise may go, by the limit of the game.
use Rattle.std.specs.Prelude.{ℕ, Bool, ◌+◌, ◌&&◌, ◌||◌, ◌==◌, min, max, nat_lt, nat_le, if◌then◌else◌, List, [], ◌∷◌}
use Rattle.std.specs.List.{list_any}
use Rattle.play_event.specs.declared.setup.Setup.{Setup}
use Rattle.play_event.specs.declared.setup.Reopen.{Reopen}
use Rattle.play_event.specs.declared.setup.Reopen.TheVariants as reopen
use Rattle.play_event.specs.declared.limit.Limit.{Limit}
use Rattle.play_event.specs.declared.limit.Limit.TheVariants as limits
use Rattle.play_event.specs.Streets.{limit_of, unit}
use Rattle.play_event.specs.Past.{Move}
use Rattle.play_event.specs.Chips.{all_in}
use Rattle.play_event.specs.CurrentBet.{current_bet, to_call, full_raise, doubled_raises, starting_bet, full_bet, all_chips_put}
use Rattle.chip_ledger.specs.Greatest.{greatest}

-- The lowest target, in no limit, of a raise that is not all-in. If only full raises reopen the
-- betting, it is a full raise above the current bet. If betting always reopens, it is at least the
-- minimum bet above the starting bet, and for each raise of this street it is above that raise's
-- target by at least as much as that raise exceeded the current bet.
abbrev pub floor : Reopen → Setup → List Move → ℕ → ℕ
floor reopen.Full setup moves street = current_bet setup moves street
    + full_raise setup moves street
floor reopen.Always setup moves street =
    max (starting_bet setup street + setup.min_bet) (greatest (doubled_raises setup moves street))

-- the highest target in pot limit: the current bet plus the pot after a call, or plus a full raise
-- if that is more
abbrev pub pot_ceiling : Setup → List Move → ℕ → ℕ → ℕ
pot_ceiling setup moves street seat =
    max (current_bet setup moves street + full_raise setup moves street)
    (current_bet setup moves street + all_chips_put setup moves + to_call setup moves street seat)

-- the target alone if it is above the current bet, and otherwise no target
abbrev pub above_current_bet : ℕ → ℕ → List ℕ
above_current_bet the_current_bet target = if nat_lt the_current_bet target then (target ∷ [])
    else []

-- the full targets in fixed limit: one bet, if the current bet is smaller; otherwise one bet above
-- the current bet, and one bet above the last full bet
abbrev pub full_targets : Setup → List Move → ℕ → List ℕ
full_targets setup moves street =
    if nat_lt (current_bet setup moves street) (unit setup street) then (unit setup street ∷ [])
    else ((current_bet setup moves street + unit setup street)
    ∷ above_current_bet (current_bet setup moves street)
    (full_bet setup moves street + unit setup street))

-- a target is legal, given the amounts that bound it
abbrev pub is_legal_by : Limit → (floor least all_in ceiling : ℕ) → (full_raise_targets : List ℕ)
    → (target : ℕ)
    → Bool
is_legal_by limits.No floor least all_in ceiling full_raise_targets target =
    (nat_le floor target && nat_le target all_in) || (target == all_in)
is_legal_by limits.Pot floor least all_in ceiling full_raise_targets target =
    (nat_le least target && nat_le target (min all_in ceiling))
    || ((target == all_in) && nat_le target ceiling)
is_legal_by limits.Fixed floor least all_in ceiling full_raise_targets target =
    (list_any (λ full. target == full) full_raise_targets && nat_le target all_in)
    || ((target == all_in) && nat_lt target (greatest full_raise_targets))

-- the highest legal target, given the amounts that bound it
abbrev pub greatest_by : Limit → (all_in ceiling : ℕ) → (full_raise_targets : List ℕ) → ℕ
greatest_by limits.No all_in ceiling full_raise_targets = all_in
greatest_by limits.Pot all_in ceiling full_raise_targets = min all_in ceiling
greatest_by limits.Fixed all_in ceiling full_raise_targets = min all_in
    (greatest full_raise_targets)

-- the legal targets: from the lowest raise up to all-in or the limit's highest, and all-in itself
-- if the limit allows that much
abbrev pub is_target_in : Limit → Reopen → Setup → List Move → ℕ → ℕ → ℕ → Bool
is_target_in limits.No reopens setup moves street seat target =
    (nat_le (floor reopens setup moves street) target
    && nat_le target (all_in setup moves street seat))
    || (target == all_in setup moves street seat)
is_target_in limits.Pot reopens setup moves street seat target =
    (nat_le (current_bet setup moves street + full_raise setup moves street) target
    && nat_le target
    (min (all_in setup moves street seat) (pot_ceiling setup moves street seat)))
    || ((target == all_in setup moves street seat)
    && nat_le target (pot_ceiling setup moves street seat))
is_target_in limits.Fixed reopens setup moves street seat target =
    (list_any (λ full. target == full) (full_targets setup moves street)
    && nat_le target (all_in setup moves street seat))
    || ((target == all_in setup moves street seat)
    && nat_lt target (greatest (full_targets setup moves street)))

-- the highest legal target: all-in, or less if the limit bounds it
abbrev pub greatest_target_in : Limit → Setup → List Move → ℕ → ℕ → ℕ
greatest_target_in limits.No setup moves street seat = all_in setup moves street seat
greatest_target_in limits.Pot setup moves street seat =
    min (all_in setup moves street seat) (pot_ceiling setup moves street seat)
greatest_target_in limits.Fixed setup moves street seat =
    min (all_in setup moves street seat) (greatest (full_targets setup moves street))

-- the smallest of some numbers, this one the first of them
abbrev pub smallest_from : ℕ → List ℕ → ℕ
smallest_from first [] = first
smallest_from first (next ∷ rest) = min first (smallest_from next rest)

-- the smallest of some numbers, or 0 if there are none
abbrev pub smallest : List ℕ → ℕ
smallest [] = 0
smallest (first ∷ rest) = smallest_from first rest

-- the lowest legal target, given the amounts that bound it
abbrev pub least_by : Limit → (floor least all_in : ℕ) → (full_raise_targets : List ℕ) → ℕ
least_by limits.No floor least all_in full_raise_targets = min all_in floor
least_by limits.Pot floor least all_in full_raise_targets = min all_in least
least_by limits.Fixed floor least all_in full_raise_targets = min all_in
    (smallest full_raise_targets)

-- the lowest legal target: the lowest raise of the limit, or all-in if that is less
abbrev pub least_target_in : Limit → Reopen → Setup → List Move → ℕ → ℕ → ℕ
least_target_in limits.No reopens setup moves street seat =
    min (all_in setup moves street seat) (floor reopens setup moves street)
least_target_in limits.Pot reopens setup moves street seat =
    min (all_in setup moves street seat)
    (current_bet setup moves street + full_raise setup moves street)
least_target_in limits.Fixed reopens setup moves street seat =
    min (all_in setup moves street seat) (smallest (full_targets setup moves street))

-- a target is legal in the game of the hand
abbrev pub is_legal_target : Reopen → Setup → List Move → ℕ → ℕ → ℕ → Bool
is_legal_target reopens setup moves street seat target =
    is_target_in (limit_of setup.code) reopens setup moves street seat target

-- the lowest legal target in the game of the hand
abbrev pub least_target : Reopen → Setup → List Move → ℕ → ℕ → ℕ
least_target reopens setup moves street seat =
    least_target_in (limit_of setup.code) reopens setup moves street seat

-- the highest legal target in the game of the hand
abbrev pub greatest_target : Setup → List Move → ℕ → ℕ → ℕ
greatest_target setup moves street seat =
    greatest_target_in (limit_of setup.code) setup moves street seat
