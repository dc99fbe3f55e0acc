-- Who opens a street by up-cards, by the running numbers and a row of up-cards.
use Rattle.std.specs.Prelude.{◌≡◌, ℕ, ◌≤◌, Bool, true, ◌&&◌, ◌==◌, not, if◌then◌else◌, find, Option, None}
use Rattle.std.specs.List.{list_any}
use Rattle.play_event.specs.declared.up_cards.UpRow.{UpRow}
use Rattle.play_event.specs.declared.setup.Setup.{Setup}
use Rattle.play_event.specs.declared.limit.Opener.{Opener}
use Rattle.play_event.specs.Openers.{is_opener_before}
use Rattle.card_set.specs.Known.{hides_card, known_among}
use Rattle.play_event.specs.Past.{Past}
use Rattle.betting_numbers.specs.Earliest.{opens_no_later}
use Rattle.play_event.specs.SeatSlots.{ups_of}
use Rattle.play_event.specs.Seats.{all_seats}
use Rattle.play_event.specs.Table.{up_cards}
use Rattle.betting_numbers.specs.declared.betting_state.BettingState.{BettingState}
use Rattle.betting_numbers.specs.Seen.{can_act_seen}

-- a row holds the up-cards of a past
abbrev pub HoldsUps : Setup → UpRow → Past → Type 0
HoldsUps setup up past =
    (seat : ℕ) → 1 ≤ seat → seat ≤ setup.stacks.seats
    → ups_of up seat ≡ up_cards setup.code past seat

-- a row has the up-cards of a past that are read: who opens is asked only until a seat has moved on
-- the street
pub record HoldsOpeningUps (betting : BettingState) (up : UpRow) (past : Past) : Type 0 where
  -- the row has the up-cards of the past if no seat has moved on the street yet
  pub held : betting.last ≡ None → HoldsUps betting.setup up past

-- the seat can act and has an unknown up-card
abbrev pub has_unknown_seen : BettingState → UpRow → ℕ → Bool
has_unknown_seen betting up seat = can_act_seen betting seat && list_any hides_card (ups_of up seat)

-- some seat that can act has an unknown up-card
abbrev pub has_unknown_up_card_seen : BettingState → UpRow → Bool
has_unknown_up_card_seen betting up =
    list_any (has_unknown_seen betting up) (all_seats betting.setup)

-- the other seat can act and opens before this one
abbrev pub is_before_seen : Opener → BettingState → UpRow → (seat other : ℕ) → Bool
is_before_seen opener betting up seat other =
    can_act_seen betting other
    && is_opener_before opener (betting.street == 1) (known_among (ups_of up other))
    (known_among (ups_of up seat))

-- a seat opens before each seat before which the leader opens
abbrev pub LeadsAsWell : Opener → BettingState → UpRow → (lead other : ℕ) → Type 0
LeadsAsWell opener betting up lead other =
    (seat : ℕ) → is_before_seen opener betting up seat lead ≡ true
    → is_before_seen opener betting up seat other ≡ true

-- the seat's up-cards open before all before which the other's open
abbrev pub is_as_early_seen : Opener → BettingState → UpRow → (seat other : ℕ) → Bool
is_as_early_seen opener betting up seat other =
    opens_no_later opener (betting.street == 1) (known_among (ups_of up seat))
    (known_among (ups_of up other))

-- the seat can act, and no seat that can act opens before it
abbrev pub is_opener_seen : Opener → BettingState → UpRow → ℕ → Bool
is_opener_seen opener betting up seat =
    can_act_seen betting seat
    && not (list_any (is_before_seen opener betting up seat) (all_seats betting.setup))

-- the first seat that can act and before which none opens
abbrev pub up_opener_seen : Opener → BettingState → UpRow → Option ℕ
up_opener_seen opener betting up = find (is_opener_seen opener betting up) (all_seats betting.setup)

-- who opens, if no seat that can act has an unknown up-card
abbrev pub known_opener_seen : Opener → BettingState → UpRow → Option ℕ
known_opener_seen opener betting up =
    if has_unknown_up_card_seen betting up then None else up_opener_seen opener betting up
