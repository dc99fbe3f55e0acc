-- Which past the running numbers stand for.
use Rattle.std.specs.Prelude.{◌≡◌, ◌≤◌, ℕ, true, false, min, List, [], ◌∷◌, Option, Some, None}
use Rattle.std.specs.List.{list_any}
use Rattle.chip_ledger.specs.Greatest.{greatest}
use Rattle.chip_ledger.specs.LiveRow.{flag_of}
use Rattle.chip_ledger.specs.SeatRow.{amount_of}
use Rattle.play_event.specs.declared.reason.Due.TheVariants as dues
use Rattle.play_event.specs.declared.setup.Setup.{Setup}
use Rattle.play_event.specs.Chips.{chips_put, street_chips}
use Rattle.play_event.specs.Due.{turn, has_acted_since_raise, has_opened_betting, is_settled}
use Rattle.play_event.specs.Past.{Past, Move, moves_of, moves_on}
use Rattle.play_event.specs.CurrentBet as prices
use Rattle.play_event.specs.CurrentBet.{doubled_raises}
use Rattle.play_event.specs.Raising.{has_moved, raises_on}
use Rattle.play_event.specs.Seats.{is_live, live_count}
use Rattle.play_event.specs.Showing.{has_to_show}
use Rattle.play_event.specs.ValidSetup.{IsValid}
use Rattle.play_laws.specs.Walk.{has_nothing_later}
use Rattle.betting_numbers.specs.declared.betting_state.BettingState.{BettingState}
use Rattle.betting_numbers.specs.Moving.{most_raises}
use Rattle.betting_numbers.specs.Seen.{last_seen}
use Rattle.chip_ledger.specs.Seat.{IsSeatOf}

-- the seat of the newest move
abbrev pub newest_seat : List Move → Option ℕ
newest_seat [] = None
newest_seat (move ∷ before) = Some move.seat

-- The running numbers are what the rules say of these moves, on this street.
pub record Standing (setup : Setup) (street : ℕ) (b : BettingState) (moves : List Move) : Type 0
  where
    -- the chips that each seat put in this hand
    pub puts : (seat : ℕ) → IsSeatOf setup.stacks.seats seat
        → amount_of b.puts seat ≡ chips_put setup moves seat
    -- the chips that each seat put on this street
    pub bets : (seat : ℕ) → IsSeatOf setup.stacks.seats seat
        → amount_of b.bets seat ≡ street_chips setup moves street seat
    -- the seats that have not folded
    pub live : (seat : ℕ) → IsSeatOf setup.stacks.seats seat
        → flag_of b.live seat ≡ is_live moves seat
    -- the seats that moved on this street
    pub moved : (seat : ℕ) → IsSeatOf setup.stacks.seats seat
        → flag_of b.moved seat ≡ has_moved moves street seat
    -- the seats that moved since the current bet last rose
    pub acted_since_raise : (seat : ℕ) → IsSeatOf setup.stacks.seats seat
        → flag_of b.acted_since_raise seat ≡ has_acted_since_raise setup moves street seat
    -- the seat that moved last on this street
    pub last : last_seen b ≡ newest_seat (moves_on street moves)
    -- the number of raises on this street, up to the most that is counted
    pub raises : b.raises ≡ min (raises_on moves street) most_raises
    -- the size of a full raise
    pub full_raise : b.full_raise ≡ prices.full_raise setup moves street
    -- the last full bet in fixed limit
    pub full_bet : b.full_bet ≡ prices.full_bet setup moves street
    -- the greatest, over the raises of this street, of twice the target minus the current bet
    -- before it
    pub always_floor : b.always_floor ≡ greatest (doubled_raises setup moves street)
    -- whether a raise or a bring-in opened the betting of this street
    pub bet_or_bring_in_made : b.bet_or_bring_in_made
        ≡ list_any (λ move. has_opened_betting move.act) (moves_on street moves)

-- The state stands for a past: each of its numbers and flags is what the rules say of the moves of
-- the past, and what is due is due by the rules. No state stands for a past in which a card was
-- dealt on a later street, or a hand was shown before the betting was over; no legal past is like
-- that.
pub record StandsFor (b : BettingState) (past : Past) : Type 0 where
  -- the setup is valid
  pub valid : IsValid b.setup
  -- the running numbers are those of the moves of the past
  pub standing : Standing b.setup b.street b (moves_of past)
  -- the street, and what is due on it, are those of the rules
  pub turn_is : turn b.setup past ≡ (b.street, b.due)
  -- at least one seat is live
  pub someone : 1 ≤ live_count b.setup (moves_of past)
  -- no event of the past is on a later street
  pub early : has_nothing_later past b.street ≡ true
  -- nobody has shown or mucked while betting is possible: each live seat still has to
  pub unshown : (b.due ≡ dues.Over → ⊥)
      → is_settled b.setup (moves_of past) (b.street, b.due) ≡ false
      → (seat : ℕ) → is_live (moves_of past) seat ≡ true → has_to_show past seat ≡ true
