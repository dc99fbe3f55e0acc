-- How the running numbers change with a move and with a new street.
use Rattle.std.specs.Prelude.{◌≡◌, ◌≢◌, ℕ, ◌+◌, ◌-◌, ◌*◌, ◌≤◌, true, false, ◌&&◌, ◌||◌, nat_le, not, min, max, if◌then◌else◌, Some, None}
use Rattle.chip_ledger.specs.LiveRow.{flag_of}
use Rattle.chip_ledger.specs.SeatRow.{amount_of}
use Rattle.play_event.specs.Past.{Act, is_folding, is_raising, is_bringing_in}
use Rattle.play_event.specs.Due.{has_opened_betting}
use Rattle.betting_numbers.specs.declared.betting_state.BettingState.{BettingState}
use Rattle.betting_numbers.specs.Seen.{current_bet_seen, last_seen}

-- the most raises that are counted
abbrev pub most_raises : ℕ
most_raises = 4294967295

-- a seat made a move to a target (chips of the street); `unit` is the bet size
pub record IsMoved (b next : BettingState) (seat : ℕ) (act : Act) (target unit : ℕ) : Type 0 where
  pub setup : next.setup ≡ b.setup
  pub rules : next.rules ≡ b.rules
  pub street : next.street ≡ b.street
  pub bets : amount_of next.bets seat ≡ amount_of b.bets seat + (target - amount_of b.bets seat)
  pub other_bets : (n : ℕ) → 1 ≤ n → n ≢ seat → amount_of next.bets n ≡ amount_of b.bets n
  pub puts : amount_of next.puts seat ≡ amount_of b.puts seat + (target - amount_of b.bets seat)
  pub other_puts : (n : ℕ) → 1 ≤ n → n ≢ seat → amount_of next.puts n ≡ amount_of b.puts n
  pub live : flag_of next.live seat ≡ (flag_of b.live seat && not (is_folding act))
  pub other_live : (n : ℕ) → 1 ≤ n → n ≢ seat → flag_of next.live n ≡ flag_of b.live n
  pub moved : flag_of next.moved seat ≡ true
  pub other_moved : (n : ℕ) → 1 ≤ n → n ≢ seat → flag_of next.moved n ≡ flag_of b.moved n
  pub acted_since_raise : flag_of next.acted_since_raise seat ≡ true
  pub other_since : (n : ℕ) → 1 ≤ n → n ≢ seat
      → flag_of next.acted_since_raise n
      ≡ (nat_le target (current_bet_seen b) && flag_of b.acted_since_raise n)
  pub last : last_seen next ≡ Some seat
  pub raises : next.raises ≡ (if is_raising act then min (b.raises + 1) most_raises else b.raises)
  pub full_raise :
      next.full_raise
      ≡ (if is_raising act && nat_le b.full_raise (target - current_bet_seen b)
      then max (target - current_bet_seen b) b.full_raise
      else b.full_raise)
  pub full_bet :
      next.full_bet
      ≡ (if (is_raising act || is_bringing_in act) && nat_le (b.full_bet + unit) target
      then target
      else b.full_bet)
  pub always_floor :
      next.always_floor
      ≡ (if is_raising act then max (2 * target - current_bet_seen b) b.always_floor
      else b.always_floor)
  pub bet_or_bring_in_made : next.bet_or_bring_in_made
      ≡ (has_opened_betting act || b.bet_or_bring_in_made)

-- the next street begins, and nobody has moved on it
pub record IsNextStreet (b next : BettingState) : Type 0 where
  pub setup : next.setup ≡ b.setup
  pub rules : next.rules ≡ b.rules
  pub street : next.street ≡ b.street + 1
  pub puts : (n : ℕ) → amount_of next.puts n ≡ amount_of b.puts n
  pub bets : (n : ℕ) → amount_of next.bets n ≡ 0
  pub live : (n : ℕ) → flag_of next.live n ≡ flag_of b.live n
  pub moved : (n : ℕ) → flag_of next.moved n ≡ false
  pub acted_since_raise : (n : ℕ) → flag_of next.acted_since_raise n ≡ false
  pub last : last_seen next ≡ None
  pub raises : next.raises ≡ 0
  pub full_raise : next.full_raise ≡ b.setup.min_bet
  pub full_bet : next.full_bet ≡ 0
  pub always_floor : next.always_floor ≡ 0
  pub bet_or_bring_in_made : next.bet_or_bring_in_made ≡ false
