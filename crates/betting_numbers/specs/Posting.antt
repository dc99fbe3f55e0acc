-- What the seats post before the first card.
use Rattle.std.specs.Prelude.{◌≡◌, ℕ, ◌-◌, ◌*◌, ◌≤◌, ◌==◌, true, nat_lt, map, count_by, sum_by, find, reverse, unwrap_or}
use Rattle.chip_ledger.specs.Greatest.{greatest}
use Rattle.chip_ledger.specs.LiveRow.{flag_of}
use Rattle.chip_ledger.specs.Seat.{seats_of}
use Rattle.chip_ledger.specs.SeatRow.{amount_of}
use Rattle.chip_ledger.specs.declared.seat_row.TheConstants.{MOST_AMOUNT}
use Rattle.play_event.specs.Chips.{blind_posted, posted}
use Rattle.play_event.specs.declared.setup.Setup.{Setup}
use Rattle.betting_numbers.specs.declared.starting.Posted.{Posted}

-- the greatest blind of the first `count` seats, in chips as the setup has it
abbrev pub big_of : (ℕ → ℕ) → ℕ → ℕ
big_of blinds count = greatest (map blinds (seats_of count))

-- the number of the last of these seats with that blind, or 0
abbrev pub last_of : (ℕ → ℕ) → ℕ → ℕ
last_of blinds count =
    unwrap_or (find (λ seat. blinds seat == big_of blinds count) (reverse (seats_of count))) 0

-- each seat's ante and blind can be posted
pub record IsPostable (setup : Setup) : Type 0 where
  -- the rows of antes and blinds have the seats of the hand
  pub antes : setup.antes.seats ≡ setup.stacks.seats
  pub blinds : setup.blinds.seats ≡ setup.stacks.seats
  -- no ante is more than the stack
  pub reach : (seat : ℕ) → amount_of setup.antes seat ≤ amount_of setup.stacks seat

-- the first `count` seats have posted
pub record HasPosted (setup : Setup) (count : ℕ) (p : Posted) : Type 0 where
  -- each row has the seats of the hand
  pub bet_seats : p.bets.seats ≡ setup.stacks.seats
  pub put_seats : p.puts.seats ≡ setup.stacks.seats
  pub live_seats : p.live.seats ≡ setup.stacks.seats
  -- blinds as far as the stacks go
  pub bets : (seat : ℕ) → 1 ≤ seat → seat ≤ count → amount_of p.bets seat ≡ blind_posted setup seat
  -- antes and those blinds
  pub puts : (seat : ℕ) → 1 ≤ seat → seat ≤ count → amount_of p.puts seat ≡ posted setup seat
  -- the seats so far are live
  pub live : (seat : ℕ) → 1 ≤ seat → seat ≤ count → flag_of p.live seat ≡ true
  -- the chips of the seats so far, which a sum can hold
  pub pot : p.pot ≡ sum_by (posted setup) (seats_of count)
  pub pot_bounded : p.pot ≤ count * MOST_AMOUNT
  -- the greatest of the posted blinds, which is not more than a stack
  pub current_bet : p.current_bet ≡ greatest (map (blind_posted setup) (seats_of count))
  pub current_bet_bounded : p.current_bet ≤ MOST_AMOUNT
  -- the number of seats so far with chips left
  pub able :
      p.able_count
      ≡ count_by (λ seat. nat_lt 0 (amount_of setup.stacks seat - posted setup seat))
      (seats_of count)
  pub able_within : p.able_count ≤ count
  -- the greatest blind of the setup
  pub big : p.big_blind ≡ big_of (amount_of setup.blinds) count
  -- the number of the last seat so far with it
  pub last : p.last_big ≡ last_of (amount_of setup.blinds) count
  pub last_within : p.last_big ≤ count
