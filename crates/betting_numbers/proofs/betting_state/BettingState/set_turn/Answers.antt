-- Only what is due, and for whom, changes, and no fact of the table is about that.
use Rattle.std.proofs.Common.{◌≡◌, ◌≤◌, ◌-◌, ◌*◌, ℕ, ◌&&◌, nat_lt, map, count_by, Option, Some, ap}
use Rattle.std.proofs.Props.{props}
use Rattle.chip_ledger.specs.declared.numbers.Seat.{Seat}
use Rattle.chip_ledger.specs.declared.live_row.LiveRow.{LiveRow}
use Rattle.chip_ledger.specs.declared.seat_row.SeatRow.{SeatRow}
use Rattle.chip_ledger.specs.declared.seat_row.TheConstants.{MOST_AMOUNT}
use Rattle.chip_ledger.specs.Greatest.{greatest}
use Rattle.chip_ledger.specs.LiveRow.{flag_of}
use Rattle.chip_ledger.specs.Seat.{seats_of}
use Rattle.chip_ledger.specs.SeatRow.{amount_of, total_of}
use Rattle.play_event.specs.Openers.{blinds_opener}
use Rattle.play_event.specs.CurrentBet.{starting_bet}
use Rattle.play_event.specs.declared.reason.Due.{Due}
use Rattle.play_event.specs.declared.setup.Rules.{Rules}
use Rattle.play_event.specs.declared.setup.Setup.{Setup}
use Rattle.betting_numbers.specs.declared.betting_state.BettingState.{BettingState}
use Rattle.betting_numbers.specs.Caps.{cap_at}
use Rattle.betting_numbers.proofs.betting_state.BettingState.set_turn.Goals as goal

-- what a table keeps
record Kept (setup : Setup) (rules : Rules) (blind_bet : ℕ) (first_opener : Seat) (street : ℕ) (puts : SeatRow) (pot : ℕ) (bets : SeatRow) (current_bet : ℕ) (live : LiveRow) (live_count able_count : ℕ) (moved acted_since_raise : LiveRow) (last : Option Seat) (full_raise : ℕ) : Type 0 where
  blind_bet_is : blind_bet ≡ starting_bet setup 1
  blind_bet_bounded : blind_bet ≤ MOST_AMOUNT
  first_opener_is : first_opener.number ≡ blinds_opener setup 1
  first_opener_in : first_opener.number ≤ setup.stacks.seats
  from_one : 1 ≤ street
  ante_seats : setup.antes.seats ≡ setup.stacks.seats
  blind_seats : setup.blinds.seats ≡ setup.stacks.seats
  put_seats : puts.seats ≡ setup.stacks.seats
  bet_seats : bets.seats ≡ setup.stacks.seats
  live_seats : live.seats ≡ setup.stacks.seats
  moved_seats : moved.seats ≡ setup.stacks.seats
  since_seats : acted_since_raise.seats ≡ setup.stacks.seats
  within : (n : ℕ) → 1 ≤ n → amount_of puts n ≤ amount_of setup.stacks n
  inside : (n : ℕ) → 1 ≤ n → amount_of bets n ≤ amount_of puts n
  pot_is : pot ≡ total_of puts
  pot_bounded : pot ≤ 10 * MOST_AMOUNT
  current_bet_is : current_bet ≡ greatest (map (amount_of bets) (seats_of setup.stacks.seats))
  current_bet_bounded : current_bet ≤ MOST_AMOUNT
  live_is : live_count ≡ count_by (flag_of live) (seats_of setup.stacks.seats)
  able_is : able_count ≡ count_by (λ n. flag_of live n && nat_lt 0 (amount_of setup.stacks n - amount_of puts n)) (seats_of setup.stacks.seats)
  least : full_raise ≤ MOST_AMOUNT
  least_bet : setup.min_bet ≤ MOST_AMOUNT
  caps_fit : (k : ℕ) → cap_at rules.caps k ≤ 4294967295
  last_in : (seat : Seat) → last ≡ Some seat → seat.number ≤ setup.stacks.seats

Kept-prop : (setup : Setup) (rules : Rules) (blind_bet : ℕ) (first_opener : Seat) (street : ℕ) (puts : SeatRow) (pot : ℕ) (bets : SeatRow) (current_bet : ℕ) (live : LiveRow) (live_count able_count : ℕ) (moved acted_since_raise : LiveRow) (last : Option Seat) (full_raise : ℕ) → IsProp (Kept setup rules blind_bet first_opener street puts pot bets current_bet live live_count able_count moved acted_since_raise last full_raise)
Kept-prop setup rules blind_bet first_opener street puts pot bets current_bet live live_count able_count moved acted_since_raise last full_raise = hlevel props

abbrev KeptBy : BettingState → Type 0
KeptBy b = Kept b.setup b.rules b.blind_bet b.first_opener b.street b.puts b.pot b.bets b.current_bet b.live b.live_count b.able_count b.moved b.acted_since_raise b.last b.full_raise

abbrev turn_by : (b : BettingState) → Due → Option Seat → KeptBy b → BettingState
turn_by b due next kept = record {
  setup = b.setup;
  rules = b.rules;
  blind_bet = b.blind_bet;
  first_opener = b.first_opener;
  street = b.street;
  due = due;
  puts = b.puts;
  pot = b.pot;
  bets = b.bets;
  current_bet = b.current_bet;
  live = b.live;
  live_count = b.live_count;
  able_count = b.able_count;
  moved = b.moved;
  acted_since_raise = b.acted_since_raise;
  last = b.last;
  next = next;
  raises = b.raises;
  full_raise = b.full_raise;
  full_bet = b.full_bet;
  always_floor = b.always_floor;
  bet_or_bring_in_made = b.bet_or_bring_in_made;
  blind_bet_is = kept.blind_bet_is;
  blind_bet_bounded = kept.blind_bet_bounded;
  first_opener_is = kept.first_opener_is;
  first_opener_in = kept.first_opener_in;
  from_one = kept.from_one;
  ante_seats = kept.ante_seats;
  blind_seats = kept.blind_seats;
  put_seats = kept.put_seats;
  bet_seats = kept.bet_seats;
  live_seats = kept.live_seats;
  moved_seats = kept.moved_seats;
  since_seats = kept.since_seats;
  within = kept.within;
  inside = kept.inside;
  pot_is = kept.pot_is;
  pot_bounded = kept.pot_bounded;
  current_bet_is = kept.current_bet_is;
  current_bet_bounded = kept.current_bet_bounded;
  live_is = kept.live_is;
  able_is = kept.able_is;
  least = kept.least;
  least_bet = kept.least_bet;
  caps_fit = kept.caps_fit;
  last_in = kept.last_in;
}

pub returns : goal.returns
returns c =
    let b = c.args.self.now in
    ap (turn_by b c.args.due c.args.next) (Kept-prop b.setup b.rules b.blind_bet b.first_opener b.street b.puts b.pot b.bets b.current_bet b.live b.live_count b.able_count b.moved b.acted_since_raise b.last b.full_raise (record { blind_bet_is = _; blind_bet_bounded = _; first_opener_is = _; first_opener_in = _; from_one = _; ante_seats = _; blind_seats = _; put_seats = _; bet_seats = _; live_seats = _; moved_seats = _; since_seats = _; within = _; inside = _; pot_is = _; pot_bounded = _; current_bet_is = _; current_bet_bounded = _; live_is = _; able_is = _; least = _; least_bet = _; caps_fit = _; last_in = _ }) (record { blind_bet_is = b.blind_bet_is; blind_bet_bounded = b.blind_bet_bounded; first_opener_is = b.first_opener_is; first_opener_in = b.first_opener_in; from_one = b.from_one; ante_seats = b.ante_seats; blind_seats = b.blind_seats; put_seats = b.put_seats; bet_seats = b.bet_seats; live_seats = b.live_seats; moved_seats = b.moved_seats; since_seats = b.since_seats; within = b.within; inside = b.inside; pot_is = b.pot_is; pot_bounded = b.pot_bounded; current_bet_is = b.current_bet_is; current_bet_bounded = b.current_bet_bounded; live_is = b.live_is; able_is = b.able_is; least = b.least; least_bet = b.least_bet; caps_fit = b.caps_fit; last_in = b.last_in }))
