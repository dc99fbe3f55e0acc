-- The antes and blinds of a hand, from its posts.
use Rattle.std.specs.Prelude.{◌≡◌, ℕ, ◌==◌, ◌≤◌, nat_lt, min, Bool, true, not, ◌&&◌, if◌then◌else◌, List, map}
use Rattle.std.specs.List.{list_any}
use Rattle.std.specs.Option.{option_map_or}
use Rattle.chip_ledger.specs.declared.numbers.TheConstants.{MOST_CHIPS}
use Rattle.chip_ledger.specs.declared.seat_row.SeatRow.{SeatRow}
use Rattle.chip_ledger.specs.Seat.{seats_of}
use Rattle.chip_ledger.specs.SeatRow.{amount_of, amounts_in}
use Rattle.ohh_rounds.specs.declared.antes_and_blinds.AntesAndBlinds.{AntesAndBlinds}
use Rattle.ohh_rounds.specs.NamedBlinds.{PlainNamedBlinds, seat_count, seat_of_big_blind, seat_of_small_blind, stack_of}
use Rattle.ohh_rounds.specs.Posts.{PlainPost, ante_of, first_straddle}
use Rattle.ohh_rounds.specs.PostRules.{has_all_antes}

-- the antes, whether they are dead, and the blinds with straddles, p1's first
pub record PlainAntesAndBlinds : Type 0 where
  pub antes : List ℕ
  pub dead_antes : Bool
  pub blinds : List ℕ

-- antes and blinds, as the definitions see them
abbrev pub plain_antes_and_blinds : AntesAndBlinds → PlainAntesAndBlinds
plain_antes_and_blinds stakes =
    record {
      antes = amounts_in stakes.antes;
      dead_antes = stakes.dead_antes;
      blinds = amounts_in stakes.blinds;
    }

-- the ante of a seat: the smaller of what it posts and its stack
abbrev pub held_ante : PlainNamedBlinds → List PlainPost → ℕ → ℕ
held_ante table posts seat = min (ante_of posts seat) (stack_of table seat)

-- some seat of a row has an amount above 0
abbrev pub has_amount : SeatRow → Bool
has_amount row = list_any (λ seat. nat_lt 0 (amount_of row seat)) (seats_of row.seats)

-- some seats post an ante, but not all
abbrev pub are_dead : PlainNamedBlinds → List PlainPost → Bool
are_dead table posts =
    list_any (λ seat. nat_lt 0 (held_ante table posts seat)) (seats_of (seat_count table))
    && not (has_all_antes table posts)

-- the blind of a seat as it is named: one of the two blinds, or a straddle, or 0
abbrev pub named_blind : PlainNamedBlinds → List PlainPost → ℕ → ℕ
named_blind table posts seat =
    if seat == seat_of_small_blind table then table.small_blind
    else if seat == seat_of_big_blind table then table.big_blind
    else option_map_or (λ straddle. straddle) (first_straddle seat posts) 0

-- the antes and blinds of all seats
unfoldable pub antes_and_blinds_said : PlainNamedBlinds → List PlainPost → PlainAntesAndBlinds
antes_and_blinds_said table posts =
    record {
      antes = map (held_ante table posts) (seats_of (seat_count table));
      dead_antes = are_dead table posts;
      blinds = map (named_blind table posts) (seats_of (seat_count table));
    }

-- the antes and blinds fit the stacks of a hand
pub record AreAntesAndBlindsFor (stacks : SeatRow) (stakes : AntesAndBlinds) : Type 0 where
  pub same_antes : stakes.antes.seats ≡ stacks.seats
  pub same_blinds : stakes.blinds.seats ≡ stacks.seats
  pub antes : (seat : ℕ) → amount_of stakes.antes seat ≤ amount_of stacks seat
  pub blinds : (seat : ℕ) → amount_of stakes.blinds seat ≤ MOST_CHIPS
  pub dead_antes : stakes.dead_antes ≡ true
      → list_any (λ seat. nat_lt 0 (amount_of stakes.antes seat)) (seats_of stacks.seats) ≡ true
  pub heads_up : stacks.seats ≡ 2 → amount_of stakes.blinds 2 ≤ amount_of stakes.blinds 1
