-- Which setups are those of a hand: the numbers fit the game.
use Rattle.std.specs.Prelude.{◌≡◌, ℕ, ◌≤◌, Bool, true, false, not, nat_lt}
use Rattle.std.specs.List.{list_any}
use Rattle.chip_ledger.specs.declared.numbers.TheConstants.{MOST_CHIPS}
use Rattle.chip_ledger.specs.declared.seat_row.TheConstants.{MOST_AMOUNT}
use Rattle.chip_ledger.specs.RakeRow.{rake_of}
use Rattle.chip_ledger.specs.SeatRow.{amount_of}
use Rattle.play_event.specs.declared.setup.Setup.{Setup}
use Rattle.play_event.specs.declared.limit.Limit.{Limit}
use Rattle.play_event.specs.declared.limit.Limit.TheVariants as limits
use Rattle.play_event.specs.Games.{game_of}
use Rattle.play_event.specs.Streets.{limit_of, is_stud_game}
use Rattle.play_event.specs.Seats.{all_seats}

-- a stack or a bet size: at least one chip
abbrev pub IsSize : ℕ → Type 0
IsSize chips = (1 ≤ chips) × (chips ≤ MOST_CHIPS)

-- a bet size of at least one chip if the game uses it, and otherwise 0
abbrev pub IsSizeWhere : Bool → ℕ → Type 0
IsSizeWhere true chips = IsSize chips
IsSizeWhere false chips = chips ≡ 0

-- the limit is fixed
abbrev pub is_fixed_limit : Limit → Bool
is_fixed_limit limits.Fixed = true
is_fixed_limit limits.Pot = false
is_fixed_limit limits.No = false

-- some seat posts an ante
abbrev pub has_antes : Setup → Bool
has_antes setup = list_any (λ seat. nat_lt 0 (amount_of setup.antes seat)) (all_seats setup)

-- a setup is that of a hand; a row has at least two seats by its type
pub record IsValid (setup : Setup) : Type 0 where
  pub same_antes : setup.antes.seats ≡ setup.stacks.seats
  pub same_blinds : setup.blinds.seats ≡ setup.stacks.seats
  pub few_seats : setup.stacks.seats ≤ (game_of setup.code).seats
  pub stacks : (seat : ℕ) → 1 ≤ seat → seat ≤ setup.stacks.seats
      → IsSize (amount_of setup.stacks seat)
  pub antes : (seat : ℕ) → amount_of setup.antes seat ≤ amount_of setup.stacks seat
  pub blinds : (seat : ℕ) → amount_of setup.blinds seat ≤ MOST_CHIPS
  pub bring_in : IsSizeWhere (is_stud_game setup.code) setup.bring_in
  pub small_bet : IsSizeWhere (is_fixed_limit (limit_of setup.code)) setup.small_bet
  pub big_bet : IsSizeWhere (is_fixed_limit (limit_of setup.code)) setup.big_bet
  pub least_bet : IsSizeWhere (not (is_fixed_limit (limit_of setup.code))) setup.min_bet
  pub dead_antes : setup.dead_antes ≡ true → has_antes setup ≡ true
  pub heads_up : setup.stacks.seats ≡ 2 → amount_of setup.blinds 2 ≤ amount_of setup.blinds 1
  pub stud : is_stud_game setup.code ≡ true → (seat : ℕ) → amount_of setup.blinds seat ≡ 0
  pub rakes : (pot : ℕ) → rake_of setup.rakes pot ≤ MOST_AMOUNT
