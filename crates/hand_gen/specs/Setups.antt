-- The setups of made hands: the games take turns, and seats and stacks are drawn.
use Rattle.std.specs.Prelude.{◌≡◌, ℕ, ◌+◌, ◌%◌, ◌≤◌, ◌==◌, false, if◌then◌else◌, length, slice_index_or}
use Rattle.chip_ledger.specs.RakeRow.{rake_of}
use Rattle.chip_ledger.specs.SeatRow.{amount_of}
use Rattle.play_event.specs.declared.code.Code.{Code}
use Rattle.play_event.specs.declared.code.Code.TheVariants as games
use Rattle.play_event.specs.declared.setup.Setup.{Setup}
use Rattle.play_event.specs.Streets.{is_stud_game, limit_of}
use Rattle.play_event.specs.ValidSetup.{is_fixed_limit}
use Rattle.hand_gen.specs.Draws.{choice_among, number_after}
use Rattle.play_event.specs.Games.{all_games}

-- the game of a hand, by its place among the hands, from 0
abbrev pub game_at : ℕ → Code
game_at place = slice_index_or all_games (place % length all_games) games.FT

-- the number of seats that is drawn after a number
abbrev pub seats_drawn : ℕ → ℕ
seats_drawn number = 2 + choice_among 3 (number_after 1 number)

-- the stack of a seat is drawn after the number of seats and the stacks before it
abbrev pub stack_drawn : ℕ → ℕ → ℕ
stack_drawn number seat = 100 + choice_among 401 (number_after (1 + seat) number)

-- chips that a stud game has, and no other game
abbrev pub in_stud : Code → ℕ → ℕ
in_stud code chips = if is_stud_game code then chips else 0

-- chips that are used in fixed limit only
abbrev pub in_fixed : Code → ℕ → ℕ
in_fixed code chips = if is_fixed_limit (limit_of code) then chips else 0

-- chips that are used in no limit and pot limit only
abbrev pub in_other : Code → ℕ → ℕ
in_other code chips = if is_fixed_limit (limit_of code) then 0 else chips

-- the blinds are 1 for p1 and 2 for p2; heads-up it is the other way round
abbrev pub blind_of : ℕ → ℕ → ℕ
blind_of seats seat =
    if seat == 1 then (if seats == 2 then 2 else 1)
    else if seat == 2 then (if seats == 2 then 1 else 2)
    else 0

-- the blind of a seat in a game
abbrev pub blind_in : Code → ℕ → ℕ → ℕ
blind_in code seats seat = if is_stud_game code then 0 else blind_of seats seat

-- The setup of the hand at a place, where the generator has come to a number. Stud has antes of 1
-- and a bring-in of 1; the small bet is 2, the big bet 4, and the minimum bet 2. Antes are not
-- dead, and no pot has a rake.
pub record IsMadeSetup (place number : ℕ) (setup : Setup) : Type 0 where
  pub code : setup.code ≡ game_at place
  pub seats : setup.stacks.seats ≡ seats_drawn number
  pub same_antes : setup.antes.seats ≡ setup.stacks.seats
  pub same_blinds : setup.blinds.seats ≡ setup.stacks.seats
  pub stacks : (seat : ℕ) → 1 ≤ seat → seat ≤ setup.stacks.seats
      → amount_of setup.stacks seat ≡ stack_drawn number seat
  pub antes : (seat : ℕ) → 1 ≤ seat → seat ≤ setup.stacks.seats
      → amount_of setup.antes seat ≡ in_stud setup.code 1
  pub blinds : (seat : ℕ) → 1 ≤ seat → seat ≤ setup.stacks.seats
      → amount_of setup.blinds seat ≡ blind_in setup.code setup.stacks.seats seat
  pub dead_antes : setup.dead_antes ≡ false
  pub bring_in : setup.bring_in ≡ in_stud setup.code 1
  pub small_bet : setup.small_bet ≡ in_fixed setup.code 2
  pub big_bet : setup.big_bet ≡ in_fixed setup.code 4
  pub least_bet : setup.min_bet ≡ in_other setup.code 2
  pub rakes : (pot : ℕ) → rake_of setup.rakes pot ≡ 0

-- the generator's number after a setup
abbrev pub number_behind_setup : ℕ → Setup → ℕ
number_behind_setup number setup = number_after (1 + setup.stacks.seats) number
