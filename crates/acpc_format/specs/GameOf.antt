-- The game that a hand fits: its stacks, blinds and bet sizes, without caps.
use Rattle.std.specs.Prelude.{◌≡◌, ◌==◌, ◌||◌, Bool, true, false, not, nat_lt, nat_le, if◌then◌else◌, Option, Some, None, Result, Ok, Err}
use Rattle.std.specs.List.{list_any}
use Rattle.std.specs.Option.{option_map_or}
use Rattle.play_event.specs.declared.code.Code.{Code}
use Rattle.play_event.specs.declared.code.Code.TheVariants as codes
use Rattle.play_event.specs.declared.setup.Setup.{Setup}
use Rattle.hand_canon.specs.declared.writing.Unspelled.{Unspelled}
use Rattle.hand_canon.specs.declared.writing.Unspelled.TheVariants as facts
use Rattle.acpc_game.specs.GameFile.{GameSaid, has_short_stack, is_reversed}
use Rattle.acpc_game.specs.Games.{are_chips, has_fitting_sizes}
use Rattle.chip_ledger.specs.SeatRow.{amounts_in}
use Rattle.chip_ledger.specs.Greatest.{greatest}

-- whether hold'em with this code is no-limit; other variants have no logs
abbrev pub no_limit_of : Code → Option Bool
no_limit_of codes.NT = Some true
no_limit_of codes.FT = Some false
no_limit_of _ = None

-- the bet sizes fit the greatest blind: in no-limit the least bet is that blind; in limit the small
-- bet is not above it, if there is a blind
abbrev pub is_sized_by_blind : Bool → Setup → Bool
is_sized_by_blind no_limit setup =
    if no_limit then setup.min_bet == greatest (amounts_in setup.blinds)
    else greatest (amounts_in setup.blinds) == 0
    || nat_le setup.small_bet (greatest (amounts_in setup.blinds))

-- the game with these stacks, blinds and bet sizes
abbrev pub game_with : Bool → Setup → GameSaid
game_with no_limit setup = record {
  no_limit = no_limit;
  stacks = amounts_in setup.stacks;
  blinds = amounts_in setup.blinds;
  small_raise = setup.small_bet;
  big_raise = setup.big_bet;
  caps = None;
}

-- the game of limit or no-limit hold'em, or the first fact that no such game has
abbrev pub game_by_limit : Setup → Bool → Result GameSaid Unspelled
game_by_limit setup no_limit =
    if has_short_stack (amounts_in setup.stacks) (amounts_in setup.blinds) then Err facts.Stacks
    else if not (is_sized_by_blind no_limit setup) then Err facts.BetSizes
    else if list_any (nat_lt 0) (amounts_in setup.antes) then Err facts.Antes
    else Ok (game_with no_limit setup)

-- the game that a hand with this setup fits, or the first fact that no game has
unfoldable pub game_for : Setup → Result GameSaid Unspelled
game_for setup = option_map_or (game_by_limit setup) (no_limit_of setup.code) (Err facts.Variant)

-- the stacks, blinds and bet sizes of a setup are those of a game
pub record MakesGame (no_limit : Bool) (setup : Setup) : Type 0 where
  pub one_row : setup.blinds.seats ≡ setup.stacks.seats
  pub few : are_chips (amounts_in setup.stacks) ≡ true
  pub few_blinds : are_chips (amounts_in setup.blinds) ≡ true
  pub stacked : has_short_stack (amounts_in setup.stacks) (amounts_in setup.blinds) ≡ false
  pub in_order : is_reversed (amounts_in setup.blinds) ≡ false
  pub sizes :
      has_fitting_sizes no_limit (greatest (amounts_in setup.blinds)) setup.small_bet setup.big_bet
      ≡ true
