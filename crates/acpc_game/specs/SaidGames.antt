-- Which games a game file can say; a game has its numbers as lists here.
use Rattle.std.specs.Prelude.{◌≡◌, ℕ, ◌≤◌, ◌==◌, Bool, true, nat_le, ◌&&◌, List, length, IfSome, false}
use Rattle.std.specs.List.{list_all}
use Rattle.chip_ledger.specs.Greatest.{greatest}
use Rattle.acpc_game.specs.GameFile.{GameSaid, has_short_stack, is_reversed}
use Rattle.acpc_game.specs.Games.{are_chips, has_fitting_sizes}

-- the caps on raises are four numbers of 32 bits
abbrev pub are_caps : List ℕ → Bool
are_caps caps = length caps == 4 && list_all (λ cap. nat_le cap 4294967295) caps

-- The numbers are those of a game that handref supports: 2 to 10 seats, as many blinds as stacks,
-- amounts within the limit, no stack that is 0 or below its blind, with two seats no second blind
-- above the first, raise sizes that fit, and either no caps or one for each of the four rounds.
pub record IsGame (game : GameSaid) : Type 0 where
  pub least : 2 ≤ length game.stacks
  pub most : length game.stacks ≤ 10
  pub one_row : length game.blinds ≡ length game.stacks
  pub few : are_chips game.stacks ≡ true
  pub few_blinds : are_chips game.blinds ≡ true
  pub stacked : has_short_stack game.stacks game.blinds ≡ false
  pub in_order : is_reversed game.blinds ≡ false
  pub sizes : has_fitting_sizes game.no_limit (greatest game.blinds) game.small_raise game.big_raise
      ≡ true
  pub caps : IfSome game.caps (λ caps. are_caps caps ≡ true)
