-- What holds of the entries of a game that handref supports.
use Rattle.std.specs.Prelude.{◌≡◌, ◌==◌, true, false, not, nat_lt, nat_le, ◌&&◌, List, slice_index}
use Rattle.chip_ledger.specs.Greatest.{greatest}
use Rattle.acpc_game.specs.declared.key.GameKey.TheVariants as keys
use Rattle.acpc_game.specs.GameFile.{stacks_at, has_short_stack, is_reversed, are_sizes}
use Rattle.acpc_game.specs.GameEntries.{EntrySaid, number_at, numbers_at, has_no_limit}

-- the players, stacks, blinds, raises and raise sizes are those of a hand that can be played
pub record IsPlayable (entries : List EntrySaid) : Type 0 where
  pub players :
      nat_le 2 (number_at keys.NumPlayers entries) && nat_le (number_at keys.NumPlayers entries) 10
      ≡ true
  pub stacked : has_short_stack (stacks_at entries) (numbers_at keys.Blind entries) ≡ false
  pub in_order : is_reversed (numbers_at keys.Blind entries) ≡ false
  pub blind : has_no_limit entries && greatest (numbers_at keys.Blind entries) == 0 ≡ false
  pub sizes :
      not (has_no_limit entries) && not (are_sizes (numbers_at keys.RaiseSize entries)) ≡ false
  pub first_size :
      not (has_no_limit entries)
      && (nat_lt 0 (greatest (numbers_at keys.Blind entries))
      && nat_lt (greatest (numbers_at keys.Blind entries))
      (slice_index (numbers_at keys.RaiseSize entries) 0))
      ≡ false
