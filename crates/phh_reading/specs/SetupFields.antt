-- The setup in the fields of a hand, read in this order.
use Rattle.std.specs.Prelude.{ℕ, Bool, false, ◌&&◌, not, nat_lt, bytes_eq, if◌then◌else◌, List, length, replicate, Option, find, Result, Ok}
use Rattle.std.specs.List.{list_any}
use Rattle.std.specs.Option.{option_map_or}
use Rattle.toml.specs.Data.{Data, Members}
use Rattle.chip_ledger.specs.declared.numbers.TheConstants.{MOST_CHIPS}
use Rattle.play_event.specs.declared.code.Code.{Code}
use Rattle.play_event.specs.Code.{code_text}
use Rattle.play_event.specs.Games.{game_of, all_games}
use Rattle.play_event.specs.Streets.{limit_of, is_stud_game}
use Rattle.play_event.specs.ValidSetup.{is_fixed_limit}
use Rattle.first_fault.specs.Reading.{◌>>=◌, read_if}
use Rattle.hand_canon.specs.declared.sizes.Sizes.{Sizes}
use Rattle.hand_canon.specs.PlainHands.{PlainSetup}
use Rattle.phh_reading.specs.declared.field_fault.FieldKey.{FieldKey}
use Rattle.phh_reading.specs.declared.field_fault.FieldKey.TheVariants as keys
use Rattle.phh_reading.specs.declared.field_fault.FieldFaultKind.TheVariants as whats
use Rattle.phh_reading.specs.declared.field_fault.FieldFault.{FieldFault}
use Rattle.phh_reading.specs.Fields.{key_place, or_wrong, field_value, required_value, text_said, flag_said, amount_said}
use Rattle.phh_reading.specs.Rows.{row_said, stacks_said, antes_said, heads_up_swapped}

-- the game with this code, if it is one of the eleven
unfoldable pub game_named : List ℕ → Option Code
game_named text = find (λ code. bytes_eq text (code_text code)) all_games

-- the variant
unfoldable pub variant_said : Data → Result Code FieldFault
variant_said value =
    text_said (key_place keys.Variant) value
    >>= λ text. or_wrong whats.UnknownVariant (key_place keys.Variant) (game_named text)

-- the fields say that antes are trimmed, which means that they are not dead
unfoldable pub trimming_said : Members → Result Bool FieldFault
trimming_said members =
    read_if (flag_said (key_place keys.AnteTrimmingStatus))
    (field_value keys.AnteTrimmingStatus members)
    >>= λ said. Ok (option_map_or (λ trimmed. trimmed) said false)

-- antes are dead if they are not trimmed and some seat posts one
abbrev pub are_dead : Bool → List ℕ → Bool
are_dead trimmed antes = not trimmed && list_any (λ ante. nat_lt 0 ante) antes

-- the blinds; stud has none
unfoldable pub blinds_said : Code → ℕ → Members → Result (List ℕ) FieldFault
blinds_said code seats members =
    if is_stud_game code then Ok (replicate seats 0)
    else (required_value keys.BlindsOrStraddles members
    >>= row_said seats MOST_CHIPS keys.BlindsOrStraddles
    >>= λ blinds. Ok (heads_up_swapped blinds))

-- a bet size, if the game uses it, else 0
unfoldable pub size_said : Bool → FieldKey → Members → Result ℕ FieldFault
size_said used key members =
    if used then (required_value key members >>= amount_said 1 MOST_CHIPS (key_place key)) else Ok 0

-- the bring-in of stud, the bets of fixed limit, and the least bet of the other limits
unfoldable pub sizes_said : Code → Members → Result Sizes FieldFault
sizes_said code members = do
  bring_in ← size_said (is_stud_game code) keys.BringIn members
  small_bet ← size_said (is_fixed_limit (limit_of code)) keys.SmallBet members
  big_bet ← size_said (is_fixed_limit (limit_of code)) keys.BigBet members
  min_bet ← size_said (not (is_fixed_limit (limit_of code))) keys.MinBet members
  Ok (record { bring_in = bring_in; small_bet = small_bet; big_bet = big_bet; min_bet = min_bet })

-- the setup
unfoldable pub setup_said : Members → Result PlainSetup FieldFault
setup_said members = do
  code ← required_value keys.Variant members >>= variant_said
  stacks ← required_value keys.StartingStacks members >>= stacks_said (game_of code).seats
  antes ← required_value keys.Antes members >>= antes_said stacks
  trimmed ← trimming_said members
  blinds ← blinds_said code (length stacks) members
  sizes ← sizes_said code members
  Ok
      (record {
        code = code;
        stacks = stacks;
        antes = antes;
        dead_antes = are_dead trimmed antes;
        blinds = blinds;
        sizes = sizes;
      })
