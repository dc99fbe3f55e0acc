-- What a game file says: the game that its entries make, or the first fault. A file is checked in
-- three steps: first its lines one by one, then whether anything is missing, and then whether
-- handref supports its game.
use Rattle.std.specs.Prelude.{ℕ, ◌+◌, ◌==◌, Bool, false, not, nat_lt, nat_le, max, ◌&&◌, ◌||◌, if◌then◌else◌, List, [], ◌∷◌, length, replicate, slice_index, Option, Result, Ok, Err}
use Rattle.std.specs.List.{list_all}
use Rattle.std.specs.Option.{option_map, option_map_or}
use Rattle.chip_ledger.specs.Greatest.{greatest}
use Rattle.first_fault.specs.Reading.{◌>>=◌}
use Rattle.acpc_game.specs.declared.fault.AcpcFault.{AcpcFault}
use Rattle.acpc_game.specs.declared.fault.AcpcFault.TheVariants as faults
use Rattle.acpc_game.specs.declared.key.GameKey.{GameKey}
use Rattle.acpc_game.specs.declared.key.GameKey.TheVariants as keys
use Rattle.acpc_game.specs.Keys.{or_else}
use Rattle.first_fault.specs.Numbers.{saturated}
use Rattle.first_fault.specs.Conditions.{first_where}
use Rattle.acpc_game.specs.GameEntries.{EntrySaid, entries_said, entry_under, has_key, has_no_limit, line_at, malformed_line, number_at, numbers_at}

-- ---- whether anything is missing

-- the keys that every game file has
abbrev pub required_keys : List GameKey
required_keys =
    keys.Begin ∷ keys.Limit ∷ keys.NumPlayers ∷ keys.NumRounds ∷ keys.Blind ∷ keys.FirstPlayer
    ∷ keys.NumSuits ∷ keys.NumRanks ∷ keys.NumHoleCards ∷ keys.NumBoardCards ∷ keys.End ∷ []

-- a key has one number for each player
abbrev pub has_one_for_each_player : GameKey → List EntrySaid → Bool
has_one_for_each_player key entries =
    length (numbers_at key entries) == number_at keys.NumPlayers entries

-- nothing is missing: a no-limit game needs stacks, a limit game needs raise sizes and may have
-- stacks
unfoldable pub is_complete : List EntrySaid → Bool
is_complete entries =
    list_all (λ key. has_key key entries) required_keys
    && (has_key (if has_no_limit entries then keys.Stack else keys.RaiseSize) entries
    && (has_one_for_each_player keys.Blind entries
    && (not (has_key keys.Stack entries) || has_one_for_each_player keys.Stack entries)))

-- the line that a fault of the whole file names, in a file of `count` lines: the line of END
-- GAMEDEF or, without one, the last line; 1 in an empty file
abbrev pub line_of_end : ℕ → List EntrySaid → ℕ
line_of_end count entries =
    option_map_or (λ entry. entry.line) (entry_under keys.End entries) (max 1 count)

-- ---- which games handref supports

-- the stack of each player if the file says none, in chips
abbrev pub default_stack : ℕ
default_stack = 2147483647

-- the stacks of the players: those of the file, or the default one for each
abbrev pub stacks_at : List EntrySaid → List ℕ
stacks_at entries =
    if has_key keys.Stack entries
    then numbers_at keys.Stack entries
    else replicate (length (numbers_at keys.Blind entries)) default_stack

-- a key has these four numbers, one for each round
abbrev pub are_four : ℕ → ℕ → ℕ → ℕ → List ℕ → Bool
are_four first second third fourth (w ∷ x ∷ y ∷ z ∷ []) =
    (w == first && x == second) && (y == third && z == fourth)
are_four first second third fourth _ = false

-- some stack is 0, or below its blind
abbrev pub has_short_stack : List ℕ → List ℕ → Bool
has_short_stack [] blinds = false
has_short_stack (stack ∷ stacks) [] = false
has_short_stack (stack ∷ stacks) (blind ∷ blinds) =
    (stack == 0 || nat_lt stack blind) || has_short_stack stacks blinds

-- there are two players, and the second blind is greater than the first
abbrev pub is_reversed : List ℕ → Bool
is_reversed (first ∷ second ∷ []) = nat_lt first second
is_reversed _ = false

-- the last seat (from 1) whose blind is this number, or 0
abbrev pub last_seat_with : ℕ → List ℕ → ℕ
last_seat_with number [] = 0
last_seat_with number (blind ∷ rest) =
    if nat_lt 0 (last_seat_with number rest)
    then last_seat_with number rest + 1
    else if blind == number
    then 1
    else 0

-- the seat that acts first in the first round: the one after the last of the greatest blinds;
-- heads-up, seat 2
abbrev pub first_player : List ℕ → ℕ
first_player blinds =
    if length blinds == 2 then 2
    else if last_seat_with (greatest blinds) blinds == length blinds then 1
    else last_seat_with (greatest blinds) blinds + 1

-- raise sizes of a limit game: a small bet in the first two rounds, a big bet in the last two
abbrev pub are_sizes : List ℕ → Bool
are_sizes (preflop ∷ flop ∷ turn ∷ river ∷ []) =
    (nat_le 1 preflop && preflop == flop) && (nat_le 1 turn && turn == river)
are_sizes _ = false

-- the blinds, seat 1 first
abbrev pub blinds_at : List EntrySaid → List ℕ
blinds_at entries = numbers_at keys.Blind entries

-- the greatest blind
abbrev pub greatest_blind : List EntrySaid → ℕ
greatest_blind entries = greatest (blinds_at entries)

-- Numbers of players, rounds and cards that are not those of Texas hold'em for 2 to 10 players. If
-- a test holds, handref does not support the game, and the key beside the test is reported.
abbrev pub unsupported_counts : List EntrySaid → List (Bool × GameKey)
unsupported_counts entries = (
  not
      (nat_le 2 (number_at keys.NumPlayers entries)
      && nat_le (number_at keys.NumPlayers entries) 10),
  keys.NumPlayers,
)
    ∷ (not (number_at keys.NumRounds entries == 4), keys.NumRounds)
    ∷ (not (number_at keys.NumSuits entries == 4), keys.NumSuits)
    ∷ (not (number_at keys.NumRanks entries == 13), keys.NumRanks)
    ∷ (not (number_at keys.NumHoleCards entries == 2), keys.NumHoleCards)
    ∷ (not (are_four 0 3 1 1 (numbers_at keys.NumBoardCards entries)), keys.NumBoardCards)
    ∷ []

-- the same for the bets: reversed blinds, another first player, no blind in a no-limit game, wrong
-- raise sizes, and a greatest blind below the small bet of a limit game
abbrev pub unsupported_bets : List EntrySaid → List (Bool × GameKey)
unsupported_bets entries =
    (is_reversed (blinds_at entries), keys.Blind)
    ∷ (
      not
          (are_four (first_player (blinds_at entries)) 1 1 1 (numbers_at keys.FirstPlayer entries)),
      keys.FirstPlayer,
    )
    ∷ (has_no_limit entries && greatest_blind entries == 0, keys.Blind)
    ∷ (
      not (has_no_limit entries) && not (are_sizes (numbers_at keys.RaiseSize entries)),
      keys.RaiseSize,
    )
    ∷ (
      not (has_no_limit entries)
          && (nat_lt 0 (greatest_blind entries)
          && nat_lt (greatest_blind entries) (slice_index (numbers_at keys.RaiseSize entries) 0)),
      keys.RaiseSize,
    )
    ∷ []

-- the same for all chips, stacks first
abbrev pub unsupported_chips : List EntrySaid → List (Bool × GameKey)
unsupported_chips entries = (
  has_short_stack (stacks_at entries) (blinds_at entries),
  if has_key keys.Stack entries then keys.Stack else keys.Blind,
)
    ∷ unsupported_bets entries

-- the first key that shows that handref does not support the game, if any
unfoldable pub first_unsupported : List EntrySaid → Option GameKey
first_unsupported entries =
    or_else (first_where (unsupported_counts entries)) (first_where (unsupported_chips entries))

-- ---- the game

-- a game with its numbers as lists
pub record GameSaid : Type 0 where
  pub no_limit : Bool
  pub stacks : List ℕ
  pub blinds : List ℕ
  pub small_raise : ℕ
  pub big_raise : ℕ
  pub caps : Option (List ℕ)

-- the raise size of a round (from 0) in a limit game; 0 in a no-limit game
abbrev pub raise_size_at : ℕ → List EntrySaid → ℕ
raise_size_at round entries =
    if has_no_limit entries then 0 else slice_index (numbers_at keys.RaiseSize entries) round

-- the game that the entries of a complete file say
abbrev pub game_of_entries : List EntrySaid → GameSaid
game_of_entries entries = record {
  no_limit = has_no_limit entries;
  stacks = stacks_at entries;
  blinds = blinds_at entries;
  small_raise = raise_size_at 0 entries;
  big_raise = raise_size_at 2 entries;
  caps = option_map (λ entry. entry.numbers) (entry_under keys.MaxRaises entries);
}

-- the game that the entries of a file of `count` lines make, or what is wrong with the whole file
unfoldable pub game_or_fault : ℕ → List EntrySaid → Result GameSaid AcpcFault
game_or_fault count entries =
    if is_complete entries
    then option_map_or (λ key. Err (faults.UnsupportedGame (saturated (line_at key entries)) 1))
    (first_unsupported entries) (Ok (game_of_entries entries))
    else malformed_line (line_of_end count entries)

-- what the bytes of a game file say: one game, or the first fault
unfoldable pub game_said : List ℕ → Result GameSaid AcpcFault
game_said bytes = entries_said bytes >>= λ read. game_or_fault read.1 read.0
