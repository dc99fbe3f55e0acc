-- The keys of a game file, and how many numbers follow each.
use Rattle.std.specs.Prelude.{ℕ, ◌==◌, Bool, nat_lt, bytes_eq, if◌then◌else◌, List, map, codes, Option, Some, None}
use Rattle.std.specs.Char.{to_ascii_lowercase}
use Rattle.chip_ledger.specs.declared.numbers.TheConstants.{MOST_CHIPS}
use Rattle.acpc_game.specs.declared.key.GameKey.{GameKey}
use Rattle.acpc_game.specs.declared.key.GameKey.TheVariants as keys

-- a text is this word, in any case
unfoldable pub is_word : List ℕ → List ℕ → Bool
is_word name text = bytes_eq (map to_ascii_lowercase text) (map to_ascii_lowercase name)

-- the first key if there is one, else the other
abbrev pub or_else : Option GameKey → Option GameKey → Option GameKey
or_else (Some key) other = Some key
or_else None other = other

-- the key that a word names, if it takes one number or is that of the board cards
unfoldable pub card_key_named : List ℕ → Option GameKey
card_key_named word =
    if is_word (codes "numPlayers") word then Some keys.NumPlayers
    else if is_word (codes "numRounds") word then Some keys.NumRounds
    else if is_word (codes "numSuits") word then Some keys.NumSuits
    else if is_word (codes "numRanks") word then Some keys.NumRanks
    else if is_word (codes "numHoleCards") word then Some keys.NumHoleCards
    else if is_word (codes "numBoardCards") word then Some keys.NumBoardCards
    else None

-- the key that a word names, if it is one of chips or of turns
unfoldable pub chip_key_named : List ℕ → Option GameKey
chip_key_named word =
    if is_word (codes "stack") word then Some keys.Stack
    else if is_word (codes "blind") word then Some keys.Blind
    else if is_word (codes "raiseSize") word then Some keys.RaiseSize
    else if is_word (codes "firstPlayer") word then Some keys.FirstPlayer
    else if is_word (codes "maxRaises") word then Some keys.MaxRaises
    else None

-- the key that a word names, if it takes numbers
abbrev pub key_named : List ℕ → Option GameKey
key_named word = or_else (card_key_named word) (chip_key_named word)

-- the place of a key in a written file; limit and nolimit have the same place, and so do raise
-- sizes that are used and raise sizes that are not
abbrev pub key_order : GameKey → ℕ
key_order keys.Begin = 0
key_order keys.Limit = 1
key_order keys.NoLimit = 1
key_order keys.NumPlayers = 2
key_order keys.NumRounds = 3
key_order keys.Stack = 4
key_order keys.Blind = 5
key_order keys.RaiseSize = 6
key_order keys.UnusedSizes = 6
key_order keys.FirstPlayer = 7
key_order keys.MaxRaises = 8
key_order keys.NumSuits = 9
key_order keys.NumRanks = 10
key_order keys.NumHoleCards = 11
key_order keys.NumBoardCards = 12
key_order keys.End = 13

-- the greatest number that a key takes: 32 bits for a cap, the limit of chips for any other
abbrev pub most_of : GameKey → ℕ
most_of keys.MaxRaises = 4294967295
most_of _ = MOST_CHIPS

-- a key takes `count` numbers; stacks and blinds are compared with the players later
abbrev pub takes_count : GameKey → ℕ → Bool
takes_count keys.Begin count = count == 0
takes_count keys.End count = count == 0
takes_count keys.Limit count = count == 0
takes_count keys.NoLimit count = count == 0
takes_count keys.UnusedSizes count = count == 0
takes_count keys.Stack count = nat_lt 0 count
takes_count keys.Blind count = nat_lt 0 count
takes_count keys.RaiseSize count = count == 4
takes_count keys.FirstPlayer count = count == 4
takes_count keys.MaxRaises count = count == 4
takes_count keys.NumBoardCards count = count == 4
takes_count keys.NumPlayers count = count == 1
takes_count keys.NumRounds count = count == 1
takes_count keys.NumSuits count = count == 1
takes_count keys.NumRanks count = count == 1
takes_count keys.NumHoleCards count = count == 1
