-- The entries of a game file: each line has a key and its numbers. A line is a fault if it is
-- malformed, if its key may not come there, or if a number is too great.
use Rattle.std.specs.Prelude.{ℕ, ◌+◌, ◌==◌, Bool, true, false, not, nat_lt, ◌&&◌, if◌then◌else◌, List, [], ◌∷◌, ◌++◌, length, find, slice_index, codes, Option, Some, None, Result, Ok, Err}
use Rattle.std.specs.List.{list_any}
use Rattle.std.specs.Option.{option_map_or}
use Rattle.first_fault.specs.Reading.{◌>>=◌}
use Rattle.first_fault.specs.Digits.{number_of}
use Rattle.acpc_game.specs.declared.fault.AcpcFault.{AcpcFault}
use Rattle.acpc_game.specs.declared.fault.AcpcFault.TheVariants as faults
use Rattle.acpc_game.specs.Parts.{lines_of}
use Rattle.acpc_game.specs.declared.key.GameKey.{GameKey}
use Rattle.acpc_game.specs.declared.key.GameKey.TheVariants as keys
use Rattle.acpc_game.specs.Keys.{is_word, key_order, most_of}
use Rattle.acpc_game.specs.Forms.{Form, form_of, is_passed_over}
use Rattle.first_fault.specs.Numbers.{saturated}

-- ---- line by line

-- a line with a key: the key, the line's number, and the numbers of the key
pub record EntrySaid : Type 0 where
  pub key : GameKey
  pub line : ℕ
  pub numbers : List ℕ

-- the line does not have the form that is needed there
abbrev pub malformed_line : {A : Type 0} → ℕ → Result A AcpcFault
malformed_line line = Err (faults.GameShape (saturated line) 1)

-- a number on this line is too great
abbrev pub number_too_great : {A : Type 0} → ℕ → Result A AcpcFault
number_too_great line = Err (faults.AmountLimit (saturated line) 1)

-- an entry has this key; `limit` and `nolimit` count as the same key
abbrev pub is_under_key : GameKey → EntrySaid → Bool
is_under_key key entry = key_order entry.key == key_order key

-- the entry with this key, if there is one
abbrev pub entry_under : GameKey → List EntrySaid → Option EntrySaid
entry_under key entries = find (is_under_key key) entries

-- there is an entry with this key
abbrev pub has_key : GameKey → List EntrySaid → Bool
has_key key entries = list_any (is_under_key key) entries

-- a key is allowed after these entries: GAMEDEF before all others, then each other key once, up to
-- END GAMEDEF
abbrev pub may_come_next : GameKey → List EntrySaid → Bool
may_come_next keys.Begin entries = length entries == 0
may_come_next key entries =
    nat_lt 0 (length entries) && (not (has_key keys.End entries) && not (has_key key entries))

-- the number that a word says, or a fault if it is too great for its key
unfoldable pub number_said : ℕ → ℕ → List ℕ → Result ℕ AcpcFault
number_said line most word = option_map_or Ok (number_of most word) (number_too_great line)

-- these numbers, followed by those of more words
unfoldable pub numbers_after : ℕ → ℕ → List ℕ → List (List ℕ) → Result (List ℕ) AcpcFault
numbers_after line most numbers [] = Ok numbers
numbers_after line most numbers (word ∷ words) =
    number_said line most word >>= λ number. numbers_after line most (numbers ++ number ∷ []) words

-- the entries and one more, if its key is allowed there
unfoldable pub entries_with : List EntrySaid → ℕ → Option Form → Result (List EntrySaid) AcpcFault
entries_with entries line None = malformed_line line
entries_with entries line (Some (key, words)) =
    if may_come_next key entries
    then (numbers_after line (most_of key) [] words
    >>= λ numbers.
    Ok (entries ++ (record { key = key; line = line; numbers = numbers }) ∷ []))
    else malformed_line line

-- the entries after one more line of a limit or no-limit game
unfoldable pub entries_after_line : Bool → List EntrySaid → ℕ → List ℕ
    → Result (List EntrySaid) AcpcFault
entries_after_line no_limit entries line text =
    if is_passed_over text then Ok entries else entries_with entries line (form_of no_limit text)

-- the entries after more lines, the first of which has this number
unfoldable pub entries_after : Bool → List EntrySaid → ℕ → List (List ℕ)
    → Result (List EntrySaid) AcpcFault
entries_after no_limit entries line [] = Ok entries
entries_after no_limit entries line (text ∷ texts) =
    entries_after_line no_limit entries line text
    >>= λ more. entries_after no_limit more (line + 1) texts

-- some line says that the game has no limit
abbrev pub says_no_limit : List (List ℕ) → Bool
says_no_limit lines = list_any (is_word (codes "nolimit")) lines

-- the entries of the lines of a limit or no-limit game, and the number of lines
abbrev pub entries_in : Bool → List (List ℕ) → Result (List EntrySaid × ℕ) AcpcFault
entries_in no_limit lines =
    entries_after no_limit [] 1 lines >>= λ entries. Ok (entries, length lines)

-- the entries of a file, and its number of lines
abbrev pub entries_said : List ℕ → Result (List EntrySaid × ℕ) AcpcFault
entries_said bytes = entries_in (says_no_limit (lines_of bytes)) (lines_of bytes)

-- ---- what an entry says

-- the numbers of a key; none if the file does not have the key
abbrev pub numbers_at : GameKey → List EntrySaid → List ℕ
numbers_at key entries = option_map_or (λ entry. entry.numbers) (entry_under key entries) []

-- the one number of a key
abbrev pub number_at : GameKey → List EntrySaid → ℕ
number_at key entries = slice_index (numbers_at key entries) 0

-- the line on which a key is, or 0
abbrev pub line_at : GameKey → List EntrySaid → ℕ
line_at key entries = option_map_or (λ entry. entry.line) (entry_under key entries) 0

-- a key says that the game has no limit
abbrev pub is_no_limit : GameKey → Bool
is_no_limit keys.NoLimit = true
is_no_limit _ = false

-- the game has no limit
abbrev pub has_no_limit : List EntrySaid → Bool
has_no_limit entries =
    option_map_or (λ entry. is_no_limit entry.key) (entry_under keys.Limit entries) false
