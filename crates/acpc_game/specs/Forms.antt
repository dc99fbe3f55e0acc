-- The form of a line of a game file: a key alone, or a key, =, and numbers separated by spaces.
use Rattle.std.specs.Prelude.{ℕ, ◌-◌, ◌==◌, Bool, true, false, nat_lt, ◌||◌, bytes_eq, if◌then◌else◌, List, [], ◌∷◌, length, slice_index, codes, Option, Some, None, option_and_then}
use Rattle.std.specs.List.{list_all}
use Rattle.first_fault.specs.Digits.{are_digits}
use Rattle.acpc_game.specs.Parts.{parts_of}
use Rattle.acpc_game.specs.declared.key.GameKey.{GameKey}
use Rattle.acpc_game.specs.declared.key.GameKey.TheVariants as keys
use Rattle.acpc_game.specs.Keys.{is_word, key_named, takes_count}
use Rattle.first_fault.specs.Words.{is_space, words_of}

-- a line is ignored: it is empty or begins with #
abbrev pub is_passed_over : List ℕ → Bool
is_passed_over line = length line == 0 || slice_index line 0 == 35

-- a key, and the words of its numbers
abbrev pub Form : Type 0
Form = GameKey × List (List ℕ)

-- the key that one word names
abbrev pub only_key : List (List ℕ) → Option GameKey
only_key (word ∷ []) = key_named word
only_key words = None

-- the key before the =; spaces may follow it, but not precede it
unfoldable pub key_before : List ℕ → Option GameKey
key_before front = if is_space (slice_index front 0) then None else only_key (words_of front)

-- a key gives the raise sizes of a no-limit game, which are not used
abbrev pub is_unused : Bool → GameKey → Bool
is_unused true keys.RaiseSize = true
is_unused _ _ = false

-- a key with its numbers, if the key takes this number of them; raise sizes of a no-limit game are
-- ignored, whatever their number
unfoldable pub form_with : Bool → GameKey → List (List ℕ) → Option Form
form_with no_limit key words =
    if is_unused no_limit key
    then (if nat_lt 0 (length words) then Some (keys.UnusedSizes, []) else None)
    else if takes_count key (length words) then Some (key, words)
    else None

-- the numbers after the =; spaces may precede them, but not follow them
unfoldable pub numbers_behind : Bool → GameKey → List ℕ → Option Form
numbers_behind no_limit key behind =
    if is_space (slice_index behind (length behind - 1)) then None
    else if list_all are_digits (words_of behind) then form_with no_limit key (words_of behind)
    else None

-- a line of the form: key, =, numbers
abbrev pub key_and_numbers : Bool → List (List ℕ) → Option Form
key_and_numbers no_limit (front ∷ behind ∷ []) =
    option_and_then (λ key. numbers_behind no_limit key behind) (key_before front)
key_and_numbers no_limit parts = None

-- the form of a line of a no-limit or a limit game, if it has one
unfoldable pub form_of : Bool → List ℕ → Option Form
form_of no_limit line =
    if bytes_eq line (codes "GAMEDEF") then Some (keys.Begin, [])
    else if bytes_eq line (codes "END GAMEDEF") then Some (keys.End, [])
    else if is_word (codes "limit") line then Some (keys.Limit, [])
    else if is_word (codes "nolimit") line then Some (keys.NoLimit, [])
    else key_and_numbers no_limit (parts_of 61 line)
