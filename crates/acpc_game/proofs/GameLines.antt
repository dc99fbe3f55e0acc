-- A written game is lines, and each of them reads as its key and its numbers.
use Rattle.std.proofs.Common.{◌≡◌, ℕ, ◌+◌, ◌≤◌, ◌<◌, Bool, true, false, ◌&&◌, ◌||◌, ◌==◌, nat_le, nat_lt, eqb, codes, if◌then◌else◌, List, [], ◌∷◌, ◌++◌, length, Option, Some, None, IfSome, refl, sym, ap, ap₂, ◌∙◌, arith, ne_eqb}
use Rattle.std.specs.Fmt.{digits}
use Rattle.std.specs.List.{AllByRecursion}
use Rattle.std.proofs.lemmas.Bool.{and_parts, eqb-true, le-leb, lt-ltb}
use Rattle.std.proofs.lemmas.Grind.{flat_map-append}
use Rattle.std.proofs.lemmas.List.{append-nil}
use Rattle.chip_ledger.specs.Greatest.{greatest}
use Rattle.chip_ledger.specs.declared.numbers.TheConstants.{MOST_CHIPS}
use Rattle.acpc_game.specs.declared.key.GameKey.{GameKey}
use Rattle.acpc_game.specs.declared.key.GameKey.TheVariants as keys
use Rattle.acpc_game.specs.Forms.{form_of, is_passed_over, is_unused, key_before}
use Rattle.acpc_game.specs.GameFile.{GameSaid, first_player, last_seat_with}
use Rattle.acpc_game.specs.Games.{are_chips, has_fitting_sizes}
use Rattle.acpc_game.specs.GameText.{caps_text, chips_text, counts_text, ended, first_text, game_text, key_line, kind_text, seat_lines, sizes_text, turns_text}
use Rattle.acpc_game.specs.Keys.{card_key_named, chip_key_named, is_word, most_of, takes_count}
use Rattle.acpc_game.specs.SaidGames.{IsGame, are_caps}
use Rattle.acpc_game.proofs.NumbersAgain.{are_within}
use Rattle.card_set.proofs.Tests.{both_true}
use Rattle.acpc_game.proofs.WrittenLines.{Names, Reads, WrittenLine, number_line, number_reads, text_of}

-- ---- the lines of a game

-- a line with only a key
abbrev key_alone : List ℕ → GameKey → WrittenLine
key_alone text key = record { text = text; key = key; numbers = [] }

abbrev kind_line : Bool → WrittenLine
kind_line true = key_alone (codes "nolimit") keys.NoLimit
kind_line false = key_alone (codes "limit") keys.Limit

abbrev count_lines : ℕ → List WrittenLine
count_lines players = number_line (codes "numPlayers") keys.NumPlayers (players ∷ []) ∷ number_line (codes "numRounds") keys.NumRounds (4 ∷ []) ∷ []

abbrev row_lines : List ℕ → List ℕ → List WrittenLine
row_lines stacks blinds = number_line (codes "stack") keys.Stack stacks ∷ number_line (codes "blind") keys.Blind blinds ∷ []

abbrev size_lines : Bool → ℕ → ℕ → List WrittenLine
size_lines true small big = []
size_lines false small big = number_line (codes "raiseSize") keys.RaiseSize (small ∷ small ∷ big ∷ big ∷ []) ∷ []

abbrev first_lines : List ℕ → List WrittenLine
first_lines blinds = number_line (codes "firstPlayer") keys.FirstPlayer (first_player blinds ∷ 1 ∷ 1 ∷ 1 ∷ []) ∷ []

abbrev cap_lines : Option (List ℕ) → List WrittenLine
cap_lines None = []
cap_lines (Some caps) = number_line (codes "maxRaises") keys.MaxRaises caps ∷ []

abbrev card_lines : List WrittenLine
card_lines =
    number_line (codes "numSuits") keys.NumSuits (4 ∷ []) ∷ number_line (codes "numRanks") keys.NumRanks (13 ∷ [])
    ∷ number_line (codes "numHoleCards") keys.NumHoleCards (2 ∷ []) ∷ number_line (codes "numBoardCards") keys.NumBoardCards (0 ∷ 3 ∷ 1 ∷ 1 ∷ []) ∷ []

-- the lines of a written game
abbrev pub game_lines : GameSaid → List WrittenLine
game_lines game =
    (key_alone (codes "GAMEDEF") keys.Begin ∷ [])
    ++ (((kind_line game.no_limit ∷ []) ++ (count_lines (length game.stacks) ++ row_lines game.stacks game.blinds))
    ++ (size_lines game.no_limit game.small_raise game.big_raise
    ++ ((first_lines game.blinds ++ cap_lines game.caps) ++ (card_lines ++ (key_alone (codes "END GAMEDEF") keys.End ∷ [])))))

-- ---- their text

both_texts : (a b : List WrittenLine) (x y : List ℕ) → x ≡ text_of a → y ≡ text_of b → x ++ y ≡ text_of (a ++ b)
both_texts a b x y one other = ap₂ (λ (l r : List ℕ). l ++ r) one other ∙ sym (flat_map-append (λ line. ended line.text) a b)

one_text : (line : WrittenLine) → ended line.text ≡ text_of (line ∷ [])
one_text line = sym (append-nil (ended line.text))

two_texts : (one two : WrittenLine) → ended one.text ++ ended two.text ≡ text_of (one ∷ two ∷ [])
two_texts one two = ap (λ (l : List ℕ). ended one.text ++ l) (one_text two)

kind_is : (no_limit : Bool) → kind_text no_limit ≡ text_of (kind_line no_limit ∷ [])
unfolding kind_text
kind_is true = refl
kind_is false = refl

counts_are : (players : ℕ) → counts_text players ≡ text_of (count_lines players)
unfolding counts_text key_line
counts_are players = two_texts (number_line (codes "numPlayers") keys.NumPlayers (players ∷ [])) (number_line (codes "numRounds") keys.NumRounds (4 ∷ []))

rows_are : (stacks blinds : List ℕ) → seat_lines stacks blinds ≡ text_of (row_lines stacks blinds)
unfolding seat_lines key_line
rows_are stacks blinds = two_texts (number_line (codes "stack") keys.Stack stacks) (number_line (codes "blind") keys.Blind blinds)

chips_are : (game : GameSaid) → chips_text game ≡ text_of ((kind_line game.no_limit ∷ []) ++ (count_lines (length game.stacks) ++ row_lines game.stacks game.blinds))
unfolding chips_text
chips_are game =
    let players = length game.stacks in
    both_texts (kind_line game.no_limit ∷ []) (count_lines players ++ row_lines game.stacks game.blinds) (kind_text game.no_limit) (counts_text players ++ seat_lines game.stacks game.blinds) (kind_is game.no_limit)
    (both_texts (count_lines players) (row_lines game.stacks game.blinds) (counts_text players) (seat_lines game.stacks game.blinds) (counts_are players) (rows_are game.stacks game.blinds))

sizes_by : (no_limit : Bool) (small big : ℕ) → (if no_limit then [] else key_line (codes "raiseSize") (small ∷ small ∷ big ∷ big ∷ [])) ≡ text_of (size_lines no_limit small big)
unfolding key_line
sizes_by true small big = refl
sizes_by false small big = one_text (number_line (codes "raiseSize") keys.RaiseSize (small ∷ small ∷ big ∷ big ∷ []))

sizes_are : (game : GameSaid) → sizes_text game ≡ text_of (size_lines game.no_limit game.small_raise game.big_raise)
unfolding sizes_text
sizes_are game = sizes_by game.no_limit game.small_raise game.big_raise

first_is : (blinds : List ℕ) → first_text blinds ≡ text_of (first_lines blinds)
unfolding first_text key_line
first_is blinds = one_text (number_line (codes "firstPlayer") keys.FirstPlayer (first_player blinds ∷ 1 ∷ 1 ∷ 1 ∷ []))

caps_are : (caps : Option (List ℕ)) → caps_text caps ≡ text_of (cap_lines caps)
unfolding caps_text key_line
caps_are None = refl
caps_are (Some caps) = one_text (number_line (codes "maxRaises") keys.MaxRaises caps)

turns_are : (game : GameSaid) → turns_text game ≡ text_of (first_lines game.blinds ++ cap_lines game.caps)
unfolding turns_text
turns_are game = both_texts (first_lines game.blinds) (cap_lines game.caps) (first_text game.blinds) (caps_text game.caps) (first_is game.blinds) (caps_are game.caps)

-- the bytes of a game are those of its lines
pub game_is : (game : GameSaid) → game_text game ≡ text_of (game_lines game)
unfolding game_text digits
game_is game =
    let begin = key_alone (codes "GAMEDEF") keys.Begin ∷ [] in
    let end = key_alone (codes "END GAMEDEF") keys.End ∷ [] in
    let chips = (kind_line game.no_limit ∷ []) ++ (count_lines (length game.stacks) ++ row_lines game.stacks game.blinds) in
    let sizes = size_lines game.no_limit game.small_raise game.big_raise in
    let turns = first_lines game.blinds ++ cap_lines game.caps in
    let last : List ℕ = codes "numSuits = 4\nnumRanks = 13\nnumHoleCards = 2\nnumBoardCards = 0 3 1 1\n" ++ codes "END GAMEDEF\n" in
    both_texts begin (chips ++ (sizes ++ (turns ++ (card_lines ++ end)))) (codes "GAMEDEF\n") (chips_text game ++ (sizes_text game ++ (turns_text game ++ last))) refl
    (both_texts chips (sizes ++ (turns ++ (card_lines ++ end))) (chips_text game) (sizes_text game ++ (turns_text game ++ last)) (chips_are game)
    (both_texts sizes (turns ++ (card_lines ++ end)) (sizes_text game) (turns_text game ++ last) (sizes_are game)
    (both_texts turns (card_lines ++ end) (turns_text game) last (turns_are game) refl)))

-- ---- each of them is read

-- a line that begins with a sign other than # is not ignored
begins : (first : ℕ) (rest : List ℕ) → eqb first 35 ≡ false → is_passed_over (first ∷ rest) ≡ false
begins first rest other = rw (ne_eqb (length (first ∷ rest)) 0 (λ none. omega (arith, none))) other

players_word : Names (codes "numPlayers") keys.NumPlayers
unfolding form_of is_word key_before card_key_named
players_word = record { said = λ behind. begins 110 (codes "umPlayers" ++ behind) refl; form = λ no_limit behind. refl; named = refl; undivided = refl; inner = refl }

rounds_word : Names (codes "numRounds") keys.NumRounds
unfolding form_of is_word key_before card_key_named
rounds_word = record { said = λ behind. begins 110 (codes "umRounds" ++ behind) refl; form = λ no_limit behind. refl; named = refl; undivided = refl; inner = refl }

stack_word : Names (codes "stack") keys.Stack
unfolding form_of is_word key_before card_key_named chip_key_named
stack_word = record { said = λ behind. begins 115 (codes "tack" ++ behind) refl; form = λ no_limit behind. refl; named = refl; undivided = refl; inner = refl }

blind_word : Names (codes "blind") keys.Blind
unfolding form_of is_word key_before card_key_named chip_key_named
blind_word = record { said = λ behind. begins 98 (codes "lind" ++ behind) refl; form = λ no_limit behind. refl; named = refl; undivided = refl; inner = refl }

raise_word : Names (codes "raiseSize") keys.RaiseSize
unfolding form_of is_word key_before card_key_named chip_key_named
raise_word = record { said = λ behind. begins 114 (codes "aiseSize" ++ behind) refl; form = λ no_limit behind. refl; named = refl; undivided = refl; inner = refl }

first_word : Names (codes "firstPlayer") keys.FirstPlayer
unfolding form_of is_word key_before card_key_named chip_key_named
first_word = record { said = λ behind. begins 102 (codes "irstPlayer" ++ behind) refl; form = λ no_limit behind. refl; named = refl; undivided = refl; inner = refl }

caps_word : Names (codes "maxRaises") keys.MaxRaises
unfolding form_of is_word key_before card_key_named chip_key_named
caps_word = record { said = λ behind. begins 109 (codes "axRaises" ++ behind) refl; form = λ no_limit behind. refl; named = refl; undivided = refl; inner = refl }

suits_word : Names (codes "numSuits") keys.NumSuits
unfolding form_of is_word key_before card_key_named
suits_word = record { said = λ behind. begins 110 (codes "umSuits" ++ behind) refl; form = λ no_limit behind. refl; named = refl; undivided = refl; inner = refl }

ranks_word : Names (codes "numRanks") keys.NumRanks
unfolding form_of is_word key_before card_key_named
ranks_word = record { said = λ behind. begins 110 (codes "umRanks" ++ behind) refl; form = λ no_limit behind. refl; named = refl; undivided = refl; inner = refl }

hole_word : Names (codes "numHoleCards") keys.NumHoleCards
unfolding form_of is_word key_before card_key_named
hole_word = record { said = λ behind. begins 110 (codes "umHoleCards" ++ behind) refl; form = λ no_limit behind. refl; named = refl; undivided = refl; inner = refl }

board_word : Names (codes "numBoardCards") keys.NumBoardCards
unfolding form_of is_word key_before card_key_named
board_word = record { said = λ behind. begins 110 (codes "umBoardCards" ++ behind) refl; form = λ no_limit behind. refl; named = refl; undivided = refl; inner = refl }

all_both : (no_limit : Bool) (a b : List WrittenLine) → AllByRecursion (Reads no_limit) a → AllByRecursion (Reads no_limit) b → AllByRecursion (Reads no_limit) (a ++ b)
all_both no_limit [] b one other = other
all_both no_limit (line ∷ a) b one other = (one.0, all_both no_limit a b one.1 other)

-- a line of a key and some numbers
some_reads : (no_limit : Bool) (word : List ℕ) (key : GameKey) (numbers : List ℕ) → 0 < length numbers → Names word key → is_unused no_limit key ≡ false → takes_count key (length numbers) ≡ true
    → are_within (most_of key) numbers ≡ true → Reads no_limit (number_line word key numbers)
some_reads no_limit word key [] some names used count few = absurd (omega (arith, some))
some_reads no_limit word key (n ∷ numbers) some names used count few = number_reads no_limit word key n numbers names used count few

begin_reads : (no_limit : Bool) → Reads no_limit (key_alone (codes "GAMEDEF") keys.Begin)
unfolding form_of
begin_reads no_limit = record { said = refl; form = refl; few = refl; inner = refl }

end_reads : (no_limit : Bool) → Reads no_limit (key_alone (codes "END GAMEDEF") keys.End)
unfolding form_of
end_reads no_limit = record { said = refl; form = refl; few = refl; inner = refl }

kind_reads : (no_limit : Bool) → Reads no_limit (kind_line no_limit)
unfolding form_of is_word
kind_reads true = record { said = refl; form = refl; few = refl; inner = refl }
kind_reads false = record { said = refl; form = refl; few = refl; inner = refl }

-- keys other than the sizes of raises are used in every game
used : (no_limit : Bool) (key : GameKey) → (is_unused true key ≡ false) → (is_unused false key ≡ false) → is_unused no_limit key ≡ false
used true key one other = one
used false key one other = other

single_within : (n : ℕ) → n ≤ MOST_CHIPS → are_within MOST_CHIPS (n ∷ []) ≡ true
single_within n few = rw (le-leb n MOST_CHIPS few) refl

count_reads : (no_limit : Bool) (players : ℕ) → players ≤ 10 → AllByRecursion (Reads no_limit) (count_lines players)
count_reads no_limit players few = (
  number_reads no_limit (codes "numPlayers") keys.NumPlayers players [] players_word (used no_limit keys.NumPlayers refl refl) refl (single_within players (omega (arith, few))),
  (number_reads no_limit (codes "numRounds") keys.NumRounds 4 [] rounds_word (used no_limit keys.NumRounds refl refl) refl refl, tt),
)

row_reads : (no_limit : Bool) (stacks blinds : List ℕ) → 0 < length stacks → 0 < length blinds → are_chips stacks ≡ true → are_chips blinds ≡ true → AllByRecursion (Reads no_limit) (row_lines stacks blinds)
row_reads no_limit stacks blinds some other few few_blinds = (
  some_reads no_limit (codes "stack") keys.Stack stacks some stack_word (used no_limit keys.Stack refl refl) (lt-ltb 0 (length stacks) some) few,
  (some_reads no_limit (codes "blind") keys.Blind blinds other blind_word (used no_limit keys.Blind refl refl) (lt-ltb 0 (length blinds) other) few_blinds, tt),
)

size_reads : (no_limit : Bool) (blind small big : ℕ) → has_fitting_sizes no_limit blind small big ≡ true → AllByRecursion (Reads no_limit) (size_lines no_limit small big)
size_reads true blind small big fits = tt
size_reads false blind small big fits =
    let one = and_parts (nat_le 1 small && nat_le small MOST_CHIPS) ((nat_le 1 big && nat_le big MOST_CHIPS) && (blind == 0 || nat_le small blind)) fits in
    let other = and_parts (nat_le 1 big && nat_le big MOST_CHIPS) (blind == 0 || nat_le small blind) one.1 in
    let few = (and_parts (nat_le 1 small) (nat_le small MOST_CHIPS) one.0).1 in
    let few_big = (and_parts (nat_le 1 big) (nat_le big MOST_CHIPS) other.0).1 in
    (number_reads false (codes "raiseSize") keys.RaiseSize small (small ∷ big ∷ big ∷ []) raise_word refl refl (rw (few, few_big) refl), tt)

place_within : (number : ℕ) (numbers : List ℕ) → last_seat_with number numbers ≤ length numbers
place_within number [] = omega arith
place_within number (n ∷ rest) = go (last_seat_with number rest) (nat_lt 0 (last_seat_with number rest)) (n == number) (place_within number rest)
  where
    go : (place : ℕ) (later here : Bool) → place ≤ length rest → (if later then place + 1 else if here then 1 else 0) ≤ length (n ∷ rest)
    go place true here within = omega (arith, within)
    go place false true within = omega arith
    go place false false within = omega arith

-- the first player is one of few
first_few : (blinds : List ℕ) → length blinds ≤ 10 → first_player blinds ≤ 11
first_few blinds few = go (length blinds == 2) (last_seat_with (greatest blinds) blinds == length blinds) (last_seat_with (greatest blinds) blinds) (omega (arith, few, place_within (greatest blinds) blinds))
  where
    go : (two last : Bool) (place : ℕ) → place ≤ 10 → (if two then 2 else if last then 1 else place + 1) ≤ 11
    go true last place within = omega arith
    go false true place within = omega arith
    go false false place within = omega (arith, within)

first_reads : (no_limit : Bool) (blinds : List ℕ) → length blinds ≤ 10 → AllByRecursion (Reads no_limit) (first_lines blinds)
first_reads no_limit blinds few =
    let within : nat_le (first_player blinds) MOST_CHIPS ≡ true = le-leb (first_player blinds) MOST_CHIPS (omega (arith, first_few blinds few)) in (
      number_reads no_limit (codes "firstPlayer") keys.FirstPlayer (first_player blinds) (1 ∷ 1 ∷ 1 ∷ []) first_word (used no_limit keys.FirstPlayer refl refl) refl
          (both_true (nat_le (first_player blinds) MOST_CHIPS) true within refl),
      tt,
    )

cap_reads : (no_limit : Bool) (caps : Option (List ℕ)) → IfSome caps (λ caps. are_caps caps ≡ true) → AllByRecursion (Reads no_limit) (cap_lines caps)
cap_reads no_limit None fit = tt
cap_reads no_limit (Some caps) fit =
    let parts = and_parts (length caps == 4) (are_within 4294967295 caps) fit in
    (some_reads no_limit (codes "maxRaises") keys.MaxRaises caps (omega (arith, eqb-true (length caps) 4 parts.0)) caps_word (used no_limit keys.MaxRaises refl refl) parts.0 parts.1, tt)

card_reads : (no_limit : Bool) → AllByRecursion (Reads no_limit) card_lines
card_reads no_limit = (
  number_reads no_limit (codes "numSuits") keys.NumSuits 4 [] suits_word (used no_limit keys.NumSuits refl refl) refl refl,
  (
    number_reads no_limit (codes "numRanks") keys.NumRanks 13 [] ranks_word (used no_limit keys.NumRanks refl refl) refl refl,
    (
      number_reads no_limit (codes "numHoleCards") keys.NumHoleCards 2 [] hole_word (used no_limit keys.NumHoleCards refl refl) refl refl,
      (number_reads no_limit (codes "numBoardCards") keys.NumBoardCards 0 (3 ∷ 1 ∷ 1 ∷ []) board_word (used no_limit keys.NumBoardCards refl refl) refl refl, tt),
    ),
  ),
)

-- each line of a game reads as its key and its numbers
pub lines_read : (game : GameSaid) → IsGame game → AllByRecursion (Reads game.no_limit) (game_lines game)
lines_read game is =
    let no_limit = game.no_limit in
    let begin = key_alone (codes "GAMEDEF") keys.Begin ∷ [] in
    let end = key_alone (codes "END GAMEDEF") keys.End ∷ [] in
    let counts = count_lines (length game.stacks) in
    let rows = row_lines game.stacks game.blinds in
    let chips = (kind_line no_limit ∷ []) ++ (counts ++ rows) in
    let sizes = size_lines no_limit game.small_raise game.big_raise in
    let turns = first_lines game.blinds ++ cap_lines game.caps in
    let count_facts = count_reads no_limit (length game.stacks) is.most in
    let row_facts = row_reads no_limit game.stacks game.blinds (omega (arith, is.least)) (omega (arith, is.least, is.one_row)) is.few is.few_blinds in
    let turn_facts = all_both no_limit (first_lines game.blinds) (cap_lines game.caps) (first_reads no_limit game.blinds (omega (arith, is.most, is.one_row))) (cap_reads no_limit game.caps is.caps) in
    all_both no_limit begin (chips ++ (sizes ++ (turns ++ (card_lines ++ end)))) (begin_reads no_limit, tt)
    (all_both no_limit chips (sizes ++ (turns ++ (card_lines ++ end))) (all_both no_limit (kind_line no_limit ∷ []) (counts ++ rows) (kind_reads no_limit, tt) (all_both no_limit counts rows count_facts row_facts))
    (all_both no_limit sizes (turns ++ (card_lines ++ end)) (size_reads no_limit (greatest game.blinds) game.small_raise game.big_raise is.sizes)
    (all_both no_limit turns (card_lines ++ end) turn_facts (all_both no_limit card_lines end (card_reads no_limit) (end_reads no_limit, tt)))))
