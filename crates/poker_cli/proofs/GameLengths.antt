-- A game file is short enough to be read.
use Rattle.std.proofs.Common.{◌≡◌, ℕ, ◌+◌, ◌*◌, ◌^◌, ◌<◌, ◌≤◌, suc, Bool, true, false, nat_lt, nat_le, ◌&&◌, ◌||◌, ◌==◌, if◌then◌else◌, List, [], ◌∷◌, ◌++◌, length, codes, Option, Some, None, IfSome, refl, subst, arith}
use Rattle.std.specs.List.{list_all}
use Rattle.std.specs.Prelude.{decimal}
use Rattle.std.proofs.lemmas.Bool.{and_parts, eqb-true, le-leb, leb-true}
use Rattle.std.proofs.lemmas.Fmt.{length-decimal-le}
use Rattle.std.proofs.lemmas.List.{length-append}
use Rattle.chip_ledger.specs.AmountTexts.{spaced}
use Rattle.chip_ledger.specs.Greatest.{greatest}
use Rattle.chip_ledger.specs.declared.numbers.TheConstants.{MOST_CHIPS}
use Rattle.acpc_game.specs.GameFile.{GameSaid, first_player, last_seat_with}
use Rattle.acpc_game.specs.GameText.{caps_text, cards_text, chips_text, counts_text, first_text, game_text, key_line, kind_text, seat_lines, sizes_text, turns_text}
use Rattle.acpc_game.specs.Games.{has_fitting_sizes}
use Rattle.chip_ledger.specs.Sizes.{is_size}
use Rattle.acpc_game.specs.SaidGames.{IsGame, are_caps}

-- a number after a space
few_digits : (number : ℕ) → number < 2 ^ 64 → length (decimal number) ≤ 20
few_digits number fits = length-decimal-le 20 number (omega arith) (omega (arith, fits)) fits

-- numbers after spaces
few_spaced : (most : ℕ) → most < 2 ^ 64 → (numbers : List ℕ) → list_all (λ number. nat_le number most) numbers ≡ true
    → length (spaced numbers) ≤ 21 * length numbers
few_spaced most fits [] all = omega arith
few_spaced most fits (number ∷ numbers) all =
    let both = and_parts (nat_le number most) (list_all (λ n. nat_le n most) numbers) all in
    let small : number ≤ most = leb-true number most both.0 in
    omega (arith, length-append (32 ∷ decimal number) (spaced numbers), few_digits number (omega (arith, small, fits)), few_spaced most fits numbers both.1)

-- a key, =, and numbers
line_length : (word numbers : List ℕ) → length (key_line word numbers) ≡ length word + length (spaced numbers) + 3
unfolding key_line
line_length word numbers =
    omega (
      arith,
      length-append (word ++ (codes " =" ++ spaced numbers)) (10 ∷ []),
      length-append word (codes " =" ++ spaced numbers),
      length-append (codes " =") (spaced numbers),
    )

short_line : (word numbers : List ℕ) → list_all (λ number. nat_le number MOST_CHIPS) numbers ≡ true → length numbers ≤ 10 → length (key_line word numbers) ≤ length word + 213
short_line word numbers all few = omega (arith, line_length word numbers, few_spaced MOST_CHIPS (omega arith) numbers all)

-- a list of one, or of four
all_one : (a : ℕ) → a ≤ MOST_CHIPS → list_all (λ number. nat_le number MOST_CHIPS) (a ∷ []) ≡ true
all_one a one = rw (le-leb a MOST_CHIPS one) refl

all_four : (a b c d : ℕ) → a ≤ MOST_CHIPS → b ≤ MOST_CHIPS → c ≤ MOST_CHIPS → d ≤ MOST_CHIPS
    → list_all (λ number. nat_le number MOST_CHIPS) (a ∷ b ∷ c ∷ d ∷ []) ≡ true
all_four a b c d one two three four =
    rw (le-leb a MOST_CHIPS one, le-leb b MOST_CHIPS two, le-leb c MOST_CHIPS three, le-leb d MOST_CHIPS four) refl

-- the lines of a game file
kind_length : (no_limit : Bool) → length (kind_text no_limit) ≤ 8
unfolding kind_text
kind_length true = omega arith
kind_length false = omega arith

counts_length : (players : ℕ) → players ≤ 10 → length (counts_text players) ≤ 446
unfolding counts_text
counts_length players few =
    omega (
      arith,
      length-append (key_line (codes "numPlayers") (players ∷ [])) (key_line (codes "numRounds") (4 ∷ [])),
      short_line (codes "numPlayers") (players ∷ []) (all_one players (omega (arith, few))) (omega arith),
      short_line (codes "numRounds") (4 ∷ []) (all_one 4 (omega arith)) (omega arith),
    )

rows_length : (stacks blinds : List ℕ) → list_all (λ number. nat_le number MOST_CHIPS) stacks ≡ true
    → list_all (λ number. nat_le number MOST_CHIPS) blinds ≡ true → length stacks ≤ 10 → length blinds ≤ 10
    → length (seat_lines stacks blinds) ≤ 436
unfolding seat_lines
rows_length stacks blinds all others few as_few =
    omega (
      arith,
      length-append (key_line (codes "stack") stacks) (key_line (codes "blind") blinds),
      short_line (codes "stack") stacks all few,
      short_line (codes "blind") blinds others as_few,
    )

chips_length : (game : GameSaid) → IsGame game → length (chips_text game) ≤ 890
unfolding chips_text
chips_length game is =
    omega (
      arith,
      length-append (kind_text game.no_limit) (counts_text (length game.stacks) ++ seat_lines game.stacks game.blinds),
      length-append (counts_text (length game.stacks)) (seat_lines game.stacks game.blinds),
      kind_length game.no_limit,
      counts_length (length game.stacks) is.most,
      rows_length game.stacks game.blinds is.few is.few_blinds is.most (omega (arith, is.most, is.one_row)),
    )

size_within : (size : ℕ) → is_size size ≡ true → size ≤ MOST_CHIPS
size_within size is = leb-true size MOST_CHIPS (and_parts (nat_le 1 size) (nat_le size MOST_CHIPS) is).1

sizes_within : (blind small big : ℕ) → has_fitting_sizes false blind small big ≡ true → (small ≤ MOST_CHIPS) × (big ≤ MOST_CHIPS)
sizes_within blind small big fit =
    let first = and_parts (is_size small) (is_size big && (blind == 0 || nat_le small blind)) fit in
    (size_within small first.0, size_within big (and_parts (is_size big) (blind == 0 || nat_le small blind) first.1).0)

sizes_length : (game : GameSaid) (no_limit : Bool) → game.no_limit ≡ no_limit → IsGame game → length (sizes_text game) ≤ 222
unfolding sizes_text
sizes_length game true limit is = rw limit (omega arith)
sizes_length game false limit is =
    let fit = sizes_within (greatest game.blinds) game.small_raise game.big_raise
    (subst (λ (b : Bool). has_fitting_sizes b (greatest game.blinds) game.small_raise game.big_raise ≡ true) limit is.sizes) in
    let few = short_line (codes "raiseSize") (game.small_raise ∷ game.small_raise ∷ game.big_raise ∷ game.big_raise ∷ [])
    (all_four game.small_raise game.small_raise game.big_raise game.big_raise fit.0 fit.0 fit.1 fit.1) (omega arith) in
    rw limit (omega (arith, few))

place_within : (number : ℕ) (numbers : List ℕ) → last_seat_with number numbers ≤ length numbers
place_within number [] = omega arith
place_within number (n ∷ rest) = go (last_seat_with number rest) (nat_lt 0 (last_seat_with number rest)) (n == number) (place_within number rest)
  where
    go : (place : ℕ) (later here : Bool) → place ≤ length rest → (if later then place + 1 else if here then 1 else 0) ≤ suc (length rest)
    go place true here few = omega (arith, few)
    go place false true few = omega arith
    go place false false few = omega arith

first_few : (blinds : List ℕ) → length blinds ≤ 10 → first_player blinds ≤ 11
first_few blinds few = go (length blinds == 2) (last_seat_with (greatest blinds) blinds == length blinds) (last_seat_with (greatest blinds) blinds) (omega (arith, few, place_within (greatest blinds) blinds))
  where
    go : (two last : Bool) (place : ℕ) → place ≤ 10 → (if two then 2 else if last then 1 else place + 1) ≤ 11
    go true last place few = omega arith
    go false true place few = omega arith
    go false false place few = omega (arith, few)

first_length : (blinds : List ℕ) → length blinds ≤ 10 → length (first_text blinds) ≤ 224
unfolding first_text
first_length blinds few =
    short_line (codes "firstPlayer") (first_player blinds ∷ 1 ∷ 1 ∷ 1 ∷ [])
    (all_four (first_player blinds) 1 1 1 (omega (arith, first_few blinds few)) (omega arith) (omega arith) (omega arith)) (omega arith)

caps_length : (caps : Option (List ℕ)) → IfSome caps (λ caps. are_caps caps ≡ true) → length (caps_text caps) ≤ 222
unfolding caps_text
caps_length None fit = omega arith
caps_length (Some caps) fit =
    let both = and_parts (length caps == 4) (list_all (λ cap. nat_le cap 4294967295) caps) fit in
    let four : length caps ≡ 4 = eqb-true (length caps) 4 both.0 in
    omega (arith, four, line_length (codes "maxRaises") caps, few_spaced 4294967295 (omega arith) caps both.1)

turns_length : (game : GameSaid) → IsGame game → length (turns_text game) ≤ 446
unfolding turns_text
turns_length game is =
    omega (
      arith,
      length-append (first_text game.blinds) (caps_text game.caps),
      first_length game.blinds (omega (arith, is.most, is.one_row)),
      caps_length game.caps is.caps,
    )

-- the whole file
pub game_length : (game : GameSaid) → IsGame game → length (game_text game) ≤ 2000
unfolding game_text
game_length game is =
    let last = cards_text ++ codes "END GAMEDEF\n" in
    let turns = turns_text game in
    let sizes = sizes_text game in
    omega (
      arith,
      length-append (codes "GAMEDEF\n") (chips_text game ++ (sizes ++ (turns ++ last))),
      length-append (chips_text game) (sizes ++ (turns ++ last)),
      length-append sizes (turns ++ last),
      length-append turns last,
      chips_length game is,
      sizes_length game game.no_limit refl is,
      turns_length game is,
    )
