-- The number of bytes of the pieces of a line.
use Rattle.std.proofs.Common.{◌≡◌, ◌+◌, ◌-◌, codes, get_or, slice_index, ◌/◌, ◌%◌, ◌<◌, ◌≤◌, ◌^◌, ℕ, Bool, true, false, ◌&&◌, ◌||◌, ◌==◌, nat_le, not, if◌then◌else◌, List, [], ◌∷◌, ◌++◌, length, map, take, Option, Some, None, refl, sym, ap, subst, ◌∙◌, arith}
use Rattle.std.specs.List.{flat_map, range_with_len}
use Rattle.std.specs.Prelude.{decimal}
use Rattle.std.proofs.lemmas.Bool.{and_parts, leb-true}
use Rattle.std.proofs.lemmas.Fmt.{decimal_digit, decimal_step, length-decimal-le}
use Rattle.std.proofs.lemmas.List.{length-append, length-map, take-map}
use Rattle.card_set.specs.declared.card.Slot.{Slot}
use Rattle.card_set.specs.Spelling.{spelling}
use Rattle.play_event.specs.declared.setup.Setup.{Setup}
use Rattle.play_event.specs.Past.{Move}
use Rattle.play_event.specs.Trace.{TracedMove, TracedPlace}
use Rattle.play_event.specs.CanonScript.{dealt_slots, plain_move, plain_moves}
use Rattle.play_event.specs.TraceCore.{TraceCore}
use Rattle.play_event.specs.Tidy.{IsTidy}
use Rattle.canon_laws.proofs.MoveCounts.{tidy_within}
use Rattle.hand_canon.specs.Sound.{IsSound}
use Rattle.hand_canon.specs.SoundRecord.{script_said}
use Rattle.hand_canon.specs.TraceRows.{core_said}
use Rattle.hand_canon.specs.declared.trace.Play.{Play}
use Rattle.play_event.specs.Played.{move_said}
use Rattle.acpc_format.specs.Betting.{betting_text, letters_on, round_text, letter_on}
use Rattle.acpc_format.specs.Cards.{board_text, boards_text, cards_text, hole_text, holes_text}
use Rattle.acpc_format.specs.Rounds.{behind_stroke, has_board}
use Rattle.acpc_format.proofs.Totals.{sound_few}
use Rattle.first_fault.specs.Digits.{are_digits}
use Rattle.acpc_format.specs.Names.{hand_text, is_spelled_hand}
use Rattle.acpc_format.specs.Seats.{bar_before, for_seats}
use Rattle.acpc_format.specs.Puts.{HavePut}
use Rattle.acpc_format.proofs.Letters.{letter_next}
use Rattle.chip_ledger.specs.Seat.{seats_of}
use Rattle.hand_canon.proofs.OneByOne.{flat_more}
use Rattle.hand_canon.specs.declared.trace.Trace.{Trace}
use Rattle.play_event.specs.declared.played.Move as rows
use Rattle.acpc_view.specs.Lengths.{IsShort, hole_of, seen_by}
use Rattle.acpc_view.proofs.Writing.{line_more}
use Rattle.acpc_view.specs.View.{has_begun, head_text, seen_places, seen_text, sees_seat, view_line}
use Rattle.acpc_view.proofs.Alike.{seen_board, seen_slots}

-- the digits of a number
pub one_digit : (number : ℕ) → number < 10 → 1 ≡ length (decimal number)
one_digit number less = sym (ap length (decimal_digit number less))

pub more_digits : (number : ℕ) → 10 ≤ number → number < 2 ^ 64 → 1 + length (decimal (number / 10)) ≡ length (decimal number)
more_digits number reach fits = omega (arith, ap length (decimal_step number reach fits), length-append (decimal (number / 10)) ((48 + number % 10) ∷ []))

pub few_digits : (number : ℕ) → number < 2 ^ 64 → length (decimal number) ≤ 20
few_digits number fits = length-decimal-le 20 number (omega arith) (omega (arith, fits)) fits

-- a further round
pub round_there : (placed : List TracedPlace) (street : ℕ) (text : List ℕ) → has_board placed street ≡ true → 1 + length text ≡ length (behind_stroke placed street text)
round_there placed street text is = let whole : length (behind_stroke placed street text) ≡ length (47 ∷ text) = ap (λ (b : Bool). length (if b then 47 ∷ text else [])) is in omega (arith, whole)

pub round_not : (placed : List TracedPlace) (street : ℕ) (text : List ℕ) → has_board placed street ≡ false → 0 ≡ length (behind_stroke placed street text)
round_not placed street text is = sym (ap (λ (b : Bool). length (if b then 47 ∷ text else [])) is)

-- the betting
pub betting_sum : (no_limit : Bool) (setup : Setup) (placed : List TracedPlace) (moves : List Move) (one two three four : ℕ) → one ≡ length (letters_on no_limit setup 1 moves) → two ≡ length (round_text no_limit setup placed moves 2) → three ≡ length (round_text no_limit setup placed moves 3) → four ≡ length (round_text no_limit setup placed moves 4)
    → one + two + three + four ≡ length (betting_text no_limit setup placed moves)
unfolding betting_text
betting_sum no_limit setup placed moves one two three four a b c d =
    let first = letters_on no_limit setup 1 moves in
    let flop = round_text no_limit setup placed moves 2 in
    let turn = round_text no_limit setup placed moves 3 in
    let river = round_text no_limit setup placed moves 4 in
    omega (arith, a, b, c, d, length-append first (flop ++ (turn ++ (river ++ []))), length-append flop (turn ++ (river ++ [])), length-append turn (river ++ []), length-append river [])

-- the cards
pub cards_sum : (placed : List TracedPlace) (seats one two three four : ℕ) → one ≡ length (holes_text placed seats) → two ≡ length (board_text placed 2) → three ≡ length (board_text placed 3) → four ≡ length (board_text placed 4) → one + two + three + four ≡ length (cards_text placed seats)
unfolding cards_text boards_text
cards_sum placed seats one two three four a b c d =
    let holes = holes_text placed seats in
    let flop = board_text placed 2 in
    let turn = board_text placed 3 in
    let river = board_text placed 4 in
    omega (arith, a, b, c, d, length-append holes (flop ++ (turn ++ (river ++ []))), length-append flop (turn ++ (river ++ [])), length-append turn (river ++ []), length-append river [])

-- a board that is seen is that of the trace
pub board_there : (trace : TraceCore) (viewer count street cards : ℕ) → has_board (seen_places trace viewer count) street ≡ true → cards ≡ length (spelling (dealt_slots trace.places None street)) → 1 + cards ≡ length (board_text (seen_places trace viewer count) street)
unfolding board_text
board_there trace viewer count street cards is number =
    let begun : has_begun trace.moves count street ≡ true = (and_parts (has_begun trace.moves count street) (has_board trace.places street) (sym (seen_board trace viewer count street) ∙ is)).0 in
    let slots : dealt_slots (seen_places trace viewer count) None street ≡ dealt_slots trace.places None street = seen_slots trace viewer count None street true begun in
    let spelled : length (spelling (dealt_slots (seen_places trace viewer count) None street)) ≡ cards = ap (λ (s : List Slot). length (spelling s)) slots ∙ sym number in
    let whole = round_there (seen_places trace viewer count) street (spelling (dealt_slots (seen_places trace viewer count) None street)) is in
    omega (arith, whole, spelled)

pub board_not : (trace : TraceCore) (viewer count street : ℕ) → has_board (seen_places trace viewer count) street ≡ false → 0 ≡ length (board_text (seen_places trace viewer count) street)
unfolding board_text
board_not trace viewer count street is = round_not (seen_places trace viewer count) street (spelling (dealt_slots (seen_places trace viewer count) None street)) is

-- the hole cards of a seat
pub hole_seen : (trace : TraceCore) (viewer count seat cards : ℕ) → sees_seat trace viewer count seat ≡ true → cards ≡ length (hole_of (dealt_slots trace.places (Some seat) 1)) → cards ≡ length (hole_text (seen_places trace viewer count) seat)
hole_seen trace viewer count seat cards sees number = number ∙ sym (ap (λ (s : List Slot). length (hole_of s)) (seen_slots trace viewer count (Some seat) 1 true sees))

pub hole_unseen : (trace : TraceCore) (viewer count seat : ℕ) → sees_seat trace viewer count seat ≡ false → 0 ≡ length (hole_text (seen_places trace viewer count) seat)
hole_unseen trace viewer count seat sees = sym (ap (λ (s : List Slot). length (hole_of s)) (seen_slots trace viewer count (Some seat) 1 false sees))

-- whether a board is seen
pub board_seen_then : (trace : TraceCore) (viewer count street : ℕ) (board : Bool) → has_begun trace.moves count street ≡ true → board ≡ has_board trace.places street → board ≡ has_board (seen_places trace viewer count) street
board_seen_then trace viewer count street board begun is = is ∙ sym (seen_board trace viewer count street ∙ ap (λ (b : Bool). b && has_board trace.places street) begun)

pub board_seen_else : (trace : TraceCore) (viewer count street : ℕ) → has_begun trace.moves count street ≡ false → false ≡ has_board (seen_places trace viewer count) street
board_seen_else trace viewer count street begun = sym (seen_board trace viewer count street ∙ ap (λ (b : Bool). b && has_board trace.places street) begun)

-- a further round, after the first `count` moves
pub round_sum : (no_limit : Bool) (trace : Trace) (placed : List TracedPlace) (count street number : ℕ) (moves : List rows.Move) → moves ≡ trace.moves → has_board placed street ≡ true
    → number ≡ length (letters_on no_limit trace.setup street (plain_moves (map move_said (take count moves))))
    → 1 + number ≡ length (round_text no_limit trace.setup placed (plain_moves (map move_said (take count trace.moves))) street)
unfolding round_text
round_sum no_limit trace placed count street number moves are board is =
    ap (λ (n : ℕ). 1 + n) (is ∙ ap (λ (ms : List rows.Move). length (letters_on no_limit trace.setup street (plain_moves (map move_said (take count ms))))) are)
    ∙ round_there placed street (letters_on no_limit trace.setup street (plain_moves (map move_said (take count trace.moves)))) board

pub round_none : (no_limit : Bool) (trace : Trace) (placed : List TracedPlace) (count street : ℕ) → has_board placed street ≡ false → 0 ≡ length (round_text no_limit trace.setup placed (plain_moves (map move_said (take count trace.moves))) street)
unfolding round_text
round_none no_limit trace placed count street none = round_not placed street (letters_on no_limit trace.setup street (plain_moves (map move_said (take count trace.moves)))) none

-- one more seat
pub seat_sum : (text : ℕ → List ℕ) (count so_far more : ℕ) → so_far ≡ length (for_seats text count) → more ≡ length (bar_before (count + 1) ++ text (count + 1)) → so_far + more ≡ length (for_seats text (count + 1))
seat_sum text count so_far more before last =
    let f : ℕ → List ℕ = λ seat. bar_before seat ++ text seat in
    omega (arith, before, last, ap length (flat_more f count), length-append (flat_map f (seats_of count)) (f (count + 1)))

-- one more line
pub line_sum : (line : ℕ → List ℕ) (count so_far more : ℕ) → so_far ≡ length (flat_map line (range_with_len 0 count)) → more ≡ length (line count) → so_far + more ≡ length (flat_map line (range_with_len 0 (count + 1)))
line_sum line count so_far more before last =
    let whole = line_more line count (flat_map line (range_with_len 0 count)) (flat_map line (range_with_len 0 count) ++ line count) refl refl in
    omega (arith, before, last, ap length whole, length-append (flat_map line (range_with_len 0 count)) (line count))

-- one more letter
pub letter_sum : (no_limit : Bool) (setup : Setup) (street count : ℕ) (moves : List rows.Move) (played : rows.Move) (put : List ℕ) (so_far more : ℕ) → count < length moves → get_or moves count played ≡ played
    → HavePut setup (plain_move (move_said played) ∷ plain_moves (map move_said (take count moves))) put
    → so_far ≡ length (letters_on no_limit setup street (plain_moves (map move_said (take count moves))))
    → more ≡ length (letter_on no_limit street (plain_move (move_said played)) (slice_index put (played.seat.number - 1)))
    → so_far + more ≡ length (letters_on no_limit setup street (plain_moves (map move_said (take (count + 1) moves))))
letter_sum no_limit setup street count moves played put so_far more within here has before last =
    let base = letters_on no_limit setup street (plain_moves (map move_said (take count moves))) in
    let letter = letter_on no_limit street (plain_move (move_said played)) (slice_index put (played.seat.number - 1)) in
    let whole = letter_next no_limit setup street count moves played put [] base (base ++ letter) within here has refl refl in
    omega (arith, before, last, ap length whole, length-append base letter)

-- a line
pub line_is_long : (no_limit : Bool) (viewer place count hand text : ℕ) (play : Play) → 1 ≤ viewer → viewer ≤ 10 → hand ≡ length (hand_text place play.hand.notes.hand) → text ≡ length (seen_text no_limit play.trace viewer count) → 15 + hand + text ≡ length (view_line no_limit viewer place play count)
unfolding view_line head_text
line_is_long no_limit viewer place count hand text play low high is_hand is_text =
    let digit : length (decimal (viewer - 1)) ≡ 1 = ap length (decimal_digit (viewer - 1) (omega (arith, low, high))) in
    let name = hand_text place play.hand.notes.hand in
    let seen = seen_text no_limit play.trace viewer count in
    let head : List ℕ = codes "MATCHSTATE:" ++ (decimal (viewer - 1) ++ 58 ∷ name) in
    omega (arith, is_hand, is_text, digit, length-append head (58 ∷ (seen ++ 10 ∷ [])), length-append (codes "MATCHSTATE:") (decimal (viewer - 1) ++ 58 ∷ name), length-append (decimal (viewer - 1)) (58 ∷ name), length-append seen (10 ∷ []))

-- the betting and the cards
pub seen_sum : (no_limit : Bool) (trace : Trace) (viewer count betting cards : ℕ) → betting ≡ length (betting_text no_limit trace.setup (seen_by trace viewer count) (plain_moves (map move_said (take count trace.moves)))) → cards ≡ length (cards_text (seen_by trace viewer count) trace.setup.stacks.seats)
    → betting + 1 + cards ≡ length (seen_text no_limit trace viewer count)
unfolding seen_text
seen_sum no_limit trace viewer count betting cards first second =
    let seen = seen_by trace viewer count in
    let whole : List ℕ = betting_text no_limit trace.setup seen (plain_moves (take count (core_said trace).moves)) in
    let text : List ℕ = cards_text seen trace.setup.stacks.seats in
    let same : betting ≡ length whole = first ∙ ap (λ (ms : List TracedMove). length (betting_text no_limit trace.setup seen (plain_moves ms))) (sym (take-map move_said count trace.moves)) in
    omega (arith, same, second, length-append whole (58 ∷ text))

-- the number of a hand
pub hand_default : (place : ℕ) (name : Option (List ℕ)) → name ≡ None → length (decimal place) ≡ length (hand_text place name)
unfolding hand_text
hand_default place name is = sym (ap (λ (n : Option (List ℕ)). length (hand_text place n)) is)

pub hand_spelled : (place : ℕ) (name : Option (List ℕ)) (text : List ℕ) → name ≡ Some text → is_spelled_hand text ≡ true → length text ≡ length (hand_text place name)
unfolding hand_text
hand_spelled place name text is spelled = sym (ap (λ (n : Option (List ℕ)). length (hand_text place n)) is ∙ ap (λ (b : Bool). length (if b then text else decimal place)) spelled)

pub hand_unspelled : (place : ℕ) (name : Option (List ℕ)) (text : List ℕ) → name ≡ Some text → is_spelled_hand text ≡ false → length (decimal place) ≡ length (hand_text place name)
unfolding hand_text
hand_unspelled place name text is spelled = sym (ap (λ (n : Option (List ℕ)). length (hand_text place n)) is ∙ ap (λ (b : Bool). length (if b then text else decimal place)) spelled)

pub hand_few : (text : List ℕ) → is_spelled_hand text ≡ true → length text ≤ 20
unfolding is_spelled_hand
hand_few text spelled =
    let parts = and_parts (are_digits text) ((not (slice_index text 0 == 48) || (length text == 1)) && nat_le (length text) 18) spelled in
    let few = leb-true (length text) 18 (and_parts (not (slice_index text 0 == 48) || (length text == 1)) (nat_le (length text) 18) parts.1).1 in
    omega (arith, few)

-- a sound play is short
pub sound_short : (play : Play) → IsSound play → IsShort play.trace
sound_short play sound =
    let hand = play.hand in
    let tidy : IsTidy (core_said play.trace) = subst IsTidy (sym sound.trace.core) (tidy_within hand.setup hand.rules (script_said hand) sound.legal.played sound.within.moves) in
    let moves : length (core_said play.trace).moves ≡ length play.trace.moves = length-map play.trace.moves move_said in
    record { chips = sound_few play sound; moves = omega (arith, tidy.moves_few, moves); dealt = tidy.cards.dealt_few }
