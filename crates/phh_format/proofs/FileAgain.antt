-- The document of plays that was written reads back as their hands.
use Rattle.std.proofs.Common.{◌≡◌, ℕ, ◌+◌, ◌-◌, ◌≤◌, ◌<◌, ◌^◌, Bool, true, false, cond, nat_lt, bytes_eq, count_by, sum_by, List, [], ◌∷◌, length, codes, decimal, Some, None, Ok, refl, sym, ap, subst, ◌∙◌, arith}
use Rattle.std.specs.List.{AllByRecursion}
use Rattle.std.specs.Str.Parse.{AllDigits}
use Rattle.std.proofs.lemmas.Bool.{le-ltb}
use Rattle.std.proofs.lemmas.Fmt.{decimal_is_IsNumeral}
use Rattle.std.proofs.lemmas.Slice.Eq.{bytes_eq-Decides}
use Rattle.std.proofs.lemmas.Str.{is_utf8-from_IsUtf8}
use Rattle.first_fault.specs.Reading.{thread_from}
use Rattle.first_fault.specs.declared.limits.TheConstants.{MOST_FILE_MOVES, MOST_HANDS}
use Rattle.hand_canon.specs.declared.trace.Play.{Play}
use Rattle.phh_reading.specs.Events.{counts_after}
use Rattle.phh_reading.specs.Reading.{document_of, hands_of, numbered_hand, reading}
use Rattle.phh_format.specs.Document.{Spells, document, hand_table, numbered_hands}
use Rattle.phh_format.specs.HandFields.{hand_fields, script_of}
use Rattle.phh_format.proofs.Puts.{field_at, get_member-table_of}
use Rattle.phh_format.specs.Again.{hand_again, hands_again}
use Rattle.phh_format.proofs.EventsAgain.{HaveRoom, counts_with, one_more}
use Rattle.card_set.proofs.Counting.{count_by-cons}
use Rattle.std.proofs.lemmas.List.Sums.{sum_by-cons}
use Rattle.play_event.specs.PlayedScript.{is_move_event}
use Rattle.play_event.specs.Said.{Said}
use Rattle.phh_reading.specs.declared.events.EventCounts.{EventCounts}
use Rattle.phh_format.proofs.Readable.{IsReadable, moves_written}
use Rattle.phh_format.proofs.HandAgain.{hand_read}
use Rattle.phh_format.proofs.OrderAgain.{are_hands_again, hand_tables, in_order_again}

-- the moves of the file after one more play, by the moves before it
abbrev pub moves_with : ℕ → Play → ℕ
moves_with file_moves play = (counts_with (counts_after file_moves) (script_of play.trace)).file_moves

-- each play reads back, and there is room for the moves of all
abbrev pub AreReadable : ℕ → List Play → Type 0
AreReadable file_moves [] = Unit {0}
AreReadable file_moves (play ∷ rest) = IsReadable play × HaveRoom (counts_after file_moves) (script_of play.trace) × AreReadable (moves_with file_moves play) rest

abbrev pub all_moves : ℕ → List Play → ℕ
all_moves file_moves [] = file_moves
all_moves file_moves (play ∷ rest) = all_moves (moves_with file_moves play) rest

one_hand : (file_moves place : ℕ) (play : Play) → place < MOST_HANDS → IsReadable play → HaveRoom (counts_after file_moves) (script_of play.trace)
    → numbered_hand file_moves (place + 1) (hand_table place play) ≡ Ok (hand_again place play ∷ [], moves_with file_moves play)
unfolding numbered_hand
one_hand file_moves place play few is room =
    let at : place + 1 - 1 ≡ place = omega arith in
    let within : nat_lt MOST_HANDS (place + 1) ≡ false = le-ltb MOST_HANDS (place + 1) (omega (arith, few)) in
    rw (within, at, hand_read place play is file_moves room) refl

-- the hands of tables that were written
hands_read : (file_moves place : ℕ) (plays : List Play) → place + length plays ≤ MOST_HANDS → AreReadable file_moves plays
    → thread_from numbered_hand file_moves (place + 1) (hand_tables place plays) ≡ Ok (hands_again place plays, all_moves file_moves plays)
unfolding thread_from
hands_read file_moves place [] few are = refl
hands_read file_moves place (play ∷ rest) few are =
    rw (one_hand file_moves place play (omega (arith, few)) are.0 are.1, hands_read (moves_with file_moves play) (place + 1) rest (omega (arith, few)) are.2) refl

-- no number is written as the key of the variant
no_variant : (n : ℕ) → n < 2 ^ 64 → bytes_eq (codes "variant") (decimal n) ≡ false
no_variant n small = go (bytes_eq (codes "variant") (decimal n)) refl
  where
    go : (same : Bool) → bytes_eq (codes "variant") (decimal n) ≡ same → same ≡ false
    go true is =
        let digits : AllDigits 10 (codes "variant") = subst (AllDigits 10) (sym ((bytes_eq-Decides (codes "variant") (decimal n)).0 is)) (decimal_is_IsNumeral n small).0.1 in
        absurd (omega (arith, digits.0))
    go false is = refl

variant_lacks : (place : ℕ) (plays : List Play) → place + length plays < 2 ^ 64 → field_at (codes "variant") (numbered_hands place plays) ≡ None
variant_lacks place [] small = refl
variant_lacks place (play ∷ rest) small = rw (no_variant (place + 1) (omega (arith, small))) (variant_lacks (place + 1) rest (omega (arith, small)))

-- the tables of the document of plays
tables_again : (plays : List Play) → length plays < 2 ^ 64 → hands_of (document plays) ≡ Some (hand_tables 0 plays)
unfolding hands_of hand_table
tables_again [] small = refl
tables_again (play ∷ []) small = rw (get_member-table_of (codes "variant") (hand_fields 0 play)) refl
tables_again (play ∷ next ∷ rest) small =
    let plays = play ∷ next ∷ rest in
    rw (get_member-table_of (codes "variant") (numbered_hands 0 plays), variant_lacks 0 plays (omega (arith, small)), are_hands_again 0 plays (omega (arith, small)))
    (ap (λ tables. Some tables) (in_order_again plays small))

one_counted : (counts : EventCounts) (moves : Bool) (m : ℕ) → (one_more counts moves).file_moves + m ≡ counts.file_moves + (cond moves 1 0 + m)
one_counted counts true m = omega arith
one_counted counts false m = omega arith

-- the moves of the file grow by the moves of the events
moves_counted : (counts : EventCounts) (events : List Said) → (counts_with counts events).file_moves ≡ counts.file_moves + count_by is_move_event events
moves_counted counts [] = omega arith
moves_counted counts (event ∷ rest) =
    moves_counted (one_more counts (is_move_event event)) rest
    ∙ one_counted counts (is_move_event event) (count_by is_move_event rest)
    ∙ ap (λ (n : ℕ). counts.file_moves + n) (sym (count_by-cons is_move_event event rest))

room_for : (file_moves : ℕ) (plays : List Play) → AllByRecursion IsReadable plays → file_moves + sum_by moves_written plays ≤ MOST_FILE_MOVES → AreReadable file_moves plays
room_for file_moves [] each few = tt
room_for file_moves (play ∷ rest) each few =
    let sum = sum_by-cons moves_written play rest in
    let after = moves_counted (counts_after file_moves) (script_of play.trace) in
    let room : HaveRoom (counts_after file_moves) (script_of play.trace) =
    record { moves = omega (arith, each.0.within.moves); others = omega (arith, each.0.within.others); file_moves = omega (arith, few, sum) } in
    (each.0, room, room_for (moves_with file_moves play) rest each.1 (omega (arith, few, sum, after)))

-- bytes that spell plays read as the hands of these plays
pub plays_again : (plays : List Play) (bytes : List ℕ) → length plays ≤ MOST_HANDS → AllByRecursion IsReadable plays → sum_by moves_written plays ≤ MOST_FILE_MOVES → Spells plays bytes
    → reading bytes ≡ Ok (hands_again 0 plays)
unfolding reading
plays_again plays bytes few each moves spells =
    let whole : document_of bytes ≡ Some (document plays) = rw (is_utf8-from_IsUtf8 bytes spells.text) spells.table in
    rw (whole, tables_again plays (omega (arith, few)), hands_read 0 0 plays (omega (arith, few)) (room_for 0 plays each (omega (arith, moves)))) refl
