-- The written lines of plays read as the hands of these plays.
use Rattle.std.proofs.Common.{◌≡◌, ℕ, ◌+◌, ◌-◌, ◌≤◌, ◌<◌, Bool, false, eqb, List, [], ◌∷◌, ◌++◌, length, slice_index, sum_by, Result, Ok, refl, sym, ap, ap₂, ◌∙◌, arith, append_assoc, ne_eqb}
use Rattle.std.specs.List.{AllByRecursion}
use Rattle.std.proofs.lemmas.Bool.{lt-leb}
use Rattle.std.proofs.lemmas.List.{append-nil, length-append}
use Rattle.std.proofs.lemmas.List.Sums.{sum_by-cons}
use Rattle.first_fault.specs.declared.limits.TheConstants.{MOST_FILE_MOVES, MOST_HANDS}
use Rattle.hand_canon.specs.declared.trace.Play.{Play}
use Rattle.first_fault.specs.Reading.{◌>>=◌}
use Rattle.acpc_game.proofs.LineLaws.{line_and_more}
use Rattle.acpc_game.specs.Parts.{lines_of, without_return}
use Rattle.acpc_game.specs.declared.fault.AcpcFault.{AcpcFault}
use Rattle.acpc_game.specs.declared.game.Game.{Game}
use Rattle.acpc_format.specs.Line.{lines_from, log_text}
use Rattle.acpc_reading.specs.Logs.{HandSaid, Hands, hands_after, hands_after_line, is_passed_over, reading}
use Rattle.acpc_format.specs.Again.{hand_again, hands_again}
use Rattle.acpc_format.proofs.Readable.{IsReadable}
use Rattle.acpc_format.proofs.LineAgain.{Fields, few_moves, fields_clear, fields_of, in_fields, inner_line, is_inner, line_is, line_read, steps_of}
use Rattle.acpc_format.proofs.Splits.{Passes, cut, free}
use Rattle.acpc_format.proofs.Steps.{moves_in}
use Rattle.hand_canon.specs.Plays.{moves_written}

-- the lines of plays without their newlines
abbrev bare_lines : Bool → ℕ → List Play → List (List ℕ)
bare_lines no_limit place [] = []
bare_lines no_limit place (play ∷ rest) = in_fields (fields_of no_limit place play) ∷ bare_lines no_limit (place + 1) rest

-- a line that does not end with a carriage return is unchanged
same_line : (fields : Fields) → Passes is_inner (in_fields fields) → without_return (in_fields fields) ≡ in_fields fields
same_line fields inner =
    let line = in_fields fields in
    let none : eqb (slice_index line (length line - 1)) 13 ≡ false = free is_inner 13 line refl inner (length line - 1) 0 (omega arith) in
    rw none refl

cut_lines : (game : Game) (place : ℕ) (plays : List Play) → place + length plays ≤ MOST_HANDS → AllByRecursion (IsReadable game) plays → lines_of (lines_from game.no_limit place plays) ≡ bare_lines game.no_limit place plays
cut_lines game place [] few each = refl
cut_lines game place (play ∷ rest) few each =
    let fields = fields_of game.no_limit place play in
    let inner = inner_line fields (fields_clear game place play (omega (arith, few)) each.0) in
    let more = lines_from game.no_limit (place + 1) rest in
    ap (λ (l : List ℕ). lines_of (l ++ more)) (line_is game.no_limit place play)
    ∙ ap lines_of (append_assoc (in_fields fields) (10 ∷ []) more)
    ∙ line_and_more (in_fields fields ++ 10 ∷ more) (in_fields fields) more (cut is_inner 10 (in_fields fields) more refl inner)
    ∙ ap₂ (λ (l : List ℕ) (ls : List (List ℕ)). l ∷ ls) (same_line fields inner) (cut_lines game (place + 1) rest (omega (arith, few)) each.1)

not_passed : (fields : Fields) → is_passed_over (in_fields fields) ≡ false
not_passed fields = rw (ne_eqb (length (in_fields fields)) 0 (λ none. omega (arith, none))) refl

-- one more line
one_more : (game : Game) (hands : List HandSaid) (file_moves line : ℕ) (play : Play) → length hands < MOST_HANDS → IsReadable game play → file_moves + moves_written play ≤ MOST_FILE_MOVES
    → hands_after_line game (hands, file_moves) line (in_fields (fields_of game.no_limit (length hands) play)) ≡ Ok (hands ++ hand_again game.no_limit (length hands) play ∷ [], file_moves + moves_in (steps_of game play))
unfolding hands_after_line
one_more game hands file_moves line play few readable moves =
    rw (not_passed (fields_of game.no_limit (length hands) play), lt-leb MOST_HANDS (length hands) few)
    (rw (line_read game (length hands) file_moves play (omega (arith, few)) readable moves) refl)

-- the lines of all plays
all_read : (game : Game) (hands : List HandSaid) (file_moves line : ℕ) (plays : List Play) → length hands + length plays ≤ MOST_HANDS → AllByRecursion (IsReadable game) plays
    → file_moves + sum_by moves_written plays ≤ MOST_FILE_MOVES
    → (hands_after game (hands, file_moves) line (bare_lines game.no_limit (length hands) plays) >>= λ found. Ok found.0) ≡ Ok (hands ++ hands_again game.no_limit (length hands) plays)
unfolding hands_after
all_read game hands file_moves line [] few each moves = ap Ok (sym (append-nil hands))
all_read game hands file_moves line (play ∷ rest) few each moves =
    let hand = hand_again game.no_limit (length hands) play in
    let longer : length (hands ++ hand ∷ []) ≡ length hands + 1 = length-append hands (hand ∷ []) in
    let split = sum_by-cons moves_written play rest in
    let next = file_moves + moves_in (steps_of game play) in
    ap (λ (found : Result Hands AcpcFault). (found >>= λ (more : Hands). hands_after game more (line + 1) (bare_lines game.no_limit (length hands + 1) rest)) >>= λ (found : Hands). Ok found.0)
    (one_more game hands file_moves line play (omega (arith, few)) each.0 (omega (arith, moves, split)))
    ∙ ap (λ n. hands_after game (hands ++ hand ∷ [], next) (line + 1) (bare_lines game.no_limit n rest) >>= λ (found : Hands). Ok found.0) (sym longer)
    ∙ all_read game (hands ++ hand ∷ []) next (line + 1) rest (omega (arith, few, longer)) each.1 (omega (arith, moves, split, few_moves game play))
    ∙ ap Ok (append_assoc hands (hand ∷ []) (hands_again game.no_limit (length (hands ++ hand ∷ [])) rest)
    ∙ ap (λ n. hands ++ hand ∷ hands_again game.no_limit n rest) longer)

-- written plays read as their hands
pub plays_again : (game : Game) (plays : List Play) → length plays ≤ MOST_HANDS → AllByRecursion (IsReadable game) plays → sum_by moves_written plays ≤ MOST_FILE_MOVES
    → reading game (log_text game.no_limit plays) ≡ Ok (hands_again game.no_limit 0 plays)
unfolding reading
plays_again game plays few each moves =
    ap (λ (lines : List (List ℕ)). hands_after game ([], 0) 1 lines >>= λ (found : Hands). Ok found.0) (cut_lines game 0 plays (omega (arith, few)) each)
    ∙ all_read game [] 0 1 plays (omega (arith, few)) each (omega (arith, moves))
