-- The first line of a text ends at the first newline that a search finds or, if there is none, with
-- the text.
use Rattle.std.proofs.Common.{◌≡◌, ℕ, ◌+◌, ◌-◌, ◌<◌, eqb, List, [], ◌∷◌, length, take, drop, Some, None, sym, arith, length-drop}
use Rattle.std.specs.List.{position_or_len}
use Rattle.std.proofs.lemmas.Bool.{false_from_ne_true}
use Rattle.std.proofs.lemmas.List.{take_all}
use Rattle.std.proofs.lemmas.List.Sums.{position_or_len_is}
use Rattle.memchr.specs.Find.{IsFirstByte, is_byte}
use Rattle.acpc_game.specs.Parts.{without_return, lines_of}
use Rattle.acpc_game.proofs.LineLaws.{last_line, line_and_more}
use Rattle.acpc_game.proofs.PartLaws.{first_part, last_part}

found_place : (text : List ℕ) (place : ℕ) → IsFirstByte (is_byte 10) text (Some place) → position_or_len (λ b. eqb b 10) text ≡ place
found_place text place first =
    position_or_len_is (λ b. eqb b 10) text place 0 (omega (arith, first.0.high)) (λ k within. false_from_ne_true _ (first.0.before k (omega arith) within)) (λ _. first.1)

pub found_line : (text : List ℕ) (place : ℕ) → IsFirstByte (is_byte 10) text (Some place) → lines_of text ≡ without_return (take place text) ∷ lines_of (take (length text - (place + 1)) (drop (place + 1) text))
found_line text place first =
    let behind = drop (place + 1) text in
    rw (take_all (length text - (place + 1)) behind (omega (arith, length-drop (place + 1) text)))
    (line_and_more text (take place text) behind (first_part 10 place text (sym (found_place text place first)) first.0.high))

pub whole_line : (text : List ℕ) → IsFirstByte (is_byte 10) text None → 0 < length text → lines_of text ≡ without_return text ∷ []
whole_line text nowhere some =
    let none : position_or_len (λ b. eqb b 10) text ≡ length text = position_or_len_is (λ b. eqb b 10) text (length text) 0 (omega arith) (λ k within. false_from_ne_true _ (nowhere k (omega arith) within)) (λ within. absurd (omega (arith, within))) in
    last_line text text (last_part 10 text (omega (arith, none))) some
