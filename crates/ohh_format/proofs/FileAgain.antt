-- The lines of plays that were written read as the hands of these plays.
use Rattle.std.proofs.Common.{◌≡◌, ℕ, ◌+◌, ◌-◌, ◌<◌, ◌≤◌, false, nat_lt, List, [], ◌∷◌, ◌++◌, length, sum_by, Some, Result, Ok, Err, refl, ap, ◌∙◌, arith}
use Rattle.std.specs.List.{AllByRecursion}
use Rattle.std.proofs.lemmas.Bool.{le-ltb}
use Rattle.std.proofs.lemmas.List.Sums.{sum_by-cons}
use Rattle.std.proofs.lemmas.Str.{is_utf8-from_IsUtf8}
use Rattle.first_fault.specs.Reading.{◌>>=◌, thread_from}
use Rattle.first_fault.specs.declared.limits.TheConstants.{MOST_FILE_MOVES, MOST_HANDS}
use Rattle.hand_canon.specs.declared.trace.Play.{Play}
use Rattle.ohh_members.specs.declared.dialect.Dialect.{Dialect}
use Rattle.ohh_writing.specs.Lines.{AreRead, IsTextOf, Spells, hand_text}
use Rattle.ohh_writing.specs.Tree.{hand_tree}
use Rattle.ohh_reading.specs.Reading.{Wrong, found_said, hands_said, numbered_hand, reading, tree_of, tree_said}
use Rattle.ohh_reading.specs.Blocks.{blocks_of}
use Rattle.ohh_rounds.specs.Steps.{moves_in}
use Rattle.ohh_format.specs.Again.{hand_again, hands_again}
use Rattle.ohh_format.proofs.BlocksAgain.{blocks_again, texts}
use Rattle.ohh_format.proofs.HandAgain.{IsReadable, counted, hand_read, hand_steps}
use Rattle.hand_canon.specs.Plays.{moves_written}
use Rattle.hand_canon.specs.PlainHands.{PlainHand}

-- the text of a hand reads as its tree
text_again : (dialect : Dialect) (place : ℕ) (play : Play) → IsTextOf dialect place play → tree_of (hand_text dialect place play) ≡ Some (hand_tree dialect place play)
text_again dialect place play is = rw (is_utf8-from_IsUtf8 (hand_text dialect place play) is.text) is.tree

module _ (dialect : Dialect) (place : ℕ) (play : Play) (is : IsReadable play) (file_moves : ℕ) (few : file_moves + moves_written play ≤ MOST_FILE_MOVES) where
  -- the number of moves in the file after the hand
  abbrev moves_after : ℕ
  moves_after = file_moves + moves_in (hand_steps dialect place play is file_moves few)

  tree_again : place < MOST_HANDS → tree_said dialect file_moves place (hand_tree dialect place play) ≡ Ok (hand_again dialect place play, moves_after)
  unfolding tree_said hand_tree
  tree_again within = hand_read dialect place play is file_moves few within

  one_again : place < MOST_HANDS → IsTextOf dialect place play → numbered_hand dialect file_moves (place + 1) (hand_text dialect place play) ≡ Ok (hand_again dialect place play ∷ [], moves_after)
  unfolding numbered_hand found_said
  one_again within text =
      let at : place + 1 - 1 ≡ place = omega arith in
      let in_limit : nat_lt MOST_HANDS (place + 1) ≡ false = le-ltb MOST_HANDS (place + 1) (omega (arith, within)) in
      rw (in_limit, text_again dialect place play text, at, tree_again within) refl

-- hands with the number of moves in the file, without this number
abbrev hands_found : Result (List PlainHand × ℕ) Wrong → Result (List PlainHand) Wrong
hands_found found = found >>= λ both. Ok both.0

with_first : (hand : PlainHand) (rest : List PlainHand) (others : Result (List PlainHand × ℕ) Wrong) → hands_found others ≡ Ok rest → hands_found (others >>= λ (more : List PlainHand × ℕ). Ok (hand ∷ [] ++ more.0, more.1)) ≡ Ok (hand ∷ rest)
with_first hand rest others is = by_others others is
  where
    by_others : (others : Result (List PlainHand × ℕ) Wrong) → hands_found others ≡ Ok rest → hands_found (others >>= λ (more : List PlainHand × ℕ). Ok (hand ∷ [] ++ more.0, more.1)) ≡ Ok (hand ∷ rest)
    by_others (Ok found) is = ap (λ (found : Result (List PlainHand) Wrong). found >>= λ hands. Ok (hand ∷ hands)) is
    by_others (Err fault) is = absurd (cc (is))

-- the texts of plays
hands_read : (dialect : Dialect) (file_moves place : ℕ) (plays : List Play) → place + length plays ≤ MOST_HANDS → AllByRecursion IsReadable plays → file_moves + sum_by moves_written plays ≤ MOST_FILE_MOVES → AreRead dialect place plays
    → hands_found (thread_from (numbered_hand dialect) file_moves (place + 1) (texts dialect place plays)) ≡ Ok (hands_again dialect place plays)
unfolding thread_from
hands_read dialect file_moves place [] few each moves read = refl
hands_read dialect file_moves place (play ∷ rest) few each moves read =
    let sum = sum_by-cons moves_written play rest in
    let fits : file_moves + moves_written play ≤ MOST_FILE_MOVES = omega (arith, moves, sum) in
    let next : ℕ = moves_after dialect place play each.0 file_moves fits in
    let counted_here = counted dialect place play each.0 file_moves fits in
    rw (one_again dialect place play each.0 file_moves fits (omega (arith, few)) read.0)
    (with_first (hand_again dialect place play) (hands_again dialect (place + 1) rest) (thread_from (numbered_hand dialect) next (place + 1 + 1) (texts dialect (place + 1) rest))
    (hands_read dialect next (place + 1) rest (omega (arith, few)) each.1 (omega (arith, moves, sum, counted_here)) read.1))

-- bytes that spell plays read as the hands of these plays
pub plays_again : (dialect : Dialect) (plays : List Play) (bytes : List ℕ) → length plays ≤ MOST_HANDS → AllByRecursion IsReadable plays → sum_by moves_written plays ≤ MOST_FILE_MOVES → Spells dialect plays bytes
    → reading dialect bytes ≡ Ok (hands_again dialect 0 plays)
unfolding reading
plays_again dialect plays bytes few each moves spells =
    let blocks : blocks_of bytes ≡ texts dialect 0 plays = ap blocks_of spells.lines ∙ blocks_again dialect 0 plays in
    ap (λ (l : List (List ℕ)). hands_found (hands_said dialect l)) blocks
    ∙ hands_read dialect 0 0 plays (omega (arith, few)) each (omega (arith, moves)) spells.trees
