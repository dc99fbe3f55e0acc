-- A text has a line for each of its blocks, and a hand for each block.
use Rattle.std.proofs.Common.{◌≡◌, ℕ, ◌+◌, Bool, true, false, if◌then◌else◌, List, [], ◌∷◌, ◌++◌, length, length-append, Option, Some, None, is_some, Result, Ok, Err, IfOk, refl, arith}
use Rattle.std.specs.Prelude.{nat_lt}
use Rattle.first_fault.specs.Reading.{◌>>=◌, thread_from}
use Rattle.first_fault.specs.declared.limits.TheConstants.{MOST_HANDS}
use Rattle.hand_canon.specs.PlainHands.{PlainHand}
use Rattle.ohh_members.specs.declared.dialect.Dialect.{Dialect}
use Rattle.ohh_reading.specs.Begins.{block_lines, block_lines_from}
use Rattle.ohh_reading.specs.Blocks.{blocks_from, blocks_of, is_blank, lines_of}
use Rattle.ohh_reading.specs.Reading.{Wrong, found_said, hands_said, numbered_hand, past_hands, reading, tree_of, wrong_in}

-- ---- blocks

-- a block that is not complete yet is one more
abbrev waiting : Option (List ℕ) → ℕ
waiting None = 0
waiting (Some block) = 1

blocks_have_lines : (begun : Option (List ℕ)) (number : ℕ) (lines : List (List ℕ))
    → length (blocks_from begun lines) ≡ waiting begun + length (block_lines_from (is_some begun) number lines)
blocks_have_lines None number [] = refl
blocks_have_lines (Some block) number [] = refl
blocks_have_lines None number (line ∷ lines) =
    go (is_blank line) (blocks_have_lines None (number + 1) lines) (blocks_have_lines (Some line) (number + 1) lines)
  where
    go : (blank : Bool) → length (blocks_from None lines) ≡ 0 + length (block_lines_from false (number + 1) lines)
        → length (blocks_from (Some line) lines) ≡ 1 + length (block_lines_from true (number + 1) lines)
        → length (if blank then blocks_from None lines else blocks_from (Some line) lines)
        ≡ 0 + length (if blank then block_lines_from false (number + 1) lines else number ∷ block_lines_from true (number + 1) lines)
    go true without within = without
    go false without within = omega (arith, within)
blocks_have_lines (Some block) number (line ∷ lines) =
    go (is_blank line) (blocks_have_lines None (number + 1) lines) (blocks_have_lines (Some (block ++ 10 ∷ line)) (number + 1) lines)
  where
    go : (blank : Bool) → length (blocks_from None lines) ≡ 0 + length (block_lines_from false (number + 1) lines)
        → length (blocks_from (Some (block ++ 10 ∷ line)) lines) ≡ 1 + length (block_lines_from true (number + 1) lines)
        → length (if blank then block ∷ blocks_from None lines else blocks_from (Some (block ++ 10 ∷ line)) lines)
        ≡ 1 + length (if blank then block_lines_from false (number + 1) lines else block_lines_from true (number + 1) lines)
    go true without within = omega (arith, without)
    go false without within = within

-- ---- hands

one_hand : (dialect : Dialect) (file_moves number : ℕ) (block : List ℕ) → IfOk {T = List PlainHand × ℕ} (numbered_hand dialect file_moves number block) (λ found. length found.0 ≡ 1)
unfolding numbered_hand
one_hand dialect file_moves number block = go (nat_lt MOST_HANDS number) (found_said dialect file_moves number (tree_of block))
  where
    go : (past : Bool) (found : Result (PlainHand × ℕ) Wrong)
        → IfOk {T = List PlainHand × ℕ} (if past then Err (wrong_in number past_hands) else (found >>= λ hand. Ok (hand.0 ∷ [], hand.1))) (λ found. length found.0 ≡ 1)
    go true found = tt
    go false (Ok hand) = refl
    go false (Err fault) = tt

hand_by_hand : (dialect : Dialect) (file_moves number : ℕ) (blocks : List (List ℕ))
    → IfOk {T = List PlainHand × ℕ} (thread_from (numbered_hand dialect) file_moves number blocks) (λ all. length all.0 ≡ length blocks)
unfolding thread_from
hand_by_hand dialect file_moves number [] = refl
hand_by_hand dialect file_moves number (block ∷ blocks) =
    go (numbered_hand dialect file_moves number block) (one_hand dialect file_moves number block) (λ moves. hand_by_hand dialect moves (number + 1) blocks)
  where
    last : (here : List PlainHand) (others : Result (List PlainHand × ℕ) Wrong) → length here ≡ 1 → IfOk others (λ all. length all.0 ≡ length blocks)
        → IfOk {T = List PlainHand × ℕ} (others >>= λ more. Ok (here ++ more.0, more.1)) (λ all. length all.0 ≡ length (block ∷ blocks))
    last here (Ok more) one is = omega (arith, one, is, length-append here more.0)
    last here (Err fault) one is = tt

    go : (here : Result (List PlainHand × ℕ) Wrong) → IfOk here (λ found. length found.0 ≡ 1)
        → ((moves : ℕ) → IfOk (thread_from (numbered_hand dialect) moves (number + 1) blocks) (λ all. length all.0 ≡ length blocks))
        → IfOk {T = List PlainHand × ℕ} (here >>= λ found. thread_from (numbered_hand dialect) found.1 (number + 1) blocks >>= λ others. Ok (found.0 ++ others.0, others.1))
        (λ all. length all.0 ≡ length (block ∷ blocks))
    go (Ok found) one behind = last found.0 (thread_from (numbered_hand dialect) found.1 (number + 1) blocks) one (behind found.1)
    go (Err fault) one behind = tt

pub hands_have_lines : (dialect : Dialect) (bytes : List ℕ) → IfOk (reading dialect bytes) (λ hands. length hands ≡ length (block_lines bytes))
unfolding reading
hands_have_lines dialect bytes = go (hands_said dialect (blocks_of bytes)) (hand_by_hand dialect 0 1 (blocks_of bytes))
  where
    go : (found : Result (List PlainHand × ℕ) Wrong) → IfOk found (λ all. length all.0 ≡ length (blocks_of bytes))
        → IfOk {T = List PlainHand} (found >>= λ all. Ok all.0) (λ hands. length hands ≡ length (block_lines bytes))
    go (Ok found) is = omega (arith, is, blocks_have_lines None 1 (lines_of bytes))
    go (Err fault) is = tt
