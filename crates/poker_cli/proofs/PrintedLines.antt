-- The lines of one more hand, and of all hands.
use Rattle.std.proofs.Common.{◌≡◌, ℕ, ◌+◌, List, [], ◌∷◌, ◌++◌, length, sym, ap, ◌∙◌, arith}
use Rattle.std.proofs.lemmas.List.{length-map}
use Rattle.hand_canon.specs.declared.record.Record.{Record}
use Rattle.hand_canon.specs.declared.trace.Play.{Play}
use Rattle.printed_hands.specs.Check.{check_end, check_line, check_said, each_hand}
use Rattle.printed_hands.specs.Replay.{replay_said}
use Rattle.printed_hands.specs.Steps.{replay_lines}
use Rattle.printed_hands.proofs.Hands.{one_hand_more}
use Rattle.poker_cli.specs.Played.{HaveTaken}
use Rattle.poker_cli.specs.Texts.{IsTextOf}

-- before the first hand
pub none_printed : (lines : ℕ → Play → List ℕ) (text : List ℕ) → text ≡ [] → text ≡ each_hand lines 1 []
unfolding each_hand
none_printed lines text empty = empty

-- after the lines of the hands before
pub now_printed : (lines : ℕ → Play → List ℕ) (text new : List ℕ) (place : ℕ) (before : List Play) (play : Play)
    → text ≡ each_hand lines 1 before → length before ≡ place → new ≡ text ++ lines (place + 1) play
    → new ≡ each_hand lines 1 (before ++ play ∷ [])
now_printed lines text new place before play printed counted more =
    let here : place + 1 ≡ 1 + length before = omega (arith, counted) in
    more ∙ ap (λ (xs : List ℕ). xs ++ lines (place + 1) play) printed
    ∙ ap (λ (n : ℕ). each_hand lines 1 before ++ lines n play) here
    ∙ sym (one_hand_more lines 1 before play)

-- after all hands, `check` has a last line
pub check_is : (records : List Record) (hands : ℕ) (text new : List ℕ) → HaveTaken (λ plays. text ≡ each_hand check_line 1 plays) records
    → hands ≡ length records → new ≡ text ++ check_end hands → IsTextOf check_said records new
check_is records hands text new taken all more =
    let counted : length records ≡ length taken.plays =
    sym (ap length taken.are.same) ∙ length-map taken.plays (λ (play : Play). play.hand) in
    record {
      plays = taken.plays;
      are = taken.are;
      said = more ∙ ap (λ (xs : List ℕ). xs ++ check_end hands) taken.took
          ∙ ap (λ (n : ℕ). each_hand check_line 1 taken.plays ++ check_end n) (all ∙ counted);
    }

-- and `replay` has none
pub replay_is : (records : List Record) (text : List ℕ) → HaveTaken (λ plays. text ≡ each_hand replay_lines 1 plays) records
    → IsTextOf replay_said records text
replay_is records text taken = record { plays = taken.plays; are = taken.are; said = taken.took }
