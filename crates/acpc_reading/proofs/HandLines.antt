-- A log has a line for each of its hands.
use Rattle.std.proofs.Common.{◌≡◌, ℕ, ◌+◌, Bool, true, false, if◌then◌else◌, List, [], ◌∷◌, ◌++◌, length, length-append, Result, Ok, Err, IfOk, arith}
use Rattle.std.specs.Prelude.{nat_le}
use Rattle.std.proofs.lemmas.Result.{IfOk-weaker}
use Rattle.first_fault.specs.Reading.{◌>>=◌}
use Rattle.first_fault.specs.declared.limits.TheConstants.{MOST_HANDS}
use Rattle.first_fault.specs.declared.limits.Quantity.TheVariants as quantities
use Rattle.acpc_game.specs.Faults.{in_line, wrong}
use Rattle.acpc_game.specs.Parts.{lines_of}
use Rattle.acpc_game.specs.declared.fault.AcpcFault.{AcpcFault}
use Rattle.acpc_game.specs.declared.fault.LineFaultKind.TheVariants as whats
use Rattle.acpc_game.specs.declared.game.Game.{Game}
use Rattle.acpc_reading.specs.Begins.{hand_lines, hand_lines_from}
use Rattle.acpc_reading.specs.Logs.{Hands, HandSaid, hands_after, hands_after_line, is_passed_over, line_said, reading, with_hand}

-- there are as many more hands as lines that are hands
lines_of_hands : (game : Game) (hands : Hands) (number : ℕ) (lines : List (List ℕ))
    → IfOk (hands_after game hands number lines) (λ more. length more.0 ≡ length hands.0 + length (hand_lines_from number lines))
unfolding hands_after hands_after_line
lines_of_hands game hands number [] = omega arith
lines_of_hands game hands number (line ∷ lines) =
    go (is_passed_over line) (nat_le MOST_HANDS (length hands.0)) (in_line number (line_said game (length hands.0) hands.1 line))
    (λ more. lines_of_hands game more (number + 1) lines)
  where
    go : (passed full : Bool) (found : Result (HandSaid × ℕ) AcpcFault)
        → ((more : Hands) → IfOk (hands_after game more (number + 1) lines) (λ all. length all.0 ≡ length more.0 + length (hand_lines_from (number + 1) lines)))
        → IfOk
        ((if passed then Ok hands else if full then in_line number (wrong (whats.TooMany quantities.Hands) 1) else with_hand hands.0 found)
        >>= λ more. hands_after game more (number + 1) lines)
        (λ all. length all.0
        ≡ length hands.0 + length (if passed then hand_lines_from (number + 1) lines else number ∷ hand_lines_from (number + 1) lines))
    go true full found behind = behind hands
    go false true found behind = tt
    go false false (Err fault) behind = tt
    go false false (Ok hand) behind =
        let more : Hands = (hands.0 ++ hand.0 ∷ [], hand.1) in
        IfOk-weaker (hands_after game more (number + 1) lines) _ _ (λ all is. omega (arith, is, length-append hands.0 (hand.0 ∷ []))) (behind more)

pub hands_have_lines : (game : Game) (bytes : List ℕ) → IfOk (reading game bytes) (λ hands. length hands ≡ length (hand_lines bytes))
unfolding reading
hands_have_lines game bytes = go (hands_after game ([], 0) 1 (lines_of bytes)) (lines_of_hands game ([], 0) 1 (lines_of bytes))
  where
    go : (found : Result Hands AcpcFault) → IfOk found (λ more. length more.0 ≡ 0 + length (hand_lines bytes))
        → IfOk (found >>= λ hands. Ok hands.0) (λ hands. length hands ≡ length (hand_lines bytes))
    go (Ok more) is = omega (arith, is)
    go (Err fault) is = tt
