-- What one more event does to a hand: the answer of the rules, and the state after it.
use Rattle.std.specs.Prelude.{◌≡◌, Option, Some, None, Result, IfErr, IfOk, OnOk}
use Rattle.betting_core.specs.HandNumbers.{IsSameHand}
use Rattle.betting_numbers.specs.LegalMoves.{past_with, reason_after}
use Rattle.betting_numbers.specs.declared.betting_state.BettingState.{BettingState}
use Rattle.card_places.specs.declared.card_state.CardState.{CardState}
use Rattle.play_event.specs.Said.{Said}
use Rattle.play_event.specs.declared.played.Move.{Move}
use Rattle.play_event.specs.declared.reason.Illegal.{Illegal}
use Rattle.replay_core.specs.Together.{StandTogether}
use Rattle.replay_core.specs.AddedMoves.{AddsMove, WhereTogether}

-- the hand is the same, and its cards have the same number of seats
pub record IsHandOf (b next : BettingState) (t after : CardState) : Type 0 where
  pub hand : IsSameHand b next
  pub seats : after.seats ≡ t.seats

-- The answer to an event, where `b` and `t` are the betting and the cards before it, and `next` and
-- `after` those after it.
pub record Advances (b next : BettingState) (t after : CardState) (event : Said)
    (answer : Result (Option Move) Illegal) : Type 0 where
  -- it is refused for the first reason that holds
  pub refused :
      WhereTogether b t (λ past. IfErr answer (λ reason. reason_after b past event ≡ Some reason))
  -- it is accepted if it is legal
  pub legal : WhereTogether b t (λ past. OnOk answer (reason_after b past event ≡ None))
  -- betting and cards then describe the past with this event
  pub stands :
      WhereTogether b t (λ past. OnOk answer (StandTogether next after (past_with b past event)))
  -- a move is returned as the trace keeps it
  pub added : WhereTogether b t (λ past. IfOk answer (AddsMove b event past))
  pub same : IsHandOf b next t after
