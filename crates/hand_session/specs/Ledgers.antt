-- What a ledger of rows and steps needs before one more hand, and what it has after it.
use Rattle.std.specs.Prelude.{◌≡◌, ◌≤◌, ◌++◌, ℕ, List}
use Rattle.first_fault.specs.declared.limits.TheConstants.{MOST_HANDS}
use Rattle.printed_hands.specs.Indexed.{AreIndexed}
use Rattle.hand_session.specs.declared.ledger.Ledger.{Ledger}
use Rattle.hand_session.specs.declared.player_sessions.PlayerSession.{PlayerSession}
use Rattle.hand_session.specs.declared.steps.Step.{Step}
use Rattle.hand_session.specs.Visits.{session_names}

-- The names of a ledger are indexed, and the next hand has a number.
pub record TakesHand (ledger : Ledger) (number : ℕ) : Type 0 where
  pub names : AreIndexed ledger.names (session_names ledger.rows.items)
  pub first : 1 ≤ number
  pub few : number ≤ MOST_HANDS

-- A ledger has these rows, with their names indexed, and these steps more than before.
pub record HasGrown (old new : Ledger) (all : List PlayerSession) (more : List Step) : Type 0 where
  pub names : AreIndexed new.names (session_names new.rows.items)
  pub rows : new.rows.items ≡ all
  pub steps : new.steps.items ≡ old.steps.items ++ more
