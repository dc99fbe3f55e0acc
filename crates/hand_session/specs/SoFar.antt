-- A session of the hands so far.
use Rattle.std.specs.Prelude.{◌≡◌, ◌≤◌, ◌*◌, ℕ, List, [], length, map, sum_by}
use Rattle.hand_canon.specs.declared.trace.Play.{Play}
use Rattle.hand_session.specs.declared.sessions.OpenSession.{OpenSession}
use Rattle.hand_session.specs.Hands.{hand_of}
use Rattle.hand_session.specs.Sessions.{names_of, session_of_name, steps_after}
use Rattle.hand_session.specs.Visits.{IsOfHands, MOST_OF_HAND, session_at, session_names}
use Rattle.printed_hands.specs.Indexed.{AreIndexed}

-- an open session has the rows, the steps and the rakes of these plays, each row found by its name
pub record IsSessionSoFar (session : OpenSession) (plays : List Play) : Type 0 where
  pub indexed : AreIndexed session.ledger.names (session_names session.ledger.rows.items)
  pub names : session_names session.ledger.rows.items ≡ names_of (map hand_of plays)
  pub rows : (name : List ℕ)
      → session_at session.ledger.rows.items name ≡ session_of_name (map hand_of plays) name
  pub within : (name : List ℕ) → IsOfHands (length plays) (session_of_name (map hand_of plays) name)
  pub steps : session.ledger.steps.items ≡ steps_after [] (map hand_of plays)
  pub hands : session.hands ≡ length plays
  pub rake : session.rake ≡ sum_by (λ hand. hand.rake) (map hand_of plays)
  pub few : session.rake ≤ length plays * MOST_OF_HAND
