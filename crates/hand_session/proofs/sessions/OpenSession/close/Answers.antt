-- The session of all hands.
use Rattle.std.proofs.Common.{◌≡◌, map, sym, subst, ◌∙◌}
use Rattle.hand_session.specs.Hands.{hand_of}
use Rattle.hand_session.specs.Sessions.{all_seated, names_of, session_of, session_of_name}
use Rattle.hand_session.specs.Visits.{session_names}
use Rattle.printed_hands.proofs.Distinct.{AreDistinct}
use Rattle.hand_session.proofs.SeatNames.{distinct_names}
use Rattle.hand_session.proofs.RowUpdates.{found_rows}
use Rattle.hand_session.proofs.sessions.OpenSession.close.Goals as goal

pub returns : goal.returns
unfolding session_of
returns c = λ plays so_far.
    let rows = c.args.self.ledger.rows.items in
    let hands = map hand_of plays in
    let distinct : AreDistinct (session_names rows) = subst AreDistinct (sym so_far.names) (distinct_names (all_seated hands)) in
    let rows_are : rows ≡ map (session_of_name hands) (names_of hands) =
    found_rows rows distinct ∙ (λ i. map (λ name. so_far.rows name i) (so_far.names i)) in
    λ i. record {
      steps = (c.finished.ensures.steps ∙ so_far.steps) i;
      rows = (c.finished.ensures.rows ∙ rows_are) i;
      rake = (c.finished.ensures.rake ∙ so_far.rake) i;
    }
