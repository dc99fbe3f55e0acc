-- A session of no hands.
use Rattle.std.proofs.Common.{List, ap, sym, subst, refl, arith}
use Rattle.printed_hands.specs.Indexed.{AreIndexed}
use Rattle.hand_session.specs.declared.player_sessions.PlayerSession.{PlayerSession}
use Rattle.hand_session.specs.Visits.{session_at, session_names}
use Rattle.hand_session.proofs.HandByHand.{within_none}
use Rattle.hand_session.proofs.sessions.OpenSession.new.Goals as goal

pub returns : goal.returns
returns c =
    let ledger = c.new_ledger.ensures in
    record {
      indexed = subst (λ (rows : List PlayerSession). AreIndexed c.new_ledger.result.names (session_names rows)) (sym ledger.rows) ledger.names;
      names = ap session_names ledger.rows;
      rows = λ name. ap (λ rows. session_at rows name) ledger.rows;
      within = within_none;
      steps = ledger.steps;
      hands = refl;
      rake = refl;
      few = omega arith;
    }
