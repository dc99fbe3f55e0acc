-- The first stack, the gaps and the net results of each row add up to its last stack.
use Rattle.std.proofs.Common.{◌≡◌, map, pos, ◌+ℤ◌}
use Rattle.hand_session.specs.declared.player_sessions.PlayerSession.{PlayerSession}
use Rattle.hand_session.specs.Hands.{hand_of}
use Rattle.hand_session.specs.Sessions.{names_of, session_of, session_of_name}
use Rattle.hand_session.proofs.Stacks.{each_row, first_to_last}
use Rattle.hand_session.proofs.laws.law_of_stacks.Goals as goal

pub returns : goal.returns
unfolding session_of
returns c plays =
    each_row (λ (row : PlayerSession). (pos row.first +ℤ row.gaps) +ℤ row.net ≡ pos row.last) (session_of_name (map hand_of plays)) (first_to_last (map hand_of plays)) (names_of (map hand_of plays))
