use Rattle.std.proofs.Common.{◌≡◌, drop, map}
use Rattle.hand_canon.specs.TraceRows.{place_said}
use Rattle.acpc_format.specs.Rounds.{has_board}
use Rattle.acpc_format.proofs.cards.is_board_dealt.Given as goal

-- the places that are left decide
abbrev pub invariant-loop-place : goal.invariant-loop-place
invariant-loop-place l = has_board (map place_said (drop l.place-index l.places)) l.street ≡ has_board (map place_said l.places) l.street
