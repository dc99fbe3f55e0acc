use Rattle.std.proofs.Common.{◌≡◌, ◌++◌, map}
use Rattle.hand_canon.specs.TraceRows.{place_said}
use Rattle.acpc_format.specs.Cards.{hole_text}
use Rattle.acpc_format.specs.Seats.{for_seats}
use Rattle.acpc_format.proofs.cards.push_cards.Given as goal

-- the hole cards of the seats so far are written
abbrev pub invariant-loop-index : goal.invariant-loop-index
invariant-loop-index l = l.out.items ≡ l.fn.out.items ++ for_seats (hole_text (map place_said l.places)) l.index
