-- A board is seen if it has begun and is there.
use Rattle.std.proofs.Common.{List, map, sym, ap, ◌∙◌}
use Rattle.hand_canon.specs.TraceRows.{core_said, place_said}
use Rattle.play_event.specs.Played.{move_said}
use Rattle.play_event.specs.declared.played.Move.{Move}
use Rattle.play_event.specs.declared.played.Place.{Place}
use Rattle.acpc_format.specs.Rounds.{has_board}
use Rattle.acpc_view.specs.View.{has_begun}
use Rattle.acpc_view.proofs.LineLengths.{board_seen_else, board_seen_then}
use Rattle.acpc_view.proofs.counting.Seen.is_board_seen.Goals as goal

pub returns-then-has_reached_street : goal.returns-then-has_reached_street
returns-then-has_reached_street c =
    board_seen_then (core_said c.args.self.now.trace.now) c.args.self.now.viewer.number c.args.self.now.count c.args.street c.is_board_dealt.result
    (ap (λ (moves : List Move). has_begun (map move_said moves) c.args.self.now.count c.args.street) (sym c.as_slice.ensures) ∙ sym c.has_reached_street.ensures ∙ c.if-has_reached_street.true)
    (c.is_board_dealt.ensures ∙ ap (λ (places : List Place). has_board (map place_said places) c.args.street) c.as_slice-then-has_reached_street.ensures)

pub returns-else-has_reached_street : goal.returns-else-has_reached_street
returns-else-has_reached_street c =
    c.if-has_reached_street.false ∙ board_seen_else (core_said c.args.self.now.trace.now) c.args.self.now.viewer.number c.args.self.now.count c.args.street
    (ap (λ (moves : List Move). has_begun (map move_said moves) c.args.self.now.count c.args.street) (sym c.as_slice.ensures) ∙ sym c.has_reached_street.ensures ∙ c.if-has_reached_street.false)
