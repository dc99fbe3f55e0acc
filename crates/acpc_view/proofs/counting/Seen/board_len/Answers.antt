-- A board that is seen has a stroke and its cards.
use Rattle.std.proofs.Common.{List, None, length, map, sym, ap, ◌∙◌, arith}
use Rattle.play_event.specs.CanonScript.{dealt_slots}
use Rattle.card_set.specs.Spelling.{spelling}
use Rattle.hand_canon.specs.TraceRows.{core_said, place_said}
use Rattle.play_event.specs.declared.played.Place.{Place}
use Rattle.acpc_view.proofs.LineLengths.{board_not, board_there}
use Rattle.acpc_view.proofs.counting.Seen.board_len.Goals as goal

pub returns-then-is_board_seen : goal.returns-then-is_board_seen
returns-then-is_board_seen c =
    record {
      value =
          board_there (core_said c.args.self.now.trace.now) c.args.self.now.viewer.number c.args.self.now.count c.args.street c.dealt_len.result (sym c.is_board_seen.ensures ∙ c.if-is_board_seen.true)
          (c.dealt_len.ensures.value ∙ ap (λ (places : List Place). length (spelling (dealt_slots (map place_said places) None c.args.street))) c.as_slice.ensures);
      few = omega arith;
    }

pub returns-else-is_board_seen : goal.returns-else-is_board_seen
returns-else-is_board_seen c =
    record {
      value =
          board_not (core_said c.args.self.now.trace.now) c.args.self.now.viewer.number c.args.self.now.count c.args.street (sym c.is_board_seen.ensures ∙ c.if-is_board_seen.false);
      few = omega arith;
    }
