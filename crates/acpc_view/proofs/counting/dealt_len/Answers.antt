-- Each card has two letters.
use Rattle.std.proofs.Common.{map, arith}
use Rattle.card_set.proofs.Spelled.{length-spelling}
use Rattle.play_event.specs.CanonScript.{dealt_slots}
use Rattle.hand_canon.specs.TraceRows.{place_said}
use Rattle.play_event.specs.Said.{seat_named}
use Rattle.acpc_view.proofs.counting.dealt_len.Goals as goal

pub returns : goal.returns
returns c =
    record {
      value =
          omega (arith, c.dealt_count.ensures, length-spelling (dealt_slots (map place_said c.args.places.now) (seat_named c.args.owner) c.args.street));
      few = omega arith;
    }
