-- The number of a hand is its own, or its place.
use Rattle.std.proofs.Common.{sym, ◌∙◌, arith}
use Rattle.acpc_view.proofs.LineLengths.{hand_default, hand_few, hand_spelled, hand_unspelled}
use Rattle.acpc_view.proofs.counting.hand_len.Goals as goal

pub returns-in_default : goal.returns-in_default
returns-in_default c =
    record {
      value =
          c.digits_len.ensures.value ∙ hand_default c.args.place c.args.name.now (cc c.in_default.is);
      few = omega arith;
    }

pub returns-then-can_write_hand_number : goal.returns-then-can_write_hand_number
returns-then-can_write_hand_number c =
    record {
      value =
          hand_spelled c.args.place c.args.name.now c.as_bytes-name.result.now (cc (c.in-Some.is, c.as_str.ensures, c.as_bytes-name.ensures.value)) (sym c.can_write_hand_number.ensures ∙ c.if-can_write_hand_number.true);
      few = hand_few c.as_bytes-name.result.now (sym c.can_write_hand_number.ensures ∙ c.if-can_write_hand_number.true);
    }

pub returns-else-can_write_hand_number : goal.returns-else-can_write_hand_number
returns-else-can_write_hand_number c =
    record {
      value =
          c.digits_len-else-can_write_hand_number.ensures.value
          ∙ hand_unspelled c.args.place c.args.name.now c.as_bytes-name.result.now (cc (c.in-Some.is, c.as_str.ensures, c.as_bytes-name.ensures.value)) (sym c.can_write_hand_number.ensures ∙ c.if-can_write_hand_number.false);
      few = omega arith;
    }
