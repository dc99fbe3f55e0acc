-- The rows are printed one after the other.
use Rattle.std.proofs.Common.{string_bytes, arith}
use Rattle.printed_hands.proofs.Rows.{chips_printed}
use Rattle.printed_hands.proofs.chips.push_chips.Goals as goal

pub returns : goal.returns
returns c = λ moves has.
    let setup = c.args.setup.now in
    rw (c.in_ok-try_push_str-3.ensures.bytes, c.in_ok-push_row-2.ensures, c.in_ok-try_push_str-2.ensures.bytes, c.in_ok-push_row.ensures, c.in_ok-try_push_str.ensures.bytes)
    (chips_printed setup moves c.args.put.now c.loop-index.left (string_bytes c.args.text.now) has c.loop-index.invariant.0
    (λ n one within. c.loop-index.invariant.1 n one (omega (arith, within, c.loop-index-test.false))))
