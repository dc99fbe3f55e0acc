-- What is put in is what the move adds.
use Rattle.std.proofs.Common.{refl, arith}
use Rattle.printed_hands.proofs.Moves.{has_put_more, has_put_same}
use Rattle.printed_hands.proofs.chips.add.Goals as goal

pub overflow_add-before : goal.overflow_add-before
overflow_add-before c = rw (c.get-before.ensures, c.saturating_sub.ensures) (omega (arith, c.requires c.if-moved-put.true))

pub set-requires-clause-in_row : goal.set-requires-clause-in_row
set-requires-clause-in_row c = c.if-moved-put.true

pub set-requires-clause-bounded : goal.set-requires-clause-bounded
set-requires-clause-bounded c = rw (c.get-before.ensures, c.saturating_sub.ensures) (c.requires c.if-moved-put.true)

pub returns-then-moved-put-clause-put : goal.returns-then-moved-put-clause-put
returns-then-moved-put-clause-put c = λ setup moves has.
    has_put_more setup moves c.args.moved.now c.args.put.now c.set.new.self has c.set.ensures.seats
    (rw (c.set.ensures.amount, c.get-before.ensures, c.saturating_sub.ensures) refl) c.set.ensures.others

pub returns-else-moved-put-clause-put : goal.returns-else-moved-put-clause-put
returns-else-moved-put-clause-put c = λ setup moves has. has_put_same setup moves c.args.moved.now c.args.put.now has (λ inside. omega (arith, inside, c.if-moved-put.false))
