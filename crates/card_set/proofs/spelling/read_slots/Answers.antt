-- The fault of the bytes is unique, and so is the row that they write.
use Rattle.std.proofs.Common.{◌≤◌, ◌*◌, length, Err, sym, ◌∙◌, ap, arith, length-take}
use Rattle.std.proofs.lemmas.List.{take_all}
use Rattle.std.proofs.lemmas.Result.{err_from_is_err_and}
use Rattle.card_set.specs.declared.spelling.CardFault.TheVariants as faults
use Rattle.card_set.specs.Row.{slots_of}
use Rattle.card_set.specs.Spelling.{HasFault}
use Rattle.card_set.proofs.Spelled.{fault_spells_nothing, one_fault, pair_fault, row_more, same_slots}
use Rattle.card_set.proofs.spelling.read_slots.Goals as goal
use Rattle.card_set.proofs.spelling.read_slots.Goals.{After-from_residual}

pub returns-then-bytes-eq1-clause-only : goal.returns-then-bytes-eq1-clause-only
returns-then-bytes-eq1-clause-only c = fault_spells_nothing c.args.bytes.now faults.OddLength (omega (arith, c.if-bytes-eq1.true))

pub returns-then-bytes-gt14-clause-only : goal.returns-then-bytes-gt14-clause-only
returns-then-bytes-gt14-clause-only c =
    fault_spells_nothing c.args.bytes.now faults.TooMany (omega (arith, c.if-bytes-eq1.false), omega (arith, c.if-bytes-gt14.true))

-- the fault of the first pair that writes no slot
module _ (c : After-from_residual) where
  bad : HasFault c.args.bytes.now c.in_err-slot.field-0.0
  bad =
      pair_fault c.args.bytes.now (slots_of c.loop-index.row) c.loop-index.index c.in_err-slot.field-0.0 c.in_err-slot.ensures.fault c.loop-index.invariant.read (omega arith) (omega (arith, c.if-bytes-eq1.false)) (omega (arith, c.if-bytes-gt14.false))

pub returns-in_err-slot-clause-only : goal.returns-in_err-slot-clause-only
returns-in_err-slot-clause-only c =
    let p = err_from_is_err_and c.from_residual.result c.from_residual.ensures.1 in
    rw p.1 (fault_spells_nothing c.args.bytes.now c.in_err-slot.field-0.0 (bad c))

pub returns-in_err-slot-clause-first_fault : goal.returns-in_err-slot-clause-first_fault
returns-in_err-slot-clause-first_fault c =
    let p = err_from_is_err_and c.from_residual.result c.from_residual.ensures.1 in
    rw (p.1, p.2) (λ fault has. ap (λ g. Err g) (one_fault c.args.bytes.now c.in_err-slot.field-0.0 fault (bad c) has))

pub loop-index-preserved : goal.loop-index-preserved
loop-index-preserved c = record {
  read =
      row_more c.args.bytes.now (slots_of c.loop-index.row) (slots_of c.push.new.self) c.in_ok-slot.slot c.loop-index.index c.loop-index.invariant.read c.in_ok-slot.ensures.read c.push.ensures.entries (omega arith);
  counted = omega arith;
}

pub returns-clause-only : goal.returns-clause-only
returns-clause-only c = λ slots few is.
    let read = sym (take_all (2 * c.loop-index.index) c.args.bytes.now (omega (arith, c.loop-index-test.false, c.if-bytes-eq1.false))) ∙ c.loop-index.invariant.read in
    same_slots (slots_of c.loop-index.row) slots (sym read ∙ is)

pub returns-clause-first_fault : goal.returns-clause-first_fault
returns-clause-first_fault c = λ fault has.
    let read = sym (take_all (2 * c.loop-index.index) c.args.bytes.now (omega (arith, c.loop-index-test.false, c.if-bytes-eq1.false))) ∙ c.loop-index.invariant.read in
    let few : length (slots_of c.loop-index.row) ≤ 7 = omega (arith, c.loop-index.row.fits, length-take c.loop-index.row.len c.loop-index.row.slots) in
    absurd (fault_spells_nothing c.args.bytes.now fault has (slots_of c.loop-index.row) few read)
