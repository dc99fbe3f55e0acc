-- If the names of a seat are the same, all are if those of the later seats are.
use Rattle.std.proofs.Common.{◌∙◌, arith, sym}
use Rattle.hand_canon.specs.SaidNotes.{name_said}
use Rattle.hand_differences.proofs.FirstNumbers.{next_entry}
use Rattle.hand_differences.proofs.NotesFound.{same_entry}
use Rattle.hand_differences.specs.SameParts.{is_same_text}
use Rattle.hand_differences.proofs.notes.are_equal_names.Goals as goal

pub loop-index-preserved : goal.loop-index-preserved
loop-index-preserved c =
    next_entry is_same_text (name_said c.args.names.now) (name_said c.args.others.now) c.loop-index.index c.args.players.number c.loop-index-test.true
    (same_entry c.args.names.now c.args.others.now c.loop-index.index c.index-names-index.result c.index-others-index.result (omega (arith, c.loop-index-test.true, c.args.players.most, c.type_inv.names)) (omega (arith, c.loop-index-test.true, c.args.players.most, c.type_inv.others)) (sym c.are_equal_texts.ensures ∙ c.if-not-are_equal_texts.false))
    c.loop-index.invariant
