-- If all notes can be expressed, the kept notes are these notes.
use Rattle.hand_canon.specs.SaidNotes.{notes_of}
use Rattle.convert_core.proofs.laws.law_of_kept_notes.Goals as goal

pub returns-clause-all : goal.returns-clause-all
returns-clause-all g c = λ place play early sound none. (((g.met.N.Notation.lawful c.args.notation.now).all_spelled place play early sound).0 none).1

pub returns-clause-part : goal.returns-clause-part
returns-clause-part g c = λ place play. (g.met.N.Notation.lawful c.args.notation.now).kept_part (notes_of place play)

pub returns-clause-most : goal.returns-clause-most
returns-clause-most g c = λ place play part early sound of_it none.
    let law = g.met.N.Notation.lawful c.args.notation.now in
    law.kept_most (notes_of place part) (notes_of place play) of_it ((law.all_spelled place part early sound).0 none).1
