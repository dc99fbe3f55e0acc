use Rattle.std.proofs.Common.{◌∙◌, ap, not, sym}
use Rattle.hand_canon.specs.SaidNotes.{said_notes}
use Rattle.hand_differences.proofs.NotesFound.{passed_over}
use Rattle.hand_differences.specs.FirstDifference.{agree_on_note}
use Rattle.hand_differences.proofs.notes.BothNotes.+first_other.Goals as goal

pub returns-then-is_same_note : goal.returns-then-is_same_note
returns-then-is_same_note t c =
    passed_over (λ name. not (agree_on_note (said_notes c.args.self.now.index c.args.self.now.players.number c.args.self.now.notes.now) (said_notes c.args.self.now.index c.args.self.now.players.number c.args.self.now.others.now) name)) c.args.names.now _ c.first_other.result
    c.in-len1-up.len_at_least (ap not (sym c.is_same_note.ensures ∙ c.if-is_same_note.true)) c.first_other.ensures
