use Rattle.std.proofs.Common.{◌∙◌, ap, sym, find, not, option_map}
use Rattle.hand_canon.specs.SaidNotes.{said_notes}
use Rattle.hand_differences.specs.FirstDifference.{Note, agree_on_note}
use Rattle.hand_differences.proofs.notes.find_note_difference.Goals as goal

pub returns-in-Some : goal.returns-in-Some
returns-in-Some c =
    ap (option_map Note) (sym c.in-Some.is ∙ c.first_other.ensures ∙ ap (find (λ name. not (agree_on_note (said_notes c.args.index c.args.players.number c.args.notes.now) (said_notes c.args.index c.args.players.number c.args.others.now) name))) (c.as_slice.ensures ∙ c.all-names.ensures))

pub returns-in-None : goal.returns-in-None
returns-in-None c =
    ap (option_map Note) (sym c.in-None.is ∙ c.first_other.ensures ∙ ap (find (λ name. not (agree_on_note (said_notes c.args.index c.args.players.number c.args.notes.now) (said_notes c.args.index c.args.players.number c.args.others.now) name))) (c.as_slice.ensures ∙ c.all-names.ensures))
