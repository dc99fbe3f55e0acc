use Rattle.std.proofs.Common.{◌≡◌, [], sym, ◌∙◌}
use Rattle.play_event.proofs.PackedScripts.{first_read, rest_script, first_given, none_read}
use Rattle.play_event.proofs.cursor.Cursor.next.Goals as goal
use Rattle.card_set.proofs.Options.{on_none}

pub returns-in_err-event-clause-end : goal.returns-in_err-event-clause-end
returns-in_err-event-clause-end c =
    let none : c.args.self.now ≡ [] = sym c.self.view_is ∙ none_read c.self.inside.bytes.now c.self.inside.script c.in_err-event.ensures in
    let both : (c.args.self.now ≡ []) × (c.args.self.now ≡ []) = (none, none) in
    on_none _ _ both

pub invariant_of-self-inside : goal.invariant_of-self-inside
invariant_of-self-inside c =
    let begun = first_read c.self.inside.bytes.now c.self.inside.script c.in_ok-event.event c.in_ok-event.rest.now c.in_ok-event.ensures in
    (rest_script c.self.inside.script.events c.in_ok-event.event c.in_ok-event.rest.now begun, tt)

pub returns-clause-first : goal.returns-clause-first
returns-clause-first c =
    search (first_given c.self.inside.bytes.now c.self.inside.script c.args.self.now c.self.view_is c.in_ok-event.event c.in_ok-event.rest.now c.in_ok-event.ensures)
