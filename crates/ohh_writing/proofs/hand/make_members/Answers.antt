use Rattle.std.proofs.Common.{◌∙◌, ap}
use Rattle.serde_json.specs.Data.{object}
use Rattle.serde_json.specs.View.{members_view}
use Rattle.serde_json.proofs.Views.{view-Object}
use Rattle.ohh_writing.specs.Moment.{moment_of}
use Rattle.ohh_writing.specs.Tree.{with_date}
use Rattle.ohh_writing.proofs.Sorted.{hand_sorted, with_names, with_play, with_seating, with_setup, with_versions}
use Rattle.ohh_writing.proofs.hand.make_members.Goals as goal

pub returns : goal.returns
returns c =
    let trace = c.args.play.now.trace in
    let notes = c.args.play.now.hand.notes in
    let begun = c.in_ok-put_setup.ensures ∙ ap (λ entries. with_setup trace.setup (members_view entries)) c.new-ohh.ensures.empty in
    let seated = c.in_ok-put_seating.ensures ∙ ap (with_seating trace.setup notes) begun in
    let named = c.in_ok-put_names.ensures ∙ ap (with_names c.args.index notes) seated in
    let played = c.in_ok-put_play.ensures ∙ ap (with_play c.args.dialect trace) named in
    let versioned = c.in_ok-put_versions.ensures ∙ ap with_versions played in
    let dated = c.in_ok-put_date.ensures ∙ ap (with_date (moment_of notes)) versioned in
    view-Object c.put_date.new.ohh ∙ ap object (dated ∙ hand_sorted c.args.dialect c.args.index trace notes)
