-- A line is made of its pieces.
use Rattle.std.proofs.Common.{◌≡◌, ◌++◌, subst}
use Rattle.hand_canon.specs.declared.trace.Play.{Play}
use Rattle.acpc_format.proofs.Totals.{sound_few}
use Rattle.acpc_view.specs.View.{head_text, seen_text, view_line}
use Rattle.acpc_view.proofs.Writing.{four_pieces}
use Rattle.acpc_view.proofs.viewing.push_view.Goals as goal

pub push_seen-requires-clause-few : goal.push_seen-requires-clause-few
push_seen-requires-clause-few c = sound_few c.play-seen.result.now c.play-seen.ensures.sound

pub returns : goal.returns
unfolding view_line
returns c =
    let play = c.play-seen.result.now in
    subst (λ (p : Play). c.try_extend_from_slice-2.new.self.items ≡ c.args.out.now.items ++ view_line c.args.no_limit c.args.viewer.number c.args.place p c.args.count)
    c.play-seen.ensures.same
    (four_pieces c.args.out.now.items c.push_head.new.out.items c.try_extend_from_slice.new.self.items c.push_seen.new.out.items c.try_extend_from_slice-2.new.self.items
    (head_text c.args.viewer.number c.args.place play.hand.notes.hand) (seen_text c.args.no_limit play.trace c.args.viewer.number c.args.count)
    c.in_ok-push_head.ensures c.in_ok-try_extend_from_slice.ensures.items c.in_ok-push_seen.ensures c.in_ok-try_extend_from_slice-2.ensures.items)
