-- The parts of the line follow one another.
use Rattle.std.proofs.Common.{◌≡◌, ◌++◌, ◌∙◌, ℕ, List, [], ap, rules}
use Rattle.hand_canon.specs.declared.trace.Play.{Play}
use Rattle.acpc_format.specs.Line.{end_text, head_text, line_text, play_text}
use Rattle.acpc_format.proofs.Pieces.{line_is}
use Rattle.acpc_format.proofs.Totals.{sound_few}
use Rattle.acpc_format.proofs.line.push_line.Goals as goal

pub push_play-requires : goal.push_play-requires
push_play-requires c = sound_few c.play-play.result.now c.play-play.ensures.sound

pub returns-clause-written : goal.returns-clause-written
unfolding line_text
returns-clause-written c =
    let play = c.play-play.result.now in
    let none : c.new-line.result.items ≡ [] = search rules in
    let line = line_is c.new-line.result.items c.push_head.new.out.items c.try_extend_from_slice.new.self.items c.push_play.new.out.items c.try_extend_from_slice-2.new.self.items c.push_end.new.out.items c.try_extend_from_slice-3.new.self.items
    (head_text c.args.index play.hand.notes.hand) (play_text c.args.no_limit play.trace) (end_text play.trace play.hand.notes)
    c.in_ok-push_head.ensures c.in_ok-try_extend_from_slice.ensures.items c.in_ok-push_play.ensures c.in_ok-try_extend_from_slice-2.ensures.items c.in_ok-push_end.ensures.written c.in_ok-try_extend_from_slice-3.ensures.items
    ∙ ap (λ (l : List ℕ). l ++ line_text c.args.no_limit c.args.index play) none in
    c.in_ok-try_extend_from_slice-4.ensures.items ∙ ap (λ (l : List ℕ). c.args.out.now.items ++ l) (c.as_slice.ensures.value ∙ line)
    ∙ ap (λ (it : Play). c.args.out.now.items ++ line_text c.args.no_limit c.args.index it) c.play-play.ensures.same
