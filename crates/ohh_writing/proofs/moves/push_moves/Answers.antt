use Rattle.std.proofs.Common.{◌≡◌, ◌==◌, ◌-◌, ◌∙◌, ℕ, List, [], ◌∷◌, ◌++◌, cond, map, slice_index, ap, sym, append_assoc}
use Rattle.std.proofs.lemmas.List.{length-set}
use Rattle.play_event.specs.declared.played.Move.{Move}
use Rattle.play_event.specs.Played.{move_said}
use Rattle.play_event.specs.CanonScript.{plain_move}
use Rattle.ohh_writing.specs.Actions.{PlainAction, act_written, action_said, moves_written}
use Rattle.ohh_writing.proofs.Lefts.{chips_after, left_after}
use Rattle.ohh_writing.proofs.moves.push_moves.Goals as goal

pub loop-played-preserved : goal.loop-played-preserved
loop-played-preserved c =
    let setup = c.args.setup.now in
    let played = c.in-Some.played in
    let move = move_said played in
    let before = c.loop-played.invariant.0 in
    let full = c.loop-played.invariant.1 in
    let rows = c.loop-played.invariant.2 in
    let words = c.loop-played.invariant.3 in
    let chips = c.saturating_sub-chips.result in
    let left = c.loop-played.left in
    let place : ℕ = played.seat.number - 1 in
    let is : chips ≡ slice_index left place - (played.to - played.from) =
    c.saturating_sub-chips.ensures ∙ ap (λ (n : ℕ). slice_index left place - n) c.added.ensures in
    let old : List PlainAction = map action_said c.loop-played.actions.items in
    let first : List PlainAction = cond (played.street == c.args.street) (act_written c.args.dialect move.act move chips) [] in
    let others : List PlainAction = moves_written c.args.dialect setup c.args.street (plain_move move ∷ before) (map move_said c.in-Some.behind.now) in
    let after = chips_after setup before (plain_move move) left chips played.seat.first played.seat.last is rows in (
      plain_move move ∷ before,
      length-set left place chips ∙ full,
      left_after setup before (plain_move move) left chips full played.seat.first played.seat.last is rows,
      ap (λ (l : List PlainAction). l ++ others) c.in_ok-push_move.ensures
          ∙ append_assoc old first others
          ∙ ap (λ (n : ℕ). old ++ (cond (played.street == c.args.street) (act_written c.args.dialect move.act move n) [] ++ others)) after
          ∙ ap (λ (moves : List Move). old ++ moves_written c.args.dialect setup c.args.street before (map move_said moves)) (sym c.in-Some.ensures.first)
          ∙ words,
    )
