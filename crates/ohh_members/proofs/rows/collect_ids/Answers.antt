use Rattle.std.proofs.Common.{◌+◌, ◌++◌, ◌∷◌, ◌∙◌, [], length, length-append, map, take, ap, sym, rules}
use Rattle.std.specs.Int.{w128}
use Rattle.std.proofs.lemmas.Int.{to_z-of_z}
use Rattle.std.proofs.lemmas.List.{map_more, map_push}
use Rattle.ohh_members.specs.Players.{plain_player}
use Rattle.ohh_members.proofs.rows.collect_ids.Goals as goal

pub loop-player-preserved : goal.loop-player-preserved
loop-player-preserved c =
    let l = c.loop-player in
    let player = c.player-item.result in
    let earlier = map plain_player (take l.player-index c.args.players.now) in
    let pushed = c.in_ok-try_push.ensures.items ∙ ap (λ id. l.ids.items ++ id ∷ []) (to_z-of_z w128 player.id (search rules)) in
    record {
      count = ap length pushed ∙ (length-append l.ids.items (player.id ∷ []) ∙ ap (λ n. n + 1) l.invariant.count);
      said = rw (pushed, map_more plain_player c.args.players.now l.player-index player c.loop-player-test.true, sym c.player-item.is, map_push (λ player. player.id) earlier (plain_player player)) (ap (λ ids. ids ++ player.id ∷ []) l.invariant.said);
    }
