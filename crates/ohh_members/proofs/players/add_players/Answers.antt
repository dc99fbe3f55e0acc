use Rattle.std.proofs.Common.{[], map, sym, arith}
use Rattle.std.proofs.lemmas.Result.{err_from_is_err_and}
use Rattle.serde_json.specs.View.{view}
use Rattle.ohh_members.specs.Players.{plain_player, player_added}
use Rattle.first_fault.specs.Reading.{added_from}
use Rattle.first_fault.proofs.Added.{added, not_added, all_added}
use Rattle.ohh_members.proofs.players.add_players.Goals as goal

pub returns-in_err-add_player-clause-said : goal.returns-in_err-add_player-clause-said
returns-in_err-add_player-clause-said c =
    let p = err_from_is_err_and c.from_residual.result c.from_residual.ensures.1 in
    let l = c.loop-index in
    rw (p.1, p.2) (not_added view player_added c.in_err-add_player.field-0.0 (map plain_player l.players.items) c.args.values.now l.index c.index-values-index.result (added_from player_added [] 0 (map view c.args.values.now)) c.loop-index-test.true (sym c.index-values-index.is) c.in_err-add_player.ensures.said l.invariant.read)

pub loop-index-preserved : goal.loop-index-preserved
loop-index-preserved c =
    let l = c.loop-index in
    record {
      count = omega (arith, c.in_ok-add_player.ensures.count, l.invariant.count);
      read = added view player_added (map plain_player l.players.items) (map plain_player c.add_player.new.players.items) c.args.values.now l.index c.index-values-index.result (added_from player_added [] 0 (map view c.args.values.now)) c.loop-index-test.true (sym c.index-values-index.is) c.in_ok-add_player.ensures.said l.invariant.read;
    }

pub returns-clause-said : goal.returns-clause-said
returns-clause-said c = let l = c.loop-index in all_added view player_added (map plain_player l.players.items) c.args.values.now l.index (added_from player_added [] 0 (map view c.args.values.now)) c.loop-index-test.false l.invariant.read
