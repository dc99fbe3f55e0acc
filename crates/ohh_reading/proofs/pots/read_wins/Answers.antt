use Rattle.std.proofs.Common.{◌∙◌, map, sym}
use Rattle.std.proofs.lemmas.Result.{err_from_is_err_and}
use Rattle.serde_json.specs.View.{view}
use Rattle.ohh_reading.specs.Pots.{win_added, wins_said}
use Rattle.ohh_reading.specs.Won.{plain_win}
use Rattle.first_fault.proofs.Added.{added, not_added, all_added}
use Rattle.ohh_reading.proofs.pots.read_wins.Goals as goal

pub returns-in_err-after-clause-said : goal.returns-in_err-after-clause-said
returns-in_err-after-clause-said c =
    let p = err_from_is_err_and c.from_residual-in_err-after.result c.from_residual-in_err-after.ensures.1 in
    let l = c.loop-place in
    rw (p.1, p.2) (not_added view (win_added c.args.players.now.ids.now c.args.index) c.in_err-after.field-0.0 (map plain_win l.after.list.items) c.in_ok-values.values.now l.place c.index-values-place.result (wins_said c.args.players.now.ids.now c.args.index (map plain_win c.args.won.list.items) (view c.args.pot.now)) c.loop-place-test.true (sym c.index-values-place.is) c.in_err-after.ensures.said l.invariant.read)

pub loop-place-preserved : goal.loop-place-preserved
loop-place-preserved c =
    let l = c.loop-place in
    record {
      seats = c.in_ok-after.ensures.seats ∙ l.invariant.seats;
      read = added view (win_added c.args.players.now.ids.now c.args.index) (map plain_win l.after.list.items) (map plain_win c.in_ok-after.after.list.items) c.in_ok-values.values.now l.place c.index-values-place.result (wins_said c.args.players.now.ids.now c.args.index (map plain_win c.args.won.list.items) (view c.args.pot.now)) c.loop-place-test.true (sym c.index-values-place.is) c.in_ok-after.ensures.said l.invariant.read;
    }

pub returns-clause-said : goal.returns-clause-said
returns-clause-said c = let l = c.loop-place in all_added view (win_added c.args.players.now.ids.now c.args.index) (map plain_win l.after.list.items) c.in_ok-values.values.now l.place (wins_said c.args.players.now.ids.now c.args.index (map plain_win c.args.won.list.items) (view c.args.pot.now)) c.loop-place-test.false l.invariant.read
