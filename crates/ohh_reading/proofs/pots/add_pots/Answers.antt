use Rattle.std.proofs.Common.{◌∙◌, map, sym}
use Rattle.std.proofs.lemmas.Result.{err_from_is_err_and}
use Rattle.serde_json.specs.View.{view}
use Rattle.ohh_reading.specs.Pots.{no_pots, plain_found, pot_added}
use Rattle.first_fault.specs.Reading.{added_from}
use Rattle.first_fault.proofs.Added.{added, not_added, all_added}
use Rattle.ohh_reading.proofs.pots.add_pots.Goals as goal

pub returns-in_err-found-clause-said : goal.returns-in_err-found-clause-said
returns-in_err-found-clause-said c =
    let p = err_from_is_err_and c.from_residual.result c.from_residual.ensures.1 in
    let l = c.loop-index in
    rw (p.1, p.2) (not_added view (pot_added c.args.players.now.ids.now) c.in_err-found.field-0.0 (plain_found l.found) c.args.values.now l.index c.index-values-index.result (added_from (pot_added c.args.players.now.ids.now) no_pots 0 (map view c.args.values.now)) c.loop-index-test.true (sym c.index-values-index.is) c.in_err-found.ensures.said l.invariant.read)

pub loop-index-preserved : goal.loop-index-preserved
loop-index-preserved c =
    let l = c.loop-index in
    record {
      seats = c.in_ok-found.ensures.seats ∙ l.invariant.seats;
      read = added view (pot_added c.args.players.now.ids.now) (plain_found l.found) (plain_found c.in_ok-found.found) c.args.values.now l.index c.index-values-index.result (added_from (pot_added c.args.players.now.ids.now) no_pots 0 (map view c.args.values.now)) c.loop-index-test.true (sym c.index-values-index.is) c.in_ok-found.ensures.said l.invariant.read;
    }

pub returns-clause-said : goal.returns-clause-said
returns-clause-said c = let l = c.loop-index in all_added view (pot_added c.args.players.now.ids.now) (plain_found l.found) c.args.values.now l.index (added_from (pot_added c.args.players.now.ids.now) no_pots 0 (map view c.args.values.now)) c.loop-index-test.false l.invariant.read
