-- One more place is looked at in each step.
use Rattle.std.proofs.Common.{arith}
use Rattle.card_places.specs.Placed.{placed}
use Rattle.card_places.specs.Searches.{search_from, searched}
use Rattle.card_places.proofs.InPlace.{walk_more}
use Rattle.card_places.proofs.search.apply_names.Goals as goal

pub loop-index-preserved : goal.loop-index-preserved
loop-index-preserved c =
    let code = c.args.table.now.code in
    let search = c.args.search.now in
    let old = c.args.places.now in
    let now = c.loop-index.places in
    let found = c.peek-found.result in
    let inv = c.loop-index.invariant in (
      inv.0,
      walk_more (search_from code search c.loop-index.taken c.loop-index.blanks) (search_from code search found.taken found.blanks) now.rows c.loop-index.index old.count c.index-places-index.result found.card (searched code search (placed old)) c.loop-index-test.true (omega (arith, old.most, now.full)) c.peek-found.ensures inv.1,
    )
