use Rattle.std.proofs.Common.{◌≡◌, ℕ, ◌<◌, ◌≤◌, ◌++◌, ◌∷◌, [], ◌∙◌, List, ap, sym, arith, length, take_all, get_or}
use Rattle.std.proofs.lemmas.List.{length-set, take_more, take_more_set}
use Rattle.acpc_game.proofs.Bounds.{chips_within}
use Rattle.acpc_game.proofs.reading.row_of.Goals as goal
use Rattle.card_set.proofs.Entries.{set_bounded, set_zeros}
use Rattle.chip_ledger.specs.declared.seat_row.TheConstants.{MOST_AMOUNT}
use Rattle.chip_ledger.specs.declared.numbers.TheConstants.{MOST_CHIPS}

pub loop-index-preserved : goal.loop-index-preserved
loop-index-preserved c =
    let inv = c.loop-index.invariant in
    let index = c.loop-index.index in
    let numbers = c.args.players.now.amounts.now in
    let x = get_or numbers index 0 in
    let within : index < length numbers = omega (arith, c.loop-index-test.true) in
    let few : x ≤ MOST_CHIPS = chips_within numbers index c.args.players.now.chips in
    record {
      ten = omega (arith, inv.ten, length-set c.loop-index.amounts index x);
      bounded = set_bounded c.loop-index.amounts index x MOST_AMOUNT inv.bounded (omega (arith, few));
      zeros = set_zeros c.loop-index.amounts index x inv.zeros;
      written =
          take_more_set c.loop-index.amounts index x (omega (arith, inv.ten, within, c.args.players.now.few))
          ∙ ap (λ (front : List ℕ). front ++ x ∷ []) inv.written
          ∙ sym (take_more numbers index 0 within);
    }

pub returns-clause-amounts : goal.returns-clause-amounts
returns-clause-amounts c =
    let numbers = c.args.players.now.amounts.now in
    let whole : c.loop-index.index ≡ length numbers = omega arith in
    rw (sym whole) (c.loop-index.invariant.written ∙ take_all c.loop-index.index numbers (omega (arith, whole)))
