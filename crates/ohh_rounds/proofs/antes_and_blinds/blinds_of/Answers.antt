use Rattle.std.proofs.Common.{◌≡◌, ◌≤◌, ◌+◌, zero, suc, ◌∙◌, arith}
use Rattle.chip_ledger.specs.declared.numbers.TheConstants.{MOST_CHIPS}
use Rattle.ohh_rounds.specs.AntesAndBlinds.{named_blind}
use Rattle.ohh_rounds.specs.NamedBlinds.{plain_named_blinds}
use Rattle.ohh_rounds.proofs.SeatBySeat.{each_seat}
use Rattle.ohh_rounds.proofs.antes_and_blinds.blinds_of.Goals as goal

pub loop-index-preserved : goal.loop-index-preserved
loop-index-preserved c =
    let l = c.loop-index in
    let inv = l.invariant in
    let named = c.named.ensures in
    record {
      seats = c.set.ensures.seats ∙ inv.seats;
      blinds = λ posts first seat from to. each_seat (λ n amount. n ≤ l.index + 1 → amount ≡ named_blind (plain_named_blinds c.args.table.now) posts n) c.set.new.self l.row (l.index + 1) c.named.result c.set.ensures.amount c.set.ensures.others (λ to. named.blind posts first) (λ n from apart to. inv.blinds posts first n from (omega (arith, apart, to))) seat from to;
      most = each_seat (λ n amount. amount ≤ MOST_CHIPS) c.set.new.self l.row (l.index + 1) c.named.result c.set.ensures.amount c.set.ensures.others named.most (λ n from apart. inv.most n from);
    }

pub returns-clause-most : goal.returns-clause-most
returns-clause-most c zero = c.loop-index.invariant.most 1 (omega arith)
returns-clause-most c (suc seat) = c.loop-index.invariant.most (suc seat) (omega arith)
