use Rattle.std.proofs.Common.{◌≡◌, ◌+◌, ◌<◌, ◌≤◌, sym, arith, length}
use Rattle.std.proofs.lemmas.List.{length-set}
use Rattle.chip_ledger.specs.declared.numbers.TheConstants.{MOST_CHIPS}
use Rattle.ohh_members.specs.Players.{plain_player}
use Rattle.card_set.proofs.Entries.{set_each, all_taken, one_more_taken}
use Rattle.ohh_members.proofs.rows.stack_row.Goals as goal

pub loop-index-preserved : goal.loop-index-preserved
loop-index-preserved c =
    let l = c.loop-index in
    let inv = l.invariant in
    let p = c.index-players-index.result in
    let here : l.index < length l.amounts = omega (arith, inv.ten, c.loop-index-test.true) in
    record {
      ten = omega (arith, inv.ten, length-set l.amounts l.index p.stack);
      least = set_each 0 (λ k stack. k < l.index + 1 → 1 ≤ stack) l.amounts l.index p.stack here (λ k other late. inv.least k (omega (arith, late, other))) (λ late. p.some_chips);
      most = set_each 0 (λ k stack. stack ≤ MOST_CHIPS) l.amounts l.index p.stack here (λ k other. inv.most k) p.most_chips;
      zeros = set_each 0 (λ k stack. l.index + 1 ≤ k → stack ≡ 0) l.amounts l.index p.stack here (λ k other late. inv.zeros k (omega (arith, late))) (λ late. absurd (omega (arith, late)));
      read = one_more_taken plain_player (λ player. player.stack) l.amounts c.args.seated.now.players.now l.index p here c.loop-index-test.true (sym c.index-players-index.is) inv.read;
    }

pub returns-clause-said : goal.returns-clause-said
returns-clause-said c = all_taken plain_player (λ player. player.stack) c.loop-index.amounts c.args.seated.now.players.now c.loop-index.index (omega arith) c.loop-index.invariant.read
