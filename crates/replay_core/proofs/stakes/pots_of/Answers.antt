-- The stakes of the rows are those of the moves, and no more than a row can hold.
use Rattle.std.proofs.Common.{List, ap, ◌∙◌, arith}
use Rattle.chip_ledger.specs.PotRow.{stake_of}
use Rattle.chip_ledger.specs.Pots.{Stake, pots_of, returned}
use Rattle.play_event.specs.Past.{moves_of}
use Rattle.play_event.specs.Stakes.{stakes_after}
use Rattle.replay_core.proofs.Counted.{all_counted, all_within, stake_is, stakes_are}
use Rattle.replay_core.proofs.stakes.pots_of.Goals as goal

pub pots-requires-clause-bounded : goal.pots-requires-clause-bounded
pots-requires-clause-bounded c =
    let setup = c.args.setup.now in
    let puts = c.args.puts.now in
    let all = all_counted setup puts c.counted_row-counted.result c.dead_antes-dead.result c.requires.valid.same_antes c.requires.puts c.counted_row-counted.ensures.seats c.dead_antes-dead.ensures c.counted_row-counted.ensures.amounts c.requires.posted in
    omega (arith, all, all_within setup puts c.requires.puts setup.stacks.greatest (λ n from to. omega (arith, c.requires.within n from to, (c.requires.valid.stacks n from to).1)))

pub returns-clause-pots : goal.returns-clause-pots
returns-clause-pots c = λ past rows.
    let setup = c.args.setup.now in
    let moves = moves_of past in
    let counted = c.counted_row-counted.result in
    let same = stakes_are setup moves c.args.puts.now counted c.args.live.now rows c.requires.puts c.counted_row-counted.ensures.seats c.counted_row-counted.ensures.amounts in
    record {
      pots = c.pots.ensures.pots
          ∙ ap (λ (stakes : List Stake). pots_of stakes c.dead_antes-dead.result) same
          ∙ ap (pots_of (stakes_after setup moves)) c.dead_antes-dead.ensures;
      returned = λ n low high.
          c.pots.ensures.returned n low (omega (arith, high, c.requires.puts, c.counted_row-counted.ensures.seats))
          ∙ ap (λ (stakes : List Stake). returned stakes (stake_of counted c.args.live.now n)) same
          ∙ ap (returned (stakes_after setup moves)) (stake_is setup moves c.args.puts.now counted c.args.live.now rows c.requires.puts c.counted_row-counted.ensures.amounts n low high);
    }

pub returns-clause-conserved : goal.returns-clause-conserved
returns-clause-conserved c =
    c.pots.ensures.conserved
    ∙ all_counted c.args.setup.now c.args.puts.now c.counted_row-counted.result c.dead_antes-dead.result c.requires.valid.same_antes c.requires.puts c.counted_row-counted.ensures.seats c.dead_antes-dead.ensures c.counted_row-counted.ensures.amounts c.requires.posted
