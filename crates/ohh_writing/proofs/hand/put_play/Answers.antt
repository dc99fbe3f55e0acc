use Rattle.std.proofs.Common.{ap, arith, length, sum_by, List}
use Rattle.ohh_writing.specs.declared.action.Round.{Round}
use Rattle.ohh_writing.proofs.Counts.{actions_few, count, same_count}
use Rattle.ohh_writing.proofs.hand.put_play.Goals as goal

pub round_values-requires : goal.round_values-requires
round_values-requires c =
    let same = ap (λ (rounds : List Round). sum_by (λ (round : Round). length round.actions.items) rounds) c.as_slice.ensures.value in
    omega (arith, same, ap count c.in_ok-rounds.ensures, actions_few c.args.dialect c.args.trace.now c.requires.moves_few, same_count c.in_ok-rounds.rounds.items)
