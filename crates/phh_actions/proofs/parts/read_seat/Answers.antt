use Rattle.std.proofs.Common.{◌≡◌, ◌+◌, ◌-◌, arith, bytes_eq, false, ◌∙◌, ap, find}
use Rattle.std.specs.List.{range_with_len}
use Rattle.card_set.proofs.Ranges.{find_next}
use Rattle.phh_actions.proofs.parts.read_seat.Goals as goal
use Rattle.chip_ledger.specs.SeatsSaid.{default_name}

pub loop-index-preserved : goal.loop-index-preserved
loop-index-preserved c =
    let other : bytes_eq c.args.name.now (default_name (c.loop-index.index + 1)) ≡ false = grind arith in
    let next = find_next (λ seat. bytes_eq c.args.name.now (default_name seat)) (c.loop-index.index + 1) (c.args.players.number - c.loop-index.index) (omega arith) other in
    ap (λ n. find (λ seat. bytes_eq c.args.name.now (default_name seat)) (range_with_len (c.loop-index.index + 1 + 1) n)) (omega arith) ∙ next ∙ c.loop-index.invariant
