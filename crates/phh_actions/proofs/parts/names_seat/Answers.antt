use Rattle.std.proofs.Common.{arith}
use Rattle.phh_actions.proofs.parts.names_seat.Goals as goal
use Rattle.chip_ledger.proofs.DefaultNames.{short_name, long_name}

pub returns-then-seat-lt10 : goal.returns-then-seat-lt10
returns-then-seat-lt10 c = let name = short_name c.args.seat c.if-seat-lt10.true in rw name (grind arith)

pub returns-else-seat-lt10 : goal.returns-else-seat-lt10
returns-else-seat-lt10 c = let name = long_name c.args.seat (omega arith) in rw name (grind arith)
