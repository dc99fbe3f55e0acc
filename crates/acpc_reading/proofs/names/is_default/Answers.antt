use Rattle.std.proofs.Common.{arith}
use Rattle.acpc_reading.proofs.names.is_default.Goals as goal
use Rattle.chip_ledger.proofs.DefaultNames.{long_name, short_name}

pub returns-then-seat-lt10 : goal.returns-then-seat-lt10
returns-then-seat-lt10 c = let name = short_name c.args.seat.number c.if-seat-lt10.true in rw name (grind arith)

pub returns-else-seat-lt10 : goal.returns-else-seat-lt10
returns-else-seat-lt10 c = let name = long_name c.args.seat.number (omega arith) in rw name (grind arith)
