use Rattle.phh_reading.proofs.seating.no_names.Goals as goal
use Rattle.std.proofs.Common.{None}
use Rattle.card_set.proofs.Entries.{take_same}

pub returns-clause-first : goal.returns-clause-first
returns-clause-first c seats few = take_same None seats 10 few
