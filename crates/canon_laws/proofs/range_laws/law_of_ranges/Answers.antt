-- The events were looked at street by street, and counted.
use Rattle.canon_laws.proofs.EventRanges.{events_in_range}
use Rattle.canon_laws.proofs.SameMoves.{canon_within}
use Rattle.canon_laws.proofs.range_laws.law_of_ranges.Goals as goal

pub returns-clause-in_range : goal.returns-clause-in_range
returns-clause-in_range c = λ setup rules script valid played. events_in_range setup rules script valid played

pub returns-clause-within : goal.returns-clause-within
returns-clause-within c = λ setup rules script played few. canon_within setup rules script played few
