use Rattle.trace_laws.proofs.Readings.{says_place}
use Rattle.trace_laws.proofs.laws.law_of_places.Goals as goal

pub returns : goal.returns
returns c = says_place
