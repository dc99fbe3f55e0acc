use Rattle.betting_numbers.specs.Posting.{HasPosted}
use Rattle.betting_numbers.proofs.starting.start.Given as goal

abbrev pub invariant-loop-index : goal.invariant-loop-index
invariant-loop-index l = HasPosted l.setup l.index l.posted
