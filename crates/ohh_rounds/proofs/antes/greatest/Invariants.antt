use Rattle.std.proofs.Common.{◌≡◌, List, map}
use Rattle.chip_ledger.specs.Greatest.{greatest}
use Rattle.chip_ledger.specs.Seat.{seats_of}
use Rattle.ohh_rounds.specs.Posts.{AreFirst, PlainPost, ante_of}
use Rattle.ohh_rounds.proofs.antes.greatest.Given as goal

-- the greatest of the seats so far
abbrev pub invariant-loop-index : goal.invariant-loop-index
invariant-loop-index l = (posts : List PlainPost) → AreFirst posts l.firsts → l.greatest ≡ greatest (map (ante_of posts) (seats_of l.index))
