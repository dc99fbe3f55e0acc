-- The sums so far are those before the first hand.
use Rattle.std.proofs.Common.{◌≡◌, [], map, take}
use Rattle.printed_hands.specs.Games.{sums_of}
use Rattle.printed_hands.proofs.games.no_sums.Given as goal

abbrev pub invariant-loop-one : goal.invariant-loop-one
invariant-loop-one l = l.sums.items ≡ map (sums_of []) (take l.one-index l.one-items)
