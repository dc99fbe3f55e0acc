use Rattle.std.proofs.Common.{◌≡◌, ◌≤◌, count_by, take}
use Rattle.acpc_format.specs.PlayFacts.{is_raise_on}
use Rattle.acpc_format.proofs.played.count_raises.Given as goal

-- the raises so far are counted
abbrev pub invariant-loop-played : goal.invariant-loop-played
invariant-loop-played l = (l.count ≡ count_by (is_raise_on l.street) (take l.played-index l.moves)) × (l.count ≤ l.played-index)
