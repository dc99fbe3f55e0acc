use Rattle.std.proofs.Common.{◌≡◌, drop}
use Rattle.std.specs.List.{list_any}
use Rattle.acpc_format.specs.PlayFacts.{is_off_unit}
use Rattle.acpc_format.proofs.played.has_off_unit.Given as goal

-- the moves that are left decide
abbrev pub invariant-loop-played : goal.invariant-loop-played
invariant-loop-played l = list_any is_off_unit (drop l.played-index l.moves) ≡ list_any is_off_unit l.moves
