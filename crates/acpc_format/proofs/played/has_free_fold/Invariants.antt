use Rattle.std.proofs.Common.{◌≡◌, drop}
use Rattle.std.specs.List.{list_any}
use Rattle.acpc_format.specs.PlayFacts.{is_free_fold}
use Rattle.acpc_format.proofs.played.has_free_fold.Given as goal

-- the moves that are left decide
abbrev pub invariant-loop-played : goal.invariant-loop-played
invariant-loop-played l = list_any is_free_fold (drop l.played-index l.moves) ≡ list_any is_free_fold l.moves
