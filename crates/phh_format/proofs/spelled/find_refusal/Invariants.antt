use Rattle.std.proofs.Common.{◌≡◌, ◌+◌, drop}
use Rattle.phh_format.specs.Spelled.{unspelled}
use Rattle.phh_format.proofs.spelled.find_refusal.Given as goal
use Rattle.hand_canon.specs.WriteRefusals.{refusal_from, first_refusal}

-- no play so far is refused
abbrev pub invariant-loop-index : goal.invariant-loop-index
invariant-loop-index l = refusal_from unspelled (l.index + 1) (drop l.index l.plays) ≡ first_refusal unspelled l.plays
