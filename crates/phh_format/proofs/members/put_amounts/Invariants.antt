use Rattle.std.proofs.Common.{◌≡◌, map, pos, take}
use Rattle.toml.specs.Data.{integer}
use Rattle.toml.specs.View.{view}
use Rattle.phh_format.proofs.members.put_amounts.Given as goal

-- the amounts so far are values
abbrev pub invariant-loop-index : goal.invariant-loop-index
invariant-loop-index l = map view l.values.items ≡ map (λ amount. integer (pos amount)) (take l.index l.amounts)
