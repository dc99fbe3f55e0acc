use Rattle.std.proofs.Common.{◌≡◌, drop, nat_lt}
use Rattle.std.specs.List.{list_any}
use Rattle.phh_format.proofs.played.takes_some.Given as goal

-- the rakes that are left decide
abbrev pub invariant-loop-rake : goal.invariant-loop-rake
invariant-loop-rake l = list_any (nat_lt 0) (drop l.rake-index l.rakes) ≡ list_any (nat_lt 0) l.rakes
