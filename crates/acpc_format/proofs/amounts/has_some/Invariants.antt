use Rattle.std.proofs.Common.{◌≡◌, drop, nat_lt}
use Rattle.std.specs.List.{list_any}
use Rattle.acpc_format.proofs.amounts.has_some.Given as goal

-- the amounts that are left decide
abbrev pub invariant-loop-amount : goal.invariant-loop-amount
invariant-loop-amount l = list_any (nat_lt 0) (drop l.amount-index l.amounts) ≡ list_any (nat_lt 0) l.amounts
