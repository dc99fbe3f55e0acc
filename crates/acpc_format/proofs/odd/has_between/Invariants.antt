use Rattle.std.proofs.Common.{◌≡◌, ◌&&◌, drop, nat_lt}
use Rattle.std.specs.List.{list_any}
use Rattle.acpc_format.proofs.odd.has_between.Given as goal

-- the amounts that are left decide
abbrev pub invariant-loop-chips : goal.invariant-loop-chips
invariant-loop-chips l =
    list_any (λ chips. nat_lt 0 chips && nat_lt chips l.most) (drop l.chips-index l.amounts)
    ≡ list_any (λ chips. nat_lt 0 chips && nat_lt chips l.most) l.amounts
