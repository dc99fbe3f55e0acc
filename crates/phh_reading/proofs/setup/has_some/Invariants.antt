use Rattle.std.proofs.Common.{◌≡◌, drop, nat_lt}
use Rattle.std.specs.List.{list_any}
use Rattle.phh_reading.proofs.setup.has_some.Given as goal

-- some ante is above 0 if one of those that are left is
abbrev pub invariant-loop-ante : goal.invariant-loop-ante
invariant-loop-ante l = list_any (λ ante. nat_lt 0 ante) (drop l.ante-index l.antes) ≡ list_any (λ ante. nat_lt 0 ante) l.antes
