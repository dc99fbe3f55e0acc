use Rattle.std.proofs.Common.{◌≡◌, drop, eqb}
use Rattle.std.specs.List.{list_all}
use Rattle.acpc_reading.proofs.values.is_all_zeros.Given as goal

-- the bytes are all zeros if those that are left are
abbrev pub invariant-loop-b : goal.invariant-loop-b
invariant-loop-b l = list_all (λ b. eqb b 48) (drop l.b-index l.text) ≡ list_all (λ b. eqb b 48) l.text
