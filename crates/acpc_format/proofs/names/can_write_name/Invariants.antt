use Rattle.std.proofs.Common.{◌≡◌, drop}
use Rattle.std.specs.List.{list_all}
use Rattle.acpc_format.specs.Names.{may_stand}
use Rattle.acpc_format.proofs.names.can_write_name.Given as goal

-- the signs that are left decide
abbrev pub invariant-loop-sign : goal.invariant-loop-sign
invariant-loop-sign l = list_all may_stand (drop l.sign-index l.name) ≡ list_all may_stand l.name
