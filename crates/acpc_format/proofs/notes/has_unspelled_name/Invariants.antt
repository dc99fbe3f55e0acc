use Rattle.std.proofs.Common.{◌≡◌, drop}
use Rattle.std.specs.List.{list_any}
use Rattle.acpc_format.specs.NoteFacts.{is_unspelled_name}
use Rattle.acpc_format.proofs.notes.has_unspelled_name.Given as goal

-- the names that are left decide
abbrev pub invariant-loop-name : goal.invariant-loop-name
invariant-loop-name l = list_any is_unspelled_name (drop l.name-index l.names) ≡ list_any is_unspelled_name l.names
