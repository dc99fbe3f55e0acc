use Rattle.std.proofs.Common.{◌≡◌, ◌++◌}
use Rattle.acpc_format.specs.Names.{name_text}
use Rattle.acpc_format.specs.Seats.{for_seats}
use Rattle.acpc_format.specs.Texts.{AreTexts}
use Rattle.acpc_format.proofs.names.push_names.Given as goal

-- the names of the players so far are written, and are texts
abbrev pub invariant-loop-index : goal.invariant-loop-index
invariant-loop-index l = record {
  written : l.out.items ≡ l.fn.out.items ++ for_seats (name_text l.notes) l.index;
  texts : AreTexts l.index l.notes;
}
