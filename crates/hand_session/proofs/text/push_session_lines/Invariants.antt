-- The lines so far are written.
use Rattle.std.proofs.Common.{◌≡◌, ◌++◌, flat_map, string_bytes, take}
use Rattle.hand_session.specs.Printed.{name_line}
use Rattle.hand_session.proofs.text.push_session_lines.Given as goal

abbrev pub invariant-loop-row : goal.invariant-loop-row
invariant-loop-row l = string_bytes l.text ≡ string_bytes l.initial.text ++ flat_map name_line (take l.row-index l.rows)
