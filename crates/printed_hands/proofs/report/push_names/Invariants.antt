-- The lines so far are appended.
use Rattle.std.proofs.Common.{◌≡◌, ◌++◌, drop, flat_map, string_bytes}
use Rattle.printed_hands.specs.Tallies.{named_tallies, named_tally_line}
use Rattle.printed_hands.proofs.report.push_names.Given as goal

-- the lines of the rows that are left complete the text
abbrev pub invariant-loop-index : goal.invariant-loop-index
invariant-loop-index l =
    string_bytes l.text ++ flat_map named_tally_line (drop l.index (named_tallies l.tallies.entries))
    ≡ string_bytes l.initial.text ++ flat_map named_tally_line (named_tallies l.tallies.entries)
