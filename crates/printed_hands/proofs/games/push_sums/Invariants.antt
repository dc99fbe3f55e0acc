-- The lines so far are appended.
use Rattle.std.proofs.Common.{◌≡◌, ◌++◌, flat_map, string_bytes, take}
use Rattle.printed_hands.specs.Games.{sums_line}
use Rattle.printed_hands.proofs.games.push_sums.Given as goal

abbrev pub invariant-loop-one : goal.invariant-loop-one
invariant-loop-one l = string_bytes l.text ≡ string_bytes l.initial.text ++ flat_map sums_line (take l.one-index l.sums)
