use Rattle.std.proofs.Common.{◌≡◌, ◌+◌, ◌-◌, map}
use Rattle.std.specs.List.{range_with_len}
use Rattle.chip_ledger.specs.Seat.{seats_of}
use Rattle.hand_canon.specs.SaidNotes.{name_said}
use Rattle.hand_differences.specs.SameParts.{are_same_entries, is_same_text}
use Rattle.hand_differences.proofs.notes.are_equal_names.Given as goal

-- the names are the same if those of the later seats are
abbrev pub invariant-loop-index : goal.invariant-loop-index
invariant-loop-index l =
    are_same_entries is_same_text (map (name_said l.names) (range_with_len (l.index + 1) (l.fn.players.number - l.index))) (map (name_said l.others) (range_with_len (l.index + 1) (l.fn.players.number - l.index)))
    ≡ are_same_entries is_same_text (map (name_said l.names) (seats_of l.fn.players.number)) (map (name_said l.others) (seats_of l.fn.players.number))
