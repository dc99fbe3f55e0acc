use Rattle.std.proofs.Common.{◌≡◌, map}
use Rattle.std.specs.List.{range_with_len}
use Rattle.toml.specs.Data.{string}
use Rattle.toml.specs.View.{view}
use Rattle.phh_format.proofs.notes.put_names.Given as goal
use Rattle.hand_canon.specs.AllowedNotes.{name_written}

-- the names so far are values
abbrev pub invariant-loop-index : goal.invariant-loop-index
invariant-loop-index l = map view l.values.items ≡ map string (map (name_written l.notes) (range_with_len 1 l.index))
