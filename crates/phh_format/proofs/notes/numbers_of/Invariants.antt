use Rattle.std.proofs.Common.{◌≡◌, map, pos, take}
use Rattle.toml.specs.Data.{integer}
use Rattle.toml.specs.View.{view}
use Rattle.phh_format.proofs.notes.numbers_of.Given as goal

-- the numbers so far are values
abbrev pub invariant-loop-seat : goal.invariant-loop-seat
invariant-loop-seat l = map view l.values.items ≡ map (λ seat. integer (pos seat)) (take l.seat-index l.seats)
