-- The heights of a row, as a list.
use Rattle.std.specs.Prelude.{ℕ, List, take}
use Rattle.hand_order.specs.declared.row.RankRow.{RankRow}

-- the heights of a row, in order
abbrev pub heights_of : RankRow → List ℕ
heights_of row = take row.len row.heights
