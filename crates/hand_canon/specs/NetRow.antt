-- What a row of wins and losses says of its seats.
use Rattle.std.specs.Prelude.{ℕ, ◌-◌, ℤ, pos, slice_index_or}
use Rattle.hand_canon.specs.declared.record.NetRow.{NetRow}

-- what seat number n won or lost
abbrev pub net_of : NetRow → ℕ → ℤ
net_of row n = slice_index_or row.nets (n - 1) (pos 0)
