-- What a row of rakes says of the pots of a hand.
use Rattle.std.specs.Prelude.{ℕ, ◌-◌, replicate, slice_index}
use Rattle.std.proofs.Common.{refl}
use Rattle.chip_ledger.specs.declared.rakes.RakeRow.{RakeRow}

-- the rake of pot number n (from 1, lowest first)
abbrev pub rake_of : RakeRow → ℕ → ℕ
rake_of row n = slice_index row.rakes (n - 1)

-- no pot has a rake
abbrev pub no_rakes : RakeRow
no_rakes = record { rakes = replicate 11 0; full = refl }
