-- What the contract of a source over a reader of std speaks of.
use Rattle.std.specs.Prelude.{ℕ}
use Rattle.host_io.specs.declared.std_source.StdSource.{StdSource}

-- the reader that it wraps
abbrev pub inner_reader : {R : Type 0} → StdSource R → R
inner_reader source = source.inner

-- how often it failed: once for each error of the reader
abbrev pub fault_count : {R : Type 0} → StdSource R → ℕ
fault_count source = source.faults
