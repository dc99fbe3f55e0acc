-- What the contract of a sink over a writer of std speaks of.
use Rattle.std.specs.Prelude.{ℕ}
use Rattle.host_io.specs.declared.std_sink.StdSink.{StdSink}

-- the writer that it wraps
abbrev pub inner_writer : {W : Type 0} → StdSink W → W
inner_writer sink = sink.inner

-- how often it failed: once for each error of the writer, and for each piece from which it took
-- nothing
abbrev pub fault_count : {W : Type 0} → StdSink W → ℕ
fault_count sink = sink.faults
