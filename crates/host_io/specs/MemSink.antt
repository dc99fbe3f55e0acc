-- What the contract of a sink in memory speaks of.
use Rattle.std.specs.Prelude.{◌≡◌, ℕ, ◌-◌, List, [], length}
use Rattle.host_io.specs.FaultPlan.{IsFresh}
use Rattle.host_io.specs.declared.fault_plan.FaultPlan.{FaultPlan}
use Rattle.host_io.specs.declared.mem_sink.MemSink.{MemSink}

-- the bytes that it took, in order
abbrev pub bytes_held : MemSink → List ℕ
bytes_held sink = sink.bytes.items

-- how many bytes it can still take
abbrev pub room_left : MemSink → ℕ
room_left sink = sink.room - length sink.bytes.items

-- the most bytes that it takes in one call
abbrev pub sink_piece : MemSink → ℕ
sink_piece sink = sink.piece

-- which of its calls fail
abbrev pub sink_plan : MemSink → FaultPlan
sink_plan sink = sink.plan

-- a sink took nothing yet: it has this much room, takes at most this much in one call, and fails at
-- the calls with these numbers
pub record IsEmptySink (sink : MemSink) (bytes most : ℕ) (fail_at : List ℕ) : Type 0 where
  pub held : bytes_held sink ≡ []
  pub room : room_left sink ≡ bytes
  pub piece : sink_piece sink ≡ most
  pub plan : IsFresh (sink_plan sink) fail_at
