-- What the contract of a source in memory speaks of.
use Rattle.std.specs.Prelude.{◌≡◌, ℕ, List, drop}
use Rattle.host_io.specs.FaultPlan.{IsFresh}
use Rattle.host_io.specs.declared.fault_plan.FaultPlan.{FaultPlan}
use Rattle.host_io.specs.declared.mem_source.MemSource.{MemSource}

-- the bytes that it has not given yet
abbrev pub bytes_left : MemSource → List ℕ
bytes_left source = drop source.given source.bytes.items

-- the most bytes that it gives in one call
abbrev pub source_piece : MemSource → ℕ
source_piece source = source.piece

-- which of its calls fail
abbrev pub source_plan : MemSource → FaultPlan
source_plan source = source.plan

-- a source gave nothing yet: it has these bytes, gives at most this many of them in one call, and
-- fails at the calls with these numbers
pub record IsFullSource (source : MemSource) (bytes : List ℕ) (most : ℕ) (fail_at : List ℕ) : Type 0
  where
    pub left : bytes_left source ≡ bytes
    pub piece : source_piece source ≡ most
    pub plan : IsFresh (source_plan source) fail_at
