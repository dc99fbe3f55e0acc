-- Which calls of an object in memory fail, and how they are counted.
use Rattle.std.specs.Prelude.{◌≡◌, ℕ, Bool, List, Contains}
use Rattle.host_io.specs.Faults.{counted_up, count_after}
use Rattle.host_io.specs.declared.fault_plan.FaultPlan.{FaultPlan}

-- no call was made yet, and the calls whose numbers are listed will fail
pub record IsFresh (plan : FaultPlan) (fail_at : List ℕ) : Type 0 where
  pub listed : plan.fail_at.items ≡ fail_at
  pub no_call : plan.calls ≡ 0
  pub no_fault : plan.faults ≡ 0

-- the number of the next call is listed
abbrev pub FailsNext : FaultPlan → Type 0
FailsNext plan = Contains plan.fail_at.items plan.calls

-- one call was made, and counted as a fault if it failed
pub record CountsCall (old new : FaultPlan) (failed : Bool) : Type 0 where
  pub listed : new.fail_at.items ≡ old.fail_at.items
  pub numbered : new.calls ≡ counted_up old.calls
  pub faults : new.faults ≡ count_after failed old.faults

-- one call was made
abbrev pub CountsOneCall : FaultPlan → FaultPlan → Type 0
CountsOneCall old new = new.calls ≡ counted_up old.calls
