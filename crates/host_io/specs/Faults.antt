-- A device may say that it failed only if its count of faults rose.
use Rattle.std.specs.Prelude.{ℕ, ◌+◌, ◌-◌, ◌^◌, ◌≤◌, min, Bool, if◌then◌else◌}

-- a count of 64 bits plus one; it stops at its greatest value
abbrev pub counted_up : ℕ → ℕ
counted_up count = min (count + 1) (2 ^ 64 - 1)

-- a count of faults after a call that failed, or did not
abbrev pub count_after : Bool → ℕ → ℕ
count_after failed count = if failed then counted_up count else count

-- the count rose from before to now, or has its greatest value
abbrev pub Rose : ℕ → ℕ → Type 0
Rose before now = counted_up before ≤ now
