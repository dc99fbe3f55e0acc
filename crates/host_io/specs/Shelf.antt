-- The answer of a shelf for a name, by the bytes under it.
use Rattle.std.specs.Prelude.{◌≡◌, ◌<◌, ◌≤◌, ℕ, Bool, true, false, List, length, Option, None, Some, IsSomeAnd, Result, Ok, Err}
use Rattle.host_io.specs.declared.shelf.Fetched.{Fetched}
use Rattle.host_io.specs.declared.shelf.Fetched.TheVariants.{Bytes, Absent, TooLong}
use Rattle.host_io.specs.declared.shelf.ShelfFault.{ShelfFault}
use Rattle.host_io.specs.declared.shelf.ShelfFault.TheVariants.{Failed, Memory}

-- all of the bytes, if they are at most max; exactly one of the three answers fits
abbrev pub IsAnswer : Option (List ℕ) → ℕ → Fetched → Type 0
IsAnswer file max (Bytes fetched) = (file ≡ Some fetched.items) × (length fetched.items ≤ max)
IsAnswer file max Absent = file ≡ None
IsAnswer file max TooLong = IsSomeAnd file (λ bytes. max < length bytes)

-- the bytes of an answer are within max
abbrev pub IsWithin : ℕ → Fetched → Type 0
IsWithin max (Bytes fetched) = length fetched.items ≤ max
IsWithin max fetched = Unit {0}

-- whether the answer is that the shelf failed
abbrev pub has_failed : Result Fetched ShelfFault → Bool
has_failed (Err Failed) = true
has_failed (Err (Memory memory)) = false
has_failed (Ok fetched) = false
