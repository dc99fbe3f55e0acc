-- What holds of the value of a choice, or of one step after another.
use Rattle.std.proofs.Common.{Result, Ok, Err, IfOk}
use Rattle.first_fault.specs.Reading.{◌>>=◌}

-- one step after another
pub after : {A B F : Type 0} (first : Result A F) (next : A → Result B F) (P : A → Type 0) (Q : B → Type 0) → IfOk first P → ((x : A) → P x → IfOk (next x) Q) → IfOk (first >>= next) Q
after (Ok x) next P Q one more = more x one
after (Err fault) next P Q one more = tt
