-- A fault of the first reading stops the second.
use Rattle.std.proofs.Common.{Result, refl}
use Rattle.first_fault.specs.declared.stop.ReadError.{ReadError}
use Rattle.first_fault.specs.declared.stop.ReadError.TheVariants as read_errors
use Rattle.first_fault.specs.Reading.{◌>>=◌, Fails}

pub fails_then : {F A B : Type 0} (stop : ReadError F) (read : Result A F) (next : A → Result B F) → Fails stop read → Fails stop (read >>= next)
fails_then (read_errors.Memory memory) read next fails = tt
fails_then (read_errors.Fault fault) read next fails = rw fails refl
