-- Faults of a line, and of a file by the number of the line.
use Rattle.std.specs.Prelude.{◌≡◌, ℕ, Result, Ok, Err}
use Rattle.acpc_game.specs.declared.fault.LineFaultKind.{LineFaultKind}
use Rattle.acpc_game.specs.declared.fault.LineFaultKind.TheVariants as whats
use Rattle.acpc_game.specs.declared.fault.LineFault.{LineFault}
use Rattle.acpc_game.specs.declared.fault.AcpcFault.{AcpcFault}
use Rattle.acpc_game.specs.declared.fault.AcpcFault.TheVariants as faults
use Rattle.first_fault.specs.Numbers.{saturated}
use Rattle.first_fault.specs.declared.stop.ReadError.{ReadError}
use Rattle.first_fault.specs.declared.stop.ReadError.TheVariants as stops

-- the fault of this kind at a line and a byte
abbrev pub fault_of : LineFaultKind → ℕ → ℕ → AcpcFault
fault_of whats.LineShape line byte = faults.LineShape line byte
fault_of whats.BadBetting line byte = faults.BadBetting line byte
fault_of whats.BadCards line byte = faults.BadCards line byte
fault_of whats.BadValue line byte = faults.BadValue line byte
fault_of whats.SeatCount line byte = faults.SeatCount line byte
fault_of whats.GameShape line byte = faults.GameShape line byte
fault_of whats.UnsupportedGame line byte = faults.UnsupportedGame line byte
fault_of whats.AmountLimit line byte = faults.AmountLimit line byte
fault_of (whats.TooMany quantity) line byte = faults.TooMany quantity line byte

-- the fault of a line as a fault of the file
abbrev pub fault_in_line : ℕ → LineFault → AcpcFault
fault_in_line line fault = fault_of fault.what (saturated line) (saturated fault.byte)

-- why a reader stopped, as a fault
abbrev pub fault_of_stop : ReadError AcpcFault → AcpcFault
fault_of_stop (stops.Memory memory) = faults.Memory memory
fault_of_stop (stops.Fault fault) = fault

-- a line is wrong at a byte
abbrev pub wrong : {A : Type 0} → LineFaultKind → ℕ → Result A LineFault
wrong what byte = Err (record { what = what; byte = byte })

-- what a line says, or its fault as a fault of the file
abbrev pub in_line : {A : Type 0} → ℕ → Result A LineFault → Result A AcpcFault
in_line line (Ok said) = Ok said
in_line line (Err fault) = Err (fault_in_line line fault)

-- The result of a reader, seen by a view, is what the definition says, unless memory ran out. The
-- definition never gives Memory.
abbrev pub Answers : {X Y : Type 0} → (X → Y) → Result X AcpcFault → Result Y AcpcFault → Type 0
Answers view (Ok x) reading = reading ≡ Ok (view x)
Answers view (Err (faults.Memory memory)) reading = Unit {0}
Answers view (Err (faults.LineShape line byte)) reading = reading ≡ Err (faults.LineShape line byte)
Answers view (Err (faults.BadBetting line byte)) reading =
    reading ≡ Err (faults.BadBetting line byte)
Answers view (Err (faults.BadCards line byte)) reading = reading ≡ Err (faults.BadCards line byte)
Answers view (Err (faults.BadValue line byte)) reading = reading ≡ Err (faults.BadValue line byte)
Answers view (Err (faults.SeatCount line byte)) reading = reading ≡ Err (faults.SeatCount line byte)
Answers view (Err (faults.GameShape line byte)) reading = reading ≡ Err (faults.GameShape line byte)
Answers view (Err (faults.UnsupportedGame line byte)) reading =
    reading ≡ Err (faults.UnsupportedGame line byte)
Answers view (Err (faults.AmountLimit line byte)) reading =
    reading ≡ Err (faults.AmountLimit line byte)
Answers view (Err (faults.TooMany quantity line byte)) reading =
    reading ≡ Err (faults.TooMany quantity line byte)
