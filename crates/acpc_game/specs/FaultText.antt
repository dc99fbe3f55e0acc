-- The fault of a log or of a game file as text, with its line and the byte that shows it.
use Rattle.std.specs.Prelude.{ℕ, List, ◌++◌, codes}
use Rattle.std.specs.Fmt.{decimal}
use Rattle.acpc_game.specs.declared.fault.AcpcFault.{AcpcFault}
use Rattle.acpc_game.specs.declared.fault.AcpcFault.TheVariants as faults

-- the name of a fault
abbrev pub fault_name : AcpcFault → List ℕ
fault_name (faults.LineShape line byte) = codes "LineShape"
fault_name (faults.BadBetting line byte) = codes "BadBetting"
fault_name (faults.BadCards line byte) = codes "BadCards"
fault_name (faults.BadValue line byte) = codes "BadValue"
fault_name (faults.SeatCount line byte) = codes "SeatCount"
fault_name (faults.GameShape line byte) = codes "GameShape"
fault_name (faults.UnsupportedGame line byte) = codes "UnsupportedGame"
fault_name (faults.AmountLimit line byte) = codes "AmountLimit"
fault_name (faults.TooMany quantity line byte) = codes "TooMany"
fault_name (faults.Memory memory) = codes "Memory"

-- the line of a file that has a fault, and the byte of this line at which it is, each from 1; 0 and
-- 0 if memory ran out
abbrev pub location_of : AcpcFault → ℕ × ℕ
location_of (faults.LineShape line byte) = (line, byte)
location_of (faults.BadBetting line byte) = (line, byte)
location_of (faults.BadCards line byte) = (line, byte)
location_of (faults.BadValue line byte) = (line, byte)
location_of (faults.SeatCount line byte) = (line, byte)
location_of (faults.GameShape line byte) = (line, byte)
location_of (faults.UnsupportedGame line byte) = (line, byte)
location_of (faults.AmountLimit line byte) = (line, byte)
location_of (faults.TooMany quantity line byte) = (line, byte)
location_of (faults.Memory memory) = (0, 0)

-- the text of a fault: its line, its byte and its name
abbrev pub fault_text : AcpcFault → List ℕ
fault_text fault =
    codes "line "
    ++ (decimal (location_of fault).0
    ++ (codes ", byte " ++ (decimal (location_of fault).1 ++ (codes ": " ++ fault_name fault))))
