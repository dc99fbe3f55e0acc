-- The line that is printed when a game file cannot be read.
use Rattle.std.specs.Prelude.{ℕ, List, ◌++◌, codes}
use Rattle.std.specs.Fmt.{decimal}
use Rattle.acpc_game.specs.FaultText.{fault_name, location_of}
use Rattle.acpc_game.specs.declared.fault.AcpcFault.{AcpcFault}

-- the line of a fault in a game file
abbrev pub bad_game_line : AcpcFault → List ℕ
bad_game_line fault =
    codes "bad game: line "
    ++ (decimal (location_of fault).0 ++ (codes ": " ++ (fault_name fault ++ codes "\n")))
