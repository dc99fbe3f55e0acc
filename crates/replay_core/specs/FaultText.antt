-- Why a script has no trace, as text.
use Rattle.std.specs.Prelude.{ℕ, List, ◌++◌, codes}
use Rattle.std.specs.Fmt.{decimal}
use Rattle.play_event.specs.ReasonText.{reason_text}
use Rattle.replay_core.specs.declared.fault.ReplayFault.{ReplayFault}
use Rattle.replay_core.specs.declared.fault.ReplayFault.TheVariants as faults

-- which event of a script is illegal, by its number and that of its action, and why; or what else
-- is wrong with the script
abbrev pub fault_text : ReplayFault → List ℕ
fault_text (faults.Illegal event at why) =
    codes "event "
    ++ (decimal event ++ (codes ", action " ++ (decimal at ++ (codes ": " ++ reason_text why))))
fault_text (faults.EndsEarly events) =
    codes "ends early after " ++ (decimal events ++ codes " events")
fault_text (faults.RakeTooBig pot) = codes "pot " ++ (decimal pot ++ codes ": rake too big")
fault_text (faults.NoShownHand pot) = codes "pot " ++ (decimal pot ++ codes ": no shown hand")
fault_text (faults.Memory memory) = codes "out of memory"
