-- Why bytes cannot be read, and why a hand is refused, as text.
use Rattle.std.specs.Prelude.{ℕ, List}
use Rattle.acpc_game.specs.FaultText.{fault_text as acpc_text}
use Rattle.convert_core.specs.declared.format_fault.FormatFault.{FormatFault}
use Rattle.convert_core.specs.declared.format_fault.FormatFault.TheVariants as formats
use Rattle.convert_core.specs.declared.refusal.Refusal.{Refusal}
use Rattle.convert_core.specs.declared.refusal.Refusal.TheVariants as refusals
use Rattle.hand_canon.specs.DifferingFact.{differs_text}
use Rattle.ohh_reading.specs.FaultText.{fault_text as ohh_text}
use Rattle.phh_reading.specs.FaultText.{fault_text as phh_text}
use Rattle.replay_core.specs.FaultText.{fault_text as replay_text}

-- the first fault of bytes in their notation
abbrev pub format_text : FormatFault → List ℕ
format_text (formats.Phh fault) = phh_text fault
format_text (formats.Ohh fault) = ohh_text fault
format_text (formats.Acpc fault) = acpc_text fault

-- why a hand is refused
abbrev pub refusal_text : Refusal → List ℕ
refusal_text (refusals.Replay fault) = replay_text fault
refusal_text (refusals.Fact differs) = differs_text differs
