-- What is wrong with a script that has no trace.
use Rattle.std.specs.Prelude.{◌≡◌, ℕ, true, List, reverse, length, None, Some}
use Rattle.chip_ledger.specs.Rakes.{first_rake_above}
use Rattle.play_event.specs.PlayedScript.{IsPlayed}
use Rattle.hand_canon.specs.LegalHand.{showdown_in}
use Rattle.play_event.specs.TraceCore.{core_after}
use Rattle.play_event.specs.declared.event.Event.{Event}
use Rattle.play_event.specs.declared.setup.Rules.{Rules}
use Rattle.play_event.specs.declared.setup.Setup.{Setup}
use Rattle.play_event.specs.Laws.{AreLegal}
use Rattle.play_event.specs.Scripts.{has_early_end}
use Rattle.variant_table.specs.Shares.{first_unshown}
use Rattle.replay_core.specs.declared.fault.ReplayFault.{ReplayFault}
use Rattle.replay_core.specs.declared.fault.ReplayFault.TheVariants as faults
use Rattle.replay_core.specs.Events.{IsIllegalAt, said_by}

-- all events are legal, this is their number, and a deal, a draw, a bring-in or a move is due after
-- the last one
pub record HasEarlyEnd (setup : Setup) (rules : Rules) (script : List Event) (events : ℕ) : Type 0
  where
    pub legal : AreLegal setup rules (reverse (said_by script))
    pub early : has_early_end setup (said_by script) ≡ true
    pub counted : events ≡ length script

-- the script is played to its end, and this is the first pot whose rake is more than its chips
pub record HasRakeAbove (setup : Setup) (rules : Rules) (script : List Event) (pot : ℕ) : Type 0
  where
    pub played : IsPlayed setup rules (said_by script)
    pub above : first_rake_above setup.rakes (core_after setup (said_by script)).pots ≡ Some pot

-- the script is played to its end, no rake is more than its pot, and this is the first pot without
-- a shown hand
pub record HasUnshownPot (setup : Setup) (rules : Rules) (script : List Event) (pot : ℕ) : Type 0
  where
    pub played : IsPlayed setup rules (said_by script)
    pub no_rake_above : first_rake_above setup.rakes (core_after setup (said_by script)).pots ≡ None
    pub unshown :
        first_unshown (showdown_in setup (core_after setup (said_by script)))
        (core_after setup (said_by script)).pots
        ≡ Some pot

-- What a fault says is wrong with a script. No script has two of these faults, and a legal hand has
-- none; running out of memory says nothing about the script.
abbrev pub IsFaultOf : Setup → Rules → List Event → ReplayFault → Type 0
IsFaultOf setup rules script (faults.Illegal event at reason) =
    IsIllegalAt setup rules script event at reason
IsFaultOf setup rules script (faults.EndsEarly events) = HasEarlyEnd setup rules script events
IsFaultOf setup rules script (faults.RakeTooBig pot) = HasRakeAbove setup rules script pot
IsFaultOf setup rules script (faults.NoShownHand pot) = HasUnshownPot setup rules script pot
IsFaultOf setup rules script (faults.Memory memory) = Unit {0}

-- the fault is that memory ran out
abbrev pub IsOutOfMemory : ReplayFault → Type 0
IsOutOfMemory (faults.Memory memory) = Unit {0}
IsOutOfMemory fault = ⊥
