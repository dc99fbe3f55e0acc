-- What it means that bytes read back as plays.
use Rattle.std.specs.Prelude.{ℕ, List, length}
use Rattle.hand_canon.specs.ReadAgain.{AreAgain}
use Rattle.hand_canon.specs.declared.notes.Notes.{Notes}
use Rattle.hand_canon.specs.declared.record.Record.{Record}
use Rattle.hand_canon.specs.declared.trace.Play.{Play}
use Rattle.convert_core.specs.declared.format_fault.FormatFault.{FormatFault}

-- Bytes read back as plays in a notation: they read as the same number of hands as there are plays,
-- they have no fault, and the hands that they say are those of the plays again. The parameters are
-- what the bytes say, as how many hands they read, and which fault they have.
pub record ReadBack (Say : List Record → Type 0) (ReadAsHands : ℕ → Type 0)
    (HaveFault : FormatFault → Type 0) (keeps : ℕ → ℕ → Notes → Notes → Type 0) (plays : List Play)
    : Type 0 where
  pub read : ReadAsHands (length plays)
  pub no_fault : (fault : FormatFault) → HaveFault fault → ⊥
  pub again : (hands : List Record) → Say hands → AreAgain keeps 0 plays hands
