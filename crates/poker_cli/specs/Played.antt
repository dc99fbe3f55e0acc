-- Which plays were taken.
use Rattle.std.specs.Prelude.{◌≤◌, ℕ, List, length}
use Rattle.convert_core.specs.Judged.{ArePlaysOf}
use Rattle.hand_canon.specs.declared.record.Record.{Record}
use Rattle.hand_canon.specs.declared.trace.Play.{Play}

-- Plays were taken, and their number is within this limit.
pub record HasTakenPlays (Took : List Play → Type 0) (most : ℕ) : Type 0 where
  pub plays : List Play
  pub took : Took plays
  pub few : length plays ≤ most

-- All records have plays, and these were taken.
pub record HaveTaken (Took : List Play → Type 0) (records : List Record) : Type 0 where
  pub plays : List Play
  pub are : ArePlaysOf records plays
  pub took : Took plays
