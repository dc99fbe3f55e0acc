-- Records as a reader returns them: a valid setup, a script within the limits, stated rows that fit
-- it, and allowed notes.
use Rattle.std.specs.Prelude.{◌≡◌, ℕ, ◌≤◌, List, map}
use Rattle.std.specs.Option.{ForSome}
use Rattle.chip_ledger.specs.declared.seat_row.TheConstants.{MOST_AMOUNT}
use Rattle.play_event.specs.Said.{Said, said_of}
use Rattle.play_event.specs.ValidSetup.{IsValid}
use Rattle.play_event.specs.PlayedScript.{IsWithinLimits}
use Rattle.hand_canon.specs.declared.record.Record.{Record}
use Rattle.hand_canon.specs.declared.record.Stated.{Stated}
use Rattle.hand_canon.specs.AllowedNotes.{AreAllowed}

-- the script of a record
abbrev pub script_said : Record → List Said
script_said hand = map said_of hand.script

-- what is stated fits a trace: its rows are of this number of seats, and its total is at most what
-- a row may hold
pub record IsStatedFor (seats : ℕ) (stated : Stated) : Type 0 where
  pub finish : ForSome stated.finish (λ row. row.seats ≡ seats)
  pub wins : ForSome stated.wins (λ row. row.seats ≡ seats)
  pub pot_total : ForSome stated.pot_total (λ total. total ≤ MOST_AMOUNT)
  pub values : ForSome stated.values (λ row. row.seats ≡ seats)

-- a record is sound
pub record IsSoundRecord (hand : Record) : Type 0 where
  pub valid : IsValid hand.setup
  pub within : IsWithinLimits (script_said hand)
  pub stated : IsStatedFor hand.setup.stacks.seats hand.stated
  pub notes : AreAllowed hand.setup.stacks.seats hand.notes
