-- Records that say the same, so that bytes cannot tell them apart.
use Rattle.std.specs.Prelude.{◌≡◌, ℕ, List, [], ◌∷◌, take, None, option_map, slice_index_or}
use Rattle.hand_canon.specs.NoteTable.{texts_of}
use Rattle.hand_canon.specs.declared.notes.Notes.{Notes}
use Rattle.hand_canon.specs.declared.record.Record.{Record}
use Rattle.hand_canon.specs.declared.trace.Play.{Play}

-- two records say the same of their play
pub record SayTheSame (a b : Record) : Type 0 where
  pub setup : a.setup ≡ b.setup
  pub rules : a.rules ≡ b.rules
  pub script : a.script ≡ b.script
  pub stated : a.stated ≡ b.stated

-- two notes of a hand with this number of seats are the same, name by name and note by note
pub record NoteTheSame (count : ℕ) (a b : Notes) : Type 0 where
  pub names : (index : ℕ) → slice_index_or a.names index None ≡ slice_index_or b.names index None
  pub seats : option_map (take count) a.seats ≡ option_map (take count) b.seats
  pub seat_count : a.seat_count ≡ b.seat_count
  pub hand : a.hand ≡ b.hand
  pub texts : texts_of a ≡ texts_of b
  pub year : a.year ≡ b.year
  pub month : a.month ≡ b.month
  pub day : a.day ≡ b.day
  pub time : a.time ≡ b.time
  pub zone : a.zone ≡ b.zone

-- two records say the same, of their play and in their notes
pub record AreAlike (a b : Record) : Type 0 where
  pub same : SayTheSame a b
  pub notes : NoteTheSame a.setup.stacks.seats a.notes b.notes

-- records say the same, one by one, and are the same number
unfoldable pub AllAlike : List Record → List Record → Type 0
AllAlike [] [] = Unit {0}
AllAlike [] (b ∷ others) = ⊥
AllAlike (a ∷ rest) [] = ⊥
AllAlike (a ∷ rest) (b ∷ others) = AreAlike a b × AllAlike rest others

-- two plays have the same trace, and their records say the same of their play and, for the seats of
-- the trace, in their notes
pub record ArePlayedAlike (a b : Play) : Type 0 where
  pub trace : a.trace ≡ b.trace
  pub same : SayTheSame a.hand b.hand
  pub notes : NoteTheSame a.trace.setup.stacks.seats a.hand.notes b.hand.notes
