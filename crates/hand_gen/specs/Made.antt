-- The records of made hands.
use Rattle.std.specs.Prelude.{◌≡◌, ℕ, ◌+◌, List, [], ◌∷◌, length, map, reverse, Option, Some, None}
use Rattle.std.specs.List.{range_with_len}
use Rattle.play_event.specs.declared.event.Event.{Event}
use Rattle.play_event.specs.declared.setup.Rules.{Rules}
use Rattle.play_event.specs.declared.setup.Setup.{Setup}
use Rattle.play_event.specs.HistoryRules.{history_rules}
use Rattle.play_event.specs.Said.{Said, said_of}
use Rattle.play_event.specs.Scripts.{past_of}
use Rattle.hand_canon.specs.AllowedNotes.{AreNoNotes}
use Rattle.hand_canon.specs.declared.record.Record.{Record}
use Rattle.hand_canon.specs.StatedFacts.{IsNothingStated}
use Rattle.hand_gen.specs.Coming.{coming}
use Rattle.hand_gen.specs.Setups.{IsMadeSetup, number_behind_setup}
use Rattle.hand_gen.specs.HandSource.{HandSource, full_deck}

-- the stock after events, the newest first, beginning with this stock
abbrev pub source_behind : Setup → Rules → HandSource → List Said → HandSource
source_behind setup rules stock [] = stock
source_behind setup rules stock (event ∷ before) =
    (coming setup rules (past_of setup before) (source_behind setup rules stock before)).left

-- what comes after events
abbrev pub next_event : Setup → Rules → HandSource → List Said → Option Said
next_event setup rules stock events =
    (coming setup rules (past_of setup events) (source_behind setup rules stock events)).event

-- each of the events, the newest first, is the one that comes after those before it
abbrev pub HaveCome : Setup → Rules → HandSource → List Said → Type 0
HaveCome setup rules stock [] = Unit {0}
HaveCome setup rules stock (event ∷ before) =
    (next_event setup rules stock before ≡ Some event) × HaveCome setup rules stock before

-- what the events of a script say, the newest first
abbrev pub backward : List Event → List Said
backward script = reverse (map said_of script)

-- a script is made from a stock: each of its events has come, nothing comes after the last, and
-- they are numbered from 1
pub record IsMadeScript (setup : Setup) (stock : HandSource) (script : List Event) : Type 0 where
  pub come : HaveCome setup history_rules stock (backward script)
  pub whole : next_event setup history_rules stock (backward script) ≡ None
  pub numbered : map (λ (event : Event). event.at) script ≡ range_with_len 1 (length script)

-- the stock with which a hand begins: the generator after the setup, and the whole deck
abbrev pub source_of : ℕ → Setup → HandSource
source_of number setup =
    record { number = number_behind_setup number setup; deck = full_deck setup.code }

-- a record is the made hand at a place among the hands, where the generator has come to this number
pub record IsMade (place number : ℕ) (hand : Record) : Type 0 where
  pub setup : IsMadeSetup place number hand.setup
  pub rules : hand.rules ≡ history_rules
  pub script : IsMadeScript hand.setup (source_of number hand.setup) hand.script
  pub stated : IsNothingStated hand.stated
  pub notes : AreNoNotes hand.notes

-- the generator's number after a hand
abbrev pub number_behind : ℕ → Record → ℕ
number_behind number hand =
    (source_behind hand.setup history_rules (source_of number hand.setup)
    (backward hand.script)).number

-- records are the made hands from a place on, one after another
abbrev pub AreMadeFrom : ℕ → ℕ → List Record → Type 0
AreMadeFrom place number [] = Unit {0}
AreMadeFrom place number (hand ∷ rest) =
    IsMade place number hand × AreMadeFrom (place + 1) (number_behind number hand) rest

-- records are this number of made hands, from a seed
pub record AreMade (seed count : ℕ) (hands : List Record) : Type 0 where
  pub counted : length hands ≡ count
  pub made : AreMadeFrom 0 seed hands

-- the generator's number after all hands
abbrev pub number_behind_all : ℕ → List Record → ℕ
number_behind_all number [] = number
number_behind_all number (hand ∷ rest) = number_behind_all (number_behind number hand) rest
