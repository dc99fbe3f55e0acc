-- A short trace has short lines: few chips, few moves, and few cards for each owner on each street.
use Rattle.std.specs.Prelude.{◌≡◌, ◌≤◌, ℕ, if◌then◌else◌, List, [], length, Option}
use Rattle.std.specs.List.{list_any}
use Rattle.card_set.specs.declared.card.Slot.{Slot}
use Rattle.card_set.specs.Known.{hides_card}
use Rattle.card_set.specs.Spelling.{spelling}
use Rattle.acpc_format.specs.Puts.{HaveFewChips}
use Rattle.acpc_view.specs.View.{seen_places}
use Rattle.play_event.specs.CanonScript.{dealt_slots}
use Rattle.play_event.specs.declared.hand_limits.TheConstants.{MOST_MOVES}
use Rattle.hand_canon.specs.TraceRows.{core_said}
use Rattle.hand_canon.specs.declared.trace.Trace.{Trace}
use Rattle.play_event.specs.Trace.{TracedPlace}

-- No seat puts more chips than a row holds, the trace has no more moves than a hand may have, and
-- no owner gets more cards on a street than a row holds.
pub record IsShort (trace : Trace) : Type 0 where
  -- each seat puts few chips
  pub chips : HaveFewChips trace.setup trace.moves
  -- there are few moves
  pub moves : length trace.moves ≤ MOST_MOVES
  -- and few cards for each owner on each street
  pub dealt : (owner : Option ℕ) (street : ℕ)
      → length (dealt_slots (core_said trace).places owner street) ≤ 7

-- A number is the length of a text, and at most `most`.
pub record IsLengthWithin (most : ℕ) (text : List ℕ) (number : ℕ) : Type 0 where
  pub value : number ≡ length text
  pub few : number ≤ most

-- the cards that a seat sees after the first `count` moves of a trace
abbrev pub seen_by : Trace → (viewer count : ℕ) → List TracedPlace
seen_by trace viewer count = seen_places (core_said trace) viewer count

-- the text of hole cards: empty if one of them is unknown
abbrev pub hole_of : List Slot → List ℕ
hole_of slots = if list_any hides_card slots then [] else spelling slots
