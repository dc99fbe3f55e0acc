-- Tidy traces: cards that must be known are known, and no event needs more cards than a row holds.
use Rattle.std.specs.Prelude.{◌≡◌, ℕ, ◌≤◌, ◌&&◌, ◌==◌, true, false, length, Option, None}
use Rattle.std.specs.List.{list_any}
use Rattle.card_set.specs.Known.{hides_card}
use Rattle.play_event.specs.Places.{is_same_owner}
use Rattle.play_event.specs.declared.hand_limits.TheConstants.{MOST_MOVES}
use Rattle.play_event.specs.TraceCore.{TraceCore}
use Rattle.play_event.specs.CanonScript.{dealt_slots, discarded_slots, held_slots}

-- The cards of a trace: the board and the cards of shown seats are known; no owner is dealt more
-- than seven cards on one street, no seat discards more than seven in one draw, and none holds more
-- than seven.
pub record HasTidyCards (trace : TraceCore) : Type 0 where
  pub board_known :
      list_any (λ place. is_same_owner place.owner None && hides_card place.slot) trace.places
      ≡ false
  pub shown_known : (seat : ℕ) → list_any (λ other. other == seat) trace.shown ≡ true
      → list_any hides_card (held_slots trace.places seat) ≡ false
  pub dealt_few : (owner : Option ℕ) (street : ℕ)
      → length (dealt_slots trace.places owner street) ≤ 7
  pub discards_few : (seat street : ℕ) → 1 ≤ street
      → length (discarded_slots trace.places seat street) ≤ 7
  pub held_few : (seat : ℕ) → length (held_slots trace.places seat) ≤ 7

-- a trace is tidy: its cards are, and its number of moves is within the limit
pub record IsTidy (trace : TraceCore) : Type 0 where
  pub cards : HasTidyCards trace
  pub moves_few : length trace.moves ≤ MOST_MOVES
