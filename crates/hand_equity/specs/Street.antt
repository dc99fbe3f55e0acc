-- The cards on the table of a played hand when a street begins.
use Rattle.std.specs.Prelude.{◌≡◌, ◌≤◌, ◌&&◌, ℕ, Bool, true, false, not, nat_le, nat_lt, List, length, map, find, flat_map, Option, Some, None}
use Rattle.std.specs.List.{list_any, range_with_len}
use Rattle.card_set.specs.declared.card.Card.{Card}
use Rattle.card_set.specs.declared.card.Slot.{Slot}
use Rattle.card_set.specs.CardSet.{is_one_of}
use Rattle.card_set.specs.Known.{hides_card, known_among}
use Rattle.chip_ledger.specs.Seat.{seats_of}
use Rattle.play_event.specs.CanonScript.{dealt_slots, held_slots}
use Rattle.hand_canon.specs.RowTests.{is_fold_before}
use Rattle.hand_canon.specs.declared.trace.Trace.{Trace}
use Rattle.hand_canon.specs.TraceRows.{place_said}
use Rattle.play_event.specs.Trace.{TracedPlace}
use Rattle.hand_equity.specs.declared.refusal.NoEquity.{NoEquity}
use Rattle.hand_equity.specs.declared.refusal.NoEquity.TheVariants as refusals
use Rattle.hand_equity.specs.declared.row.EquityRow.{EquityRow}
use Rattle.hand_equity.specs.Equity.{CanComplete, IsEquity, plays_board}
use Rattle.hand_equity.specs.LiveHands.{IsLive}
use Rattle.hand_equity.specs.Undealt.{Standing}

-- the dealt cards of a trace, with plain numbers for seats
abbrev pub traced : Trace → List TracedPlace
traced trace = map place_said trace.places

-- a seat is live when a street begins: it did not fold on an earlier one
abbrev pub is_live_on : Trace → ℕ → ℕ → Bool
is_live_on trace street seat = not (list_any (is_fold_before street seat) trace.moves)

-- the known cards that a seat has at the end of the hand, or had when it folded
abbrev pub cards_of_seat : Trace → ℕ → List Card
cards_of_seat trace seat = known_among (held_slots (traced trace) seat)

-- the board, of all streets up to this one
abbrev pub board_slots : List TracedPlace → ℕ → List Slot
board_slots placed street = flat_map (dealt_slots placed None) (range_with_len 1 street)

-- the card belongs to a seat that folded before
abbrev pub is_folded_card : Trace → ℕ → Card → Bool
is_folded_card trace street card =
    list_any
    (λ seat. not (is_live_on trace street seat) && is_one_of card (cards_of_seat trace seat))
    (seats_of trace.setup.stacks.seats)

-- the cards on the table when a street begins
abbrev pub standing_on : Trace → ℕ → Standing
standing_on trace street = record {
  hands = record {
    seats = trace.setup.stacks.seats;
    live = is_live_on trace street;
    holding = cards_of_seat trace;
  };
  board = known_among (board_slots (traced trace) street);
  dead = is_folded_card trace street;
}

-- the game has a board, and the hand dealt a board card on this street, which is 2, 3 or 4
abbrev pub deals_board : Trace → ℕ → Bool
deals_board trace street =
    plays_board trace.setup.code && (nat_le 2 street && nat_le street 4)
    && nat_lt 0 (length (dealt_slots (traced trace) None street))

-- a live seat has a card that stayed unknown
abbrev pub is_unknown_seat : Trace → ℕ → ℕ → Bool
is_unknown_seat trace street seat =
    is_live_on trace street seat && list_any hides_card (held_slots (traced trace) seat)

-- the first such seat
abbrev pub first_unknown : Trace → ℕ → Option ℕ
first_unknown trace street =
    find (is_unknown_seat trace street) (seats_of trace.setup.stacks.seats)

-- the equity of a hand on a street
pub record IsEquityOn (trace : Trace) (street : ℕ) (row : EquityRow) : Type 0 where
  pub dealt : deals_board trace street ≡ true
  pub known : first_unknown trace street ≡ None
  pub equity : IsEquity trace.setup.code (standing_on trace street) row

-- why a hand has no equity on a street
abbrev pub HasNoEquity : Trace → ℕ → NoEquity → Type 0
HasNoEquity trace street refusals.NoStreet = deals_board trace street ≡ false
HasNoEquity trace street (refusals.UnknownCards seat) =
    (deals_board trace street ≡ true) × (first_unknown trace street ≡ Some seat.number)

-- what holds for every trace: no seat has more cards than a row, and if a board card is dealt on a
-- street, a seat is live then, and the board can be completed for the live seats if their cards are
-- known
pub record IsReady (trace : Trace) (street : ℕ) : Type 0 where
  pub held : (seat : ℕ) → length (held_slots (traced trace) seat) ≤ 7
  pub board : deals_board trace street ≡ true
      → length (board_slots (traced trace) street) ≤ 5
  pub some : deals_board trace street ≡ true
      → (seat : ℕ) × IsLive (standing_on trace street).hands seat
  pub complete : deals_board trace street ≡ true → first_unknown trace street ≡ None
      → CanComplete trace.setup.code (standing_on trace street)
