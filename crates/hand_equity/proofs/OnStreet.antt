-- The rows that are gathered from a trace are the cards on the table when a street begins.
use Rattle.std.proofs.Common.{◌≡◌, ◌≤◌, ◌&&◌, not, ℕ, Bool, true, nat_le, nat_lt, List, length, map, find, None, sym, ◌∙◌, ap, subst, arith}
use Rattle.std.specs.List.{list_any}
use Rattle.std.proofs.lemmas.Bool.{and_from, le-leb}
use Rattle.card_set.specs.declared.card.Card.{Card}
use Rattle.card_set.specs.declared.card.Slot.{Slot}
use Rattle.card_set.specs.declared.row.CardRow.{CardRow}
use Rattle.card_set.specs.declared.set.CardSet.{CardSet}
use Rattle.card_set.specs.CardSet.{is_in, is_one_of}
use Rattle.card_set.specs.Known.{hides_card, known_among}
use Rattle.card_set.specs.Row.{cards_of}
use Rattle.play_event.specs.CanonScript.{dealt_slots, held_slots}
use Rattle.chip_ledger.specs.declared.live_row.LiveRow.{LiveRow}
use Rattle.chip_ledger.specs.LiveRow.{flag_of}
use Rattle.chip_ledger.specs.Seat.{seats_of}
use Rattle.chip_ledger.proofs.SeatLists.{any_seats}
use Rattle.hand_canon.specs.RowTests.{is_fold_before}
use Rattle.hand_canon.specs.declared.trace.Trace.{Trace}
use Rattle.hand_canon.specs.TraceRows.{place_said}
use Rattle.card_set.proofs.Finding.{find_agree}
use Rattle.play_event.specs.declared.hands.HandRow.{HandRow}
use Rattle.play_event.specs.declared.played.Move as rows
use Rattle.play_event.specs.declared.played.Place as places
use Rattle.play_event.specs.SeatSlots.{slots_of_hand}
use Rattle.showdown_split.specs.Hands.{holding}
use Rattle.hand_equity.specs.Equity.{plays_board}
use Rattle.hand_equity.specs.Undealt.{standing_of}
use Rattle.hand_equity.specs.Street.{board_slots, cards_of_seat, deals_board, first_unknown, is_live_on, is_unknown_seat, standing_on, traced}
use Rattle.hand_equity.proofs.SameTable.{AreSame}

-- a board is dealt on the street
pub deals : (trace : Trace) (street : ℕ) (all : List places.Place) (dealt : Bool) → plays_board trace.setup.code ≡ true → 2 ≤ street → street ≤ 4 → all ≡ trace.places → dealt ≡ nat_lt 0 (length (dealt_slots (map place_said all) None street)) → deals_board trace street ≡ dealt
deals trace street all dealt board least most same is =
    ap (λ (b : Bool). b && nat_lt 0 (length (dealt_slots (traced trace) None street)))
    (and_from (plays_board trace.setup.code) (nat_le 2 street && nat_le street 4) board (and_from (nat_le 2 street) (nat_le street 4) (le-leb 2 street least) (le-leb street 4 most)))
    ∙ sym (is ∙ ap (λ (l : List places.Place). nat_lt 0 (length (dealt_slots (map place_said l) None street))) same)

-- what is gathered of a trace
pub record AreGathered (trace : Trace) (street : ℕ) (hands : HandRow) (live : LiveRow) : Type 0 where
  pub seats : live.seats ≡ trace.setup.stacks.seats
  pub flags : (n : ℕ) → 1 ≤ n → n ≤ trace.setup.stacks.seats → flag_of live n ≡ is_live_on trace street n
  pub held : (n : ℕ) → 1 ≤ n → slots_of_hand hands n ≡ held_slots (traced trace) n

-- rows that are gathered of its moves and places
pub gathered : (trace : Trace) (street : ℕ) (hands : HandRow) (live : LiveRow) (moves : List rows.Move) (all : List places.Place) → moves ≡ trace.moves → all ≡ trace.places → live.seats ≡ trace.setup.stacks.seats → ((n : ℕ) → 1 ≤ n → n ≤ trace.setup.stacks.seats → flag_of live n ≡ not (list_any (is_fold_before street n) moves)) → ((n : ℕ) → 1 ≤ n → slots_of_hand hands n ≡ held_slots (map place_said all) n) → AreGathered trace street hands live
gathered trace street hands live moves all same_moves same_places seats flags held = record {
  seats = seats;
  flags = λ n least most. flags n least most ∙ ap (λ (l : List rows.Move). not (list_any (is_fold_before street n) l)) same_moves;
  held = λ n least. held n least ∙ ap (λ (l : List places.Place). held_slots (map place_said l) n) same_places;
}

-- the same seat is the first with an unknown card
pub same_unknown : (trace : Trace) (street : ℕ) (hands : HandRow) (live : LiveRow) → AreGathered trace street hands live → find (λ n. flag_of live n && list_any hides_card (slots_of_hand hands n)) (seats_of live.seats) ≡ first_unknown trace street
same_unknown trace street hands live are =
    ap (λ (s : ℕ). find (λ n. flag_of live n && list_any hides_card (slots_of_hand hands n)) (seats_of s)) are.seats
    ∙ find_agree (λ n. flag_of live n && list_any hides_card (slots_of_hand hands n)) (is_unknown_seat trace street) 1 trace.setup.stacks.seats (λ n least most.
    ap (λ (b : Bool). b && list_any hides_card (slots_of_hand hands n)) (are.flags n least (omega (arith, most)))
    ∙ ap (λ (l : List Slot). is_live_on trace street n && list_any hides_card l) (are.held n least))

-- and the cards on the table are the same
pub same_table : (trace : Trace) (street : ℕ) (hands : HandRow) (live : LiveRow) (board : CardRow) (dead : CardSet) (all : List places.Place) → AreGathered trace street hands live → all ≡ trace.places → cards_of board ≡ known_among (board_slots (map place_said all) street) → ((card : Card) → is_in dead card ≡ list_any (λ seat. not (flag_of live seat) && is_one_of card (holding hands seat)) (seats_of live.seats)) → AreSame (standing_of hands live board dead) (standing_on trace street)
same_table trace street hands live board dead all are same_places board_is dead_is = record {
  seats = are.seats;
  live = λ n inside. are.flags n inside.first (subst (λ (s : ℕ). n ≤ s) are.seats inside.last);
  holding = λ n inside. ap known_among (are.held n inside.first);
  board = board_is ∙ ap (λ (l : List places.Place). known_among (board_slots (map place_said l) street)) same_places;
  dead = λ card.
      dead_is card
      ∙ ap (λ (s : ℕ). list_any (λ seat. not (flag_of live seat) && is_one_of card (holding hands seat)) (seats_of s)) are.seats
      ∙ any_seats (λ seat. not (flag_of live seat) && is_one_of card (holding hands seat)) (λ seat. not (is_live_on trace street seat) && is_one_of card (cards_of_seat trace seat)) trace.setup.stacks.seats (λ n least most.
      ap (λ (b : Bool). not b && is_one_of card (holding hands n)) (are.flags n least most)
      ∙ ap (λ (l : List Slot). not (is_live_on trace street n) && is_one_of card (known_among l)) (are.held n least));
}
