-- The reasons against a deal by the state are the reasons of the rules.
use Rattle.std.proofs.Common.{◌≡◌, ℕ, ◌-◌, Bool, true, false, ◌||◌, ◌==◌, not, nat_lt, nat_le, if◌then◌else◌, List, length, count_by, Option, Some, None, refl, sym, ap, ◌∙◌}
use Rattle.std.proofs.lemmas.Bool.{and_parts, leb-true}
use Rattle.std.proofs.lemmas.List.{length-map}
use Rattle.card_set.specs.Known.{known_slots}
use Rattle.card_set.specs.declared.card.Card.{Card}
use Rattle.card_set.specs.declared.card.Slot.{Slot}
use Rattle.card_set.specs.declared.card.Slot.TheVariants as slots
use Rattle.chip_ledger.specs.declared.live_row.LiveRow.{LiveRow}
use Rattle.chip_ledger.specs.LiveRow.{flag_of}
use Rattle.play_event.specs.declared.code.Code.{Code}
use Rattle.play_event.specs.declared.reason.Due.{Due}
use Rattle.play_event.specs.declared.reason.Due.TheVariants as dues
use Rattle.play_event.specs.declared.reason.Illegal.{Illegal}
use Rattle.play_event.specs.declared.reason.Illegal.TheVariants as reasons
use Rattle.play_event.specs.declared.setup.Setup.{Setup}
use Rattle.play_event.specs.declared.setup.Rules.{Rules}
use Rattle.play_event.specs.Games.{hole_cards_on, board_cards_on}
use Rattle.play_event.specs.Streets.{has_draw}
use Rattle.play_event.specs.Said as said
use Rattle.play_event.specs.Past.{Past, moves_of}
use Rattle.play_event.specs.Seats.{is_live}
use Rattle.play_event.specs.Dealing.{cards_discarded, cards_owed, board_cards_owed}
use Rattle.play_event.specs.Due.{turn}
use Rattle.play_event.specs.Places.{Place, is_in_group}
use Rattle.play_event.specs.Table.{places_of}
use Rattle.play_event.specs.Taken.{has_taken_card}
use Rattle.play_event.specs.CardReasons.{is_wrong_deal}
use Rattle.play_event.specs.Reasons.{why, first_reason, all_reasons}
use Rattle.card_places.specs.declared.card_state.CardState.{CardState}
use Rattle.card_places.specs.Drawn.{named_at}
use Rattle.card_places.specs.Placed.{placed}
use Rattle.deal_core.specs.Standing.{IsNow}
use Rattle.card_places.specs.Refusals.{owed_of, owed_in, board_owed_in, deal_chain, hole_deal_reason_on, board_deal_reason_on, hole_deal_reason, board_deal_reason}
use Rattle.card_places.specs.Room.{is_seat_of}
use Rattle.card_places.specs.DueStreet.{due_street}
use Rattle.play_laws.proofs.Groups.{group_count}
use Rattle.play_laws.proofs.DueStreets.{deal_street, draw_street}
use Rattle.card_set.proofs.Options.{from_some_none}
use Rattle.chip_ledger.specs.Seat.{IsSeatOf}

-- a kind that may come
by_kind : (k : Bool) (rest : Option Illegal) → (if not (k || false) then Some reasons.WrongKind else rest) ≡ (if k then rest else Some reasons.WrongKind)
by_kind true rest = refl
by_kind false rest = refl

chain_same : (b : Bool) (x y count : ℕ) (taken : Bool) → (b ≡ true → x ≡ y) → deal_chain (not b || (x == 0)) x count taken ≡ deal_chain (not b || (y == 0)) y count taken
chain_same true x y count taken same = ap (λ o. deal_chain (not true || (o == 0)) o count taken) (same refl)
chain_same false x y count taken same = refl

pub seat_in : (seats seat : ℕ) → is_seat_of seats seat ≡ true → IsSeatOf seats seat
seat_in seats seat is =
    let parts = and_parts (nat_le 1 seat) (nat_le seat seats) is in
    record { first = leb-true 1 seat parts.0; last = leb-true seat seats parts.1 }

module _ (t : CardState) (due : Due) (live : LiveRow) (setup : Setup) (past : Past) (now : IsNow t due live setup past) where
  -- what a seat was dealt on a street
  pub dealt_is : (owner : Option ℕ) (on : ℕ) → count_by (is_in_group owner on) (placed t.places) ≡ count_by (is_in_group owner on) (places_of setup.code past)
  dealt_is owner on = ap (count_by (is_in_group owner on)) (now.stands.places ∙ ap (λ (c : Code). places_of c past) (sym now.code_is))

  pub owed_is : (on seat : ℕ) → IsSeatOf t.seats seat → cards_owed setup past on seat ≡ owed_in t live on seat
  owed_is on seat in_hand = sym (
      ap (λ (c : Code). owed_of (has_draw c on) (flag_of live seat) (hole_cards_on c on) (named_at t.draws on seat) (count_by (is_in_group (Some seat) on) (placed t.places))) (sym now.code_is)
      ∙ ap (λ (l : Bool). owed_of (has_draw setup.code on) l (hole_cards_on setup.code on) (named_at t.draws on seat) (count_by (is_in_group (Some seat) on) (placed t.places))) (now.lives seat in_hand)
      ∙ ap (λ (n : ℕ). owed_of (has_draw setup.code on) (is_live (moves_of past) seat) (hole_cards_on setup.code on) n (count_by (is_in_group (Some seat) on) (placed t.places))) (now.stands.named on seat in_hand)
      ∙ ap (λ (n : ℕ). owed_of (has_draw setup.code on) (is_live (moves_of past) seat) (hole_cards_on setup.code on) (cards_discarded past on seat) n) (dealt_is (Some seat) on ∙ group_count setup.code (Some seat) past on)
      )

  pub board_owed_is : (on : ℕ) → board_cards_owed setup past on ≡ board_owed_in t on
  board_owed_is on = sym (
      ap (λ (c : Code). board_cards_on c on - count_by (is_in_group None on) (placed t.places)) (sym now.code_is)
      ∙ ap (λ (n : ℕ). board_cards_on setup.code on - n) (dealt_is None on ∙ group_count setup.code None past on)
      )

  taken_is : (on : ℕ) (cards : List Slot) → has_taken_card setup.code (places_of setup.code past) on cards ≡ has_taken_card t.table.code (placed t.places) on cards
  taken_is on cards =
      ap (λ (c : Code). has_taken_card c (places_of c past) on cards) now.code_is
      ∙ ap (λ (ps : List Place). has_taken_card t.table.code ps on cards) (sym now.stands.places)

  on_is : (on seat : ℕ) (cards : List Slot) → deal_chain (not (is_seat_of setup.stacks.seats seat) || (cards_owed setup past on seat == 0)) (cards_owed setup past on seat) (length cards) (has_taken_card setup.code (places_of setup.code past) on cards) ≡ hole_deal_reason_on t live on seat cards
  on_is on seat cards =
      ap (λ (n : ℕ). deal_chain (not (is_seat_of n seat) || (cards_owed setup past on seat == 0)) (cards_owed setup past on seat) (length cards) (has_taken_card setup.code (places_of setup.code past) on cards)) now.seats
      ∙ ap (λ (b : Bool). deal_chain (not (is_seat_of t.seats seat) || (cards_owed setup past on seat == 0)) (cards_owed setup past on seat) (length cards) b) (taken_is on cards)
      ∙ chain_same (is_seat_of t.seats seat) (cards_owed setup past on seat) (owed_in t live on seat) (length cards) (has_taken_card t.table.code (placed t.places) on cards) (λ is. owed_is on seat (seat_in t.seats seat is))

  board_is : (on : ℕ) (cards : List Slot) → (if is_wrong_deal (board_cards_owed setup past on) (length cards) then Some reasons.WrongCount else if has_taken_card setup.code (places_of setup.code past) on cards then Some reasons.CardTaken else None) ≡ board_deal_reason_on t on cards
  board_is on cards =
      ap (λ (o : ℕ). if is_wrong_deal o (length cards) then Some reasons.WrongCount else if has_taken_card setup.code (places_of setup.code past) on cards then Some reasons.CardTaken else None) (board_owed_is on)
      ∙ ap (λ (b : Bool). if is_wrong_deal (board_owed_in t on) (length cards) then Some reasons.WrongCount else if b then Some reasons.CardTaken else None) (taken_is on cards)

-- when this is due
hole_by : (t : CardState) (due : Due) (live : LiveRow) (setup : Setup) (rules : Rules) (past : Past) (seat : ℕ) (cards : List Slot) → IsNow t due live setup past → first_reason (all_reasons setup rules past ((turn setup past).0, due) (said.Hole seat cards)) ≡ hole_deal_reason t live due seat cards
hole_by t dues.Over live setup rules past seat cards now = refl
hole_by t dues.BringIn live setup rules past seat cards now = refl
hole_by t dues.Move live setup rules past seat cards now = refl
hole_by t dues.Show live setup rules past seat cards now = refl
hole_by t (dues.Draw on) live setup rules past seat cards now =
    ap (λ (s : ℕ). deal_chain (not (is_seat_of setup.stacks.seats seat) || (cards_owed setup past s seat == 0)) (cards_owed setup past s seat) (length cards) (has_taken_card setup.code (places_of setup.code past) s cards)) (sym (draw_street setup past on now.due_is))
    ∙ on_is t (dues.Draw on) live setup past now on seat cards
hole_by t (dues.Deal on) live setup rules past seat cards now =
    by_kind (nat_lt 0 (hole_cards_on setup.code on)) (deal_chain (not (is_seat_of setup.stacks.seats seat) || (cards_owed setup past (turn setup past).0 seat == 0)) (cards_owed setup past (turn setup past).0 seat) (length cards) (has_taken_card setup.code (places_of setup.code past) (turn setup past).0 cards))
    ∙ ap (λ (r : Option Illegal). if nat_lt 0 (hole_cards_on setup.code on) then r else Some reasons.WrongKind) (
    ap (λ (s : ℕ). deal_chain (not (is_seat_of setup.stacks.seats seat) || (cards_owed setup past s seat == 0)) (cards_owed setup past s seat) (length cards) (has_taken_card setup.code (places_of setup.code past) s cards)) (sym (deal_street setup past on now.due_is))
    ∙ on_is t (dues.Deal on) live setup past now on seat cards
    )
    ∙ ap (λ (c : Code). if nat_lt 0 (hole_cards_on c on) then hole_deal_reason_on t live on seat cards else Some reasons.WrongKind) now.code_is

pub why_hole : (t : CardState) (due : Due) (live : LiveRow) (setup : Setup) (rules : Rules) (past : Past) (seat : ℕ) (cards : List Slot) → IsNow t due live setup past → why setup rules past (said.Hole seat cards) ≡ hole_deal_reason t live due seat cards
unfolding why
why_hole t due live setup rules past seat cards now =
    ap (λ (d : Due). first_reason (all_reasons setup rules past ((turn setup past).0, d) (said.Hole seat cards))) now.due_is
    ∙ hole_by t due live setup rules past seat cards now

board_by : (t : CardState) (due : Due) (live : LiveRow) (setup : Setup) (rules : Rules) (past : Past) (cards : List Card) → IsNow t due live setup past → first_reason (all_reasons setup rules past ((turn setup past).0, due) (said.Board cards)) ≡ board_deal_reason t due (known_slots cards)
board_by t dues.Over live setup rules past cards now = refl
board_by t dues.BringIn live setup rules past cards now = refl
board_by t dues.Move live setup rules past cards now = refl
board_by t dues.Show live setup rules past cards now = refl
board_by t (dues.Draw on) live setup rules past cards now = refl
board_by t (dues.Deal on) live setup rules past cards now =
    let chain = λ (s : ℕ) (n : ℕ). if is_wrong_deal (board_cards_owed setup past s) n then Some reasons.WrongCount else if has_taken_card setup.code (places_of setup.code past) s (known_slots cards) then Some reasons.CardTaken else None in
    by_kind (nat_lt 0 (board_cards_on setup.code on)) (chain (turn setup past).0 (length cards))
    ∙ ap (λ (r : Option Illegal). if nat_lt 0 (board_cards_on setup.code on) then r else Some reasons.WrongKind) (
    ap (λ (s : ℕ). chain s (length cards)) (sym (deal_street setup past on now.due_is))
    ∙ ap (chain on) (sym (length-map cards (λ (card : Card). slots.Known card)))
    ∙ board_is t (dues.Deal on) live setup past now on (known_slots cards)
    )
    ∙ ap (λ (c : Code). if nat_lt 0 (board_cards_on c on) then board_deal_reason_on t on (known_slots cards) else Some reasons.WrongKind) now.code_is

pub why_board : (t : CardState) (due : Due) (live : LiveRow) (setup : Setup) (rules : Rules) (past : Past) (cards : List Card) → IsNow t due live setup past → why setup rules past (said.Board cards) ≡ board_deal_reason t due (known_slots cards)
unfolding why
why_board t due live setup rules past cards now =
    ap (λ (d : Due). first_reason (all_reasons setup rules past ((turn setup past).0, d) (said.Board cards))) now.due_is
    ∙ board_by t due live setup rules past cards now

-- if cards may be dealt, the street that is due is that of the turn
pub hole_turn : (t : CardState) (due : Due) (live : LiveRow) (setup : Setup) (past : Past) (seat : ℕ) (cards : List Slot) → (turn setup past).1 ≡ due → hole_deal_reason t live due seat cards ≡ None → due_street due ≡ Some (turn setup past).0
hole_turn t (dues.Deal on) live setup past seat cards due_is none = ap Some (deal_street setup past on due_is)
hole_turn t (dues.Draw on) live setup past seat cards due_is none = ap Some (draw_street setup past on due_is)
hole_turn t dues.BringIn live setup past seat cards due_is none = from_some_none none
hole_turn t dues.Move live setup past seat cards due_is none = from_some_none none
hole_turn t dues.Show live setup past seat cards due_is none = from_some_none none
hole_turn t dues.Over live setup past seat cards due_is none = from_some_none none

pub board_turn : (t : CardState) (due : Due) (setup : Setup) (past : Past) (cards : List Slot) → (turn setup past).1 ≡ due → board_deal_reason t due cards ≡ None → due_street due ≡ Some (turn setup past).0
board_turn t (dues.Deal on) setup past cards due_is none = ap Some (deal_street setup past on due_is)
board_turn t (dues.Draw on) setup past cards due_is none = from_some_none none
board_turn t dues.BringIn setup past cards due_is none = from_some_none none
board_turn t dues.Move setup past cards due_is none = from_some_none none
board_turn t dues.Show setup past cards due_is none = from_some_none none
board_turn t dues.Over setup past cards due_is none = from_some_none none
