-- Why cards may not be dealt, discarded, shown or mucked, by the state.
use Rattle.std.specs.Prelude.{ℕ, ◌-◌, Bool, false, ◌&&◌, ◌||◌, ◌==◌, nat_lt, not, if◌then◌else◌, List, length, filter, find, count_by, Option, Some, None, is_some}
use Rattle.std.specs.Option.{option_map_or}
use Rattle.chip_ledger.specs.Seat.{seats_of}
use Rattle.card_set.specs.Known.{hides_card, known_among}
use Rattle.std.specs.List.{list_any}
use Rattle.play_event.specs.NameMatching.{after_discard, after_show, blanks_in, can_be_named, held_count, held_down_count, is_show_of_all}
use Rattle.card_set.specs.declared.card.Card.{Card}
use Rattle.card_set.specs.declared.card.Slot.{Slot}
use Rattle.chip_ledger.specs.declared.live_row.LiveRow.{LiveRow}
use Rattle.chip_ledger.specs.LiveRow.{flag_of}
use Rattle.play_event.specs.declared.code.Code.{Code}
use Rattle.play_event.specs.declared.reason.Due.{Due}
use Rattle.play_event.specs.declared.reason.Due.TheVariants as dues
use Rattle.play_event.specs.declared.reason.Illegal.{Illegal}
use Rattle.play_event.specs.declared.reason.Illegal.TheVariants as reasons
use Rattle.play_event.specs.Games.{hole_cards_on, board_cards_on}
use Rattle.play_event.specs.Streets.{has_draw}
use Rattle.play_event.specs.Places.{Place, is_in_group, is_held_by, up_slots}
use Rattle.play_event.specs.Taken.{has_taken_card, has_misplaced_card}
use Rattle.play_event.specs.CardReasons.{is_wrong_deal, has_no_place, is_show_of_others}
use Rattle.card_places.specs.declared.card_state.CardState.{CardState}
use Rattle.card_places.specs.Drawn.{has_drawn_at, named_at}
use Rattle.card_places.specs.Placed.{placed}
use Rattle.card_places.specs.Room.{is_seat_of}

-- the number of cards that a seat is owed
abbrev pub owed_of : (draws live : Bool) (hole named dealt : ℕ) → ℕ
owed_of draws live hole named dealt =
    if draws then named - dealt else (if live then hole - dealt else 0)

-- the number of cards of the street that a seat is owed
abbrev pub owed_in : CardState → LiveRow → ℕ → ℕ → ℕ
owed_in state live street seat =
    owed_of (has_draw state.table.code street) (flag_of live seat)
    (hole_cards_on state.table.code street)
    (named_at state.draws street seat)
    (count_by (is_in_group (Some seat) street) (placed state.places))

-- the number of cards of the street that the board is owed
abbrev pub board_owed_in : CardState → ℕ → ℕ
board_owed_in state street =
    board_cards_on state.table.code street
    - count_by (is_in_group None street) (placed state.places)

-- the first seat that is owed cards of the street, if there is one
abbrev pub first_owed_in : CardState → LiveRow → ℕ → Option ℕ
first_owed_in state live street =
    find (λ seat. nat_lt 0 (owed_in state live street seat)) (seats_of state.seats)

-- the number of cards of the street that an owner is owed
abbrev pub owed_to_in : CardState → LiveRow → ℕ → Option ℕ → ℕ
owed_to_in state live street (Some seat) = owed_in state live street seat
owed_to_in state live street None = board_owed_in state street

-- the reasons against a deal, in their order
abbrev pub deal_chain : (wrong_seat : Bool) (owed count : ℕ) (taken : Bool) → Option Illegal
deal_chain wrong_seat owed count taken =
    if wrong_seat then Some reasons.WrongSeat
    else if is_wrong_deal owed count then Some reasons.WrongCount
    else if taken then Some reasons.CardTaken
    else None

-- why hole cards of the street may not be dealt to a seat
abbrev pub hole_deal_reason_on : CardState → LiveRow → ℕ → ℕ → List Slot → Option Illegal
hole_deal_reason_on state live street seat cards =
    let owed = owed_in state live street seat in
    deal_chain (not (is_seat_of state.seats seat) || (owed == 0)) owed (length cards)
    (has_taken_card state.table.code (placed state.places) street cards)

-- why cards of the street may not be dealt to the board
abbrev pub board_deal_reason_on : CardState → ℕ → List Slot → Option Illegal
board_deal_reason_on state street cards =
    let owed = board_owed_in state street in
    if is_wrong_deal owed (length cards) then Some reasons.WrongCount
    else if has_taken_card state.table.code (placed state.places) street cards
    then Some reasons.CardTaken
    else None

-- why hole cards may not be dealt now
abbrev pub hole_deal_reason : CardState → LiveRow → Due → ℕ → List Slot → Option Illegal
hole_deal_reason state live dues.Over seat cards = Some reasons.HandOver
hole_deal_reason state live (dues.Deal street) seat cards =
    if nat_lt 0 (hole_cards_on state.table.code street)
    then hole_deal_reason_on state live street seat cards
    else Some reasons.WrongKind
hole_deal_reason state live (dues.Draw street) seat cards =
    hole_deal_reason_on state live street seat cards
hole_deal_reason state live dues.BringIn seat cards = Some reasons.WrongKind
hole_deal_reason state live dues.Move seat cards = Some reasons.WrongKind
hole_deal_reason state live dues.Show seat cards = Some reasons.WrongKind

-- why board cards may not be dealt now
abbrev pub board_deal_reason : CardState → Due → List Slot → Option Illegal
board_deal_reason state dues.Over cards = Some reasons.HandOver
board_deal_reason state (dues.Deal street) cards =
    if nat_lt 0 (board_cards_on state.table.code street)
    then board_deal_reason_on state street cards
    else Some reasons.WrongKind
board_deal_reason state (dues.Draw street) cards = Some reasons.WrongKind
board_deal_reason state dues.BringIn cards = Some reasons.WrongKind
board_deal_reason state dues.Move cards = Some reasons.WrongKind
board_deal_reason state dues.Show cards = Some reasons.WrongKind

-- a live seat has not drawn on the street
abbrev pub has_to_draw : CardState → LiveRow → ℕ → ℕ → Bool
has_to_draw state live street seat = flag_of live seat && not (has_drawn_at state.draws street seat)

-- the next seat to draw on the street, if there is one
abbrev pub next_to_draw_in : CardState → LiveRow → ℕ → Option ℕ
next_to_draw_in state live street = find (has_to_draw state live street) (seats_of state.seats)

-- a seat draws next on the street
abbrev pub is_next_in : CardState → LiveRow → ℕ → ℕ → Bool
is_next_in state live street seat =
    option_map_or (λ next. next == seat) (next_to_draw_in state live street) false

-- the reasons against a discard, in their order
abbrev pub discard_chain : (next : Bool) (held count : ℕ) (taken lacking : Bool) → Option Illegal
discard_chain next held count taken lacking =
    if not next then Some reasons.WrongSeat
    else if nat_lt held count then Some reasons.WrongCount
    else if taken then Some reasons.CardTaken
    else if lacking then Some reasons.NotHeld
    else None

-- why a seat may not discard these cards on the street
abbrev pub discard_reason_on : CardState → LiveRow → ℕ → ℕ → List Slot → Option Illegal
discard_reason_on state live street seat cards =
    discard_chain (is_next_in state live street seat) (held_count (placed state.places) seat)
    (length cards)
    (has_misplaced_card state.table.code (placed state.places)
    (after_discard street seat cards (placed state.places)))
    (has_no_place (filter (is_held_by seat) (placed state.places)) (known_among cards)
    (blanks_in cards))

-- why a seat may not discard these cards now
abbrev pub discard_reason : CardState → LiveRow → Due → ℕ → List Slot → Option Illegal
discard_reason state live dues.Over seat cards = Some reasons.HandOver
discard_reason state live (dues.Draw street) seat cards =
    discard_reason_on state live street seat cards
discard_reason state live (dues.Deal street) seat cards = Some reasons.WrongKind
discard_reason state live dues.BringIn seat cards = Some reasons.WrongKind
discard_reason state live dues.Move seat cards = Some reasons.WrongKind
discard_reason state live dues.Show seat cards = Some reasons.WrongKind

-- a seat may show or muck: it is live, and has done neither
abbrev pub may_show_in : CardState → LiveRow → ℕ → Bool
may_show_in state live seat =
    is_seat_of state.seats seat
    && (flag_of live seat && not (flag_of state.shown seat || flag_of state.mucked seat))

-- a show may have `count` cards: all that the seat holds, or only its down-cards if its up-cards
-- are known
abbrev pub is_legal_show_count : Code → List Place → ℕ → ℕ → Bool
is_legal_show_count code placed seat count =
    (count == held_count placed seat)
    || ((count == held_down_count code placed seat)
    && not (list_any hides_card (up_slots code placed seat)))

-- the reasons against a show, in their order
abbrev pub show_chain : (may many taken others : Bool) → Option Illegal
show_chain may many taken others =
    if not may then Some reasons.WrongSeat
    else if not many then Some reasons.WrongCount
    else if taken then Some reasons.CardTaken
    else if others then Some reasons.NotHeld
    else None

-- why a seat may not show these cards, when a show is due
abbrev pub show_reason_on : CardState → LiveRow → ℕ → List Card → Option Illegal
show_reason_on state live seat cards =
    show_chain (may_show_in state live seat)
    (is_legal_show_count state.table.code (placed state.places) seat (length cards))
    (has_misplaced_card state.table.code (placed state.places)
    (after_show state.table.code seat cards (placed state.places)))
    (is_show_of_others
    (filter (can_be_named state.table.code seat (is_show_of_all (placed state.places) seat cards))
    (placed state.places))
    cards)

-- why a seat may not show these cards now; `settled` says whether no more betting is possible
abbrev pub show_reason : CardState → LiveRow → Due → Bool → ℕ → List Card → Option Illegal
show_reason state live dues.Over settled seat cards =
    if may_show_in state live seat then show_reason_on state live seat cards
    else Some reasons.HandOver
show_reason state live dues.Show settled seat cards = show_reason_on state live seat cards
show_reason state live (dues.Deal street) settled seat cards =
    if settled then show_reason_on state live seat cards else Some reasons.WrongKind
show_reason state live (dues.Draw street) settled seat cards =
    if settled then show_reason_on state live seat cards else Some reasons.WrongKind
show_reason state live dues.BringIn settled seat cards =
    if settled then show_reason_on state live seat cards else Some reasons.WrongKind
show_reason state live dues.Move settled seat cards =
    if settled then show_reason_on state live seat cards else Some reasons.WrongKind

-- why a seat may not muck now
abbrev pub muck_reason : CardState → LiveRow → Due → ℕ → Option Illegal
muck_reason state live dues.Over seat =
    if may_show_in state live seat then None else Some reasons.HandOver
muck_reason state live dues.Show seat = if may_show_in state live seat then None
    else Some reasons.WrongSeat
muck_reason state live (dues.Deal street) seat = Some reasons.WrongKind
muck_reason state live (dues.Draw street) seat = Some reasons.WrongKind
muck_reason state live dues.BringIn seat = Some reasons.WrongKind
muck_reason state live dues.Move seat = Some reasons.WrongKind

-- a live seat is owed hole cards of the street
abbrev pub is_owed_deal_in : CardState → LiveRow → ℕ → ℕ → Bool
is_owed_deal_in state live street seat =
    nat_lt 0
    (if flag_of live seat
    then hole_cards_on state.table.code street
    - count_by (is_in_group (Some seat) street) (placed state.places)
    else 0)

-- a seat is owed cards for those that it discarded in the draw of the street
abbrev pub is_owed_draw_in : CardState → ℕ → ℕ → Bool
is_owed_draw_in state street seat =
    nat_lt 0
    (named_at state.draws street seat
    - count_by (is_in_group (Some seat) street) (placed state.places))

-- a live seat has not shown or mucked
abbrev pub has_to_show_in : CardState → LiveRow → ℕ → Bool
has_to_show_in state live seat =
    flag_of live seat && not (flag_of state.shown seat || flag_of state.mucked seat)

-- the board is owed cards of the street
abbrev pub is_board_owed_in : CardState → ℕ → Bool
is_board_owed_in state street = nat_lt 0 (board_owed_in state street)

-- what is due is complete
abbrev pub is_done_in : CardState → LiveRow → Due → Bool
is_done_in state live (dues.Deal street) =
    not (list_any (is_owed_deal_in state live street) (seats_of state.seats)
    || nat_lt 0 (board_owed_in state street))
is_done_in state live (dues.Draw street) =
    not
    (has_draw state.table.code street
    && (is_some (next_to_draw_in state live street)
    || list_any (is_owed_draw_in state street) (seats_of state.seats)))
is_done_in state live dues.Show = not (list_any (has_to_show_in state live) (seats_of state.seats))
is_done_in state live dues.BringIn = false
is_done_in state live dues.Move = false
is_done_in state live dues.Over = false
