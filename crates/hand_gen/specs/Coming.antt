-- Which event comes next in a hand that is being made, after a past, and what it leaves of the
-- stock.
use Rattle.std.specs.Prelude.{ℕ, Bool, ◌==◌, nat_lt, nat_le, if◌then◌else◌, List, take, Option, Some, None}
use Rattle.std.specs.Option.{option_map}
use Rattle.card_set.specs.declared.card.Slot.{Slot}
use Rattle.card_set.specs.Known.{known_slots}
use Rattle.play_event.specs.declared.event.Spelled.TheVariants as spelled
use Rattle.play_event.specs.declared.reason.Due.{Due}
use Rattle.play_event.specs.declared.reason.Due.TheVariants as dues
use Rattle.play_event.specs.declared.setup.Rules.{Rules}
use Rattle.play_event.specs.declared.setup.Setup.{Setup}
use Rattle.play_event.specs.Dealing.{board_cards_owed, cards_owed, next_to_draw}
use Rattle.play_event.specs.Due.{turn}
use Rattle.play_event.specs.Held.{held_slots}
use Rattle.play_event.specs.Openers.{InTurn, NoSeat, TheSeat, Undecided}
use Rattle.play_event.specs.Past.{Move, Past, moves_of}
use Rattle.play_event.specs.CurrentBet.{to_call}
use Rattle.play_event.specs.Raising.{may_raise}
use Rattle.play_event.specs.Said.{Board, BringIn, Call, Discard, Fold, Hole, Raise, Said}
use Rattle.play_event.specs.Table.{places_of}
use Rattle.play_event.specs.Targets.{greatest_target, least_target}
use Rattle.deal_core.specs.NextDeal.{first_owed}
use Rattle.betting_numbers.specs.TurnSaid.{in_turn_on}
use Rattle.hand_gen.specs.HandSource.{HandSource, after_cards, after_draw, draw_of, next_cards}

-- the event that comes next, if there is one, and the stock after it
pub record Coming : Type 0 where
  pub event : Option Said
  pub left : HandSource

-- no event comes
abbrev pub nothing_comes : HandSource → Coming
nothing_comes stock = record { event = None; left = stock }

-- a seat is dealt this number of cards
abbrev pub hole_of : ℕ → HandSource → ℕ → Coming
hole_of count stock seat =
    record {
      event = Some (Hole seat (known_slots (next_cards count stock)));
      left = after_cards count stock;
    }

-- the board is dealt this number of cards
abbrev pub board_of : ℕ → HandSource → Coming
board_of count stock =
    record { event = Some (Board (next_cards count stock)); left = after_cards count stock }

-- a seat discards its first cards: a number is drawn to choose none, one or two of them
abbrev pub discard_of : List Slot → HandSource → ℕ → Coming
discard_of held stock seat =
    record { event = Some (Discard seat (take (draw_of 3 stock) held)); left = after_draw stock }

-- a seat is dealt all the cards that it is due, if there is such a seat; otherwise the board is
abbrev pub deal_of : Option ℕ → (ℕ → ℕ) → ℕ → HandSource → Coming
deal_of (Some seat) to_call board stock = hole_of (to_call seat) stock seat
deal_of None to_call board stock = board_of board stock

-- seats are dealt their cards from p1 upward, and then the board
abbrev pub deal_comes : Setup → Past → ℕ → HandSource → Coming
deal_comes setup past street stock =
    deal_of (first_owed setup past street) (cards_owed setup past street)
    (board_cards_owed setup past street) stock

-- a seat discards, if one is next to draw; otherwise the cards that are due are dealt
abbrev pub discard_or : Option ℕ → (ℕ → List Slot) → Coming → HandSource → Coming
discard_or (Some seat) held deal stock = discard_of (held seat) stock seat
discard_or None held deal stock = deal

-- the cards that a seat has, in the order of dealing
abbrev pub held_by : Setup → Past → ℕ → List Slot
held_by setup past seat = held_slots (Some seat) (places_of setup.code past)

-- all seats that draw discard first, and then they are dealt the cards that they are due
abbrev pub draw_comes : Setup → Past → ℕ → HandSource → Coming
draw_comes setup past street stock =
    discard_or (next_to_draw setup past street) (held_by setup past)
    (deal_comes setup past street stock) stock

-- the lowest and the highest legal target of a seat, if it may raise
abbrev pub ends_of : Setup → Rules → List Move → ℕ → ℕ → Option (ℕ × ℕ)
ends_of setup rules moves street seat =
    if may_raise setup rules moves street seat
    then Some
    (least_target rules.reopen setup moves street seat, greatest_target setup moves street seat)
    else None

-- a call that states no chips
abbrev pub call_of : ℕ → Said
call_of seat = Call (Some seat) None

-- a raise to a target, or a call if there is none
abbrev pub raise_of : ℕ → Option ℕ → Said
raise_of seat (Some target) = Raise (Some seat) (spelled.To target)
raise_of seat None = call_of seat

-- What a seat does, by a number below 8: for 0 it folds if it has chips to call; for 1 and 2 it
-- raises to the lowest target, and for 3 to the highest, if it may raise; otherwise it calls.
abbrev pub move_of : (owes : Bool) (ends : Option (ℕ × ℕ)) (seat number : ℕ) → Said
move_of owes ends seat number =
    if number == 0 then (if owes then Fold (Some seat) else call_of seat)
    else if nat_le number 2 then raise_of seat (option_map (λ (t : ℕ × ℕ). t.0) ends)
    else if number == 3 then raise_of seat (option_map (λ (t : ℕ × ℕ). t.1) ends)
    else call_of seat

-- what a seat does after moves on a street
abbrev pub move_by : Setup → Rules → List Move → ℕ → ℕ → ℕ → Said
move_by setup rules moves street seat number =
    move_of (nat_lt 0 (to_call setup moves street seat)) (ends_of setup rules moves street seat)
    seat
    number

-- the player to act moves by a number drawn below 8; if no player is to act, nothing comes
abbrev pub move_comes : Setup → Rules → List Move → ℕ → HandSource → InTurn → Coming
move_comes setup rules moves street stock (TheSeat seat) =
    record {
      event = Some (move_by setup rules moves street seat (draw_of 8 stock));
      left = after_draw stock;
    }
move_comes setup rules moves street stock NoSeat = nothing_comes stock
move_comes setup rules moves street stock Undecided = nothing_comes stock

-- the player to act posts the bring-in
abbrev pub bring_in_comes : HandSource → InTurn → Coming
bring_in_comes stock (TheSeat seat) = record { event = Some (BringIn (Some seat)); left = stock }
bring_in_comes stock NoSeat = nothing_comes stock
bring_in_comes stock Undecided = nothing_comes stock

-- the event that comes when this is due on this street; nobody shows or mucks
abbrev pub comes_at : Setup → Rules → Past → HandSource → ℕ → Due → Coming
comes_at setup rules past stock street (dues.Deal on) = deal_comes setup past on stock
comes_at setup rules past stock street (dues.Draw on) = draw_comes setup past on stock
comes_at setup rules past stock street dues.BringIn =
    bring_in_comes stock (in_turn_on setup past street)
comes_at setup rules past stock street dues.Move =
    move_comes setup rules (moves_of past) street stock (in_turn_on setup past street)
comes_at setup rules past stock street dues.Show = nothing_comes stock
comes_at setup rules past stock street dues.Over = nothing_comes stock

-- the event that comes next after a past
unfoldable pub coming : Setup → Rules → Past → HandSource → Coming
coming setup rules past stock =
    comes_at setup rules past stock (turn setup past).0 (turn setup past).1
