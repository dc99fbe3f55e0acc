-- Why an event is illegal: the first of the twelve reasons that holds.
use Rattle.std.specs.Prelude.{ℕ, Bool, true, false, ◌&&◌, ◌||◌, nat_lt, not, if◌then◌else◌, List, [], ◌∷◌, Option, Some, None}
use Rattle.play_event.specs.declared.code.Code.{Code}
use Rattle.play_event.specs.declared.reason.Due.{Due}
use Rattle.play_event.specs.declared.reason.Due.TheVariants as dues
use Rattle.play_event.specs.declared.reason.Illegal.{Illegal}
use Rattle.play_event.specs.declared.reason.Illegal.TheVariants as reasons
use Rattle.play_event.specs.declared.setup.Setup.{Setup}
use Rattle.play_event.specs.declared.setup.Rules.{Rules}
use Rattle.play_event.specs.Games.{hole_cards_on, board_cards_on}
use Rattle.play_event.specs.Said as said
use Rattle.play_event.specs.Said.{Said}
use Rattle.play_event.specs.Past.{Past, moves_of}
use Rattle.play_event.specs.Due.{turn, is_settled}
use Rattle.play_event.specs.Openers.{InTurn}
use Rattle.play_event.specs.PlayerToAct.{player_to_act}
use Rattle.play_event.specs.Places.{Place}
use Rattle.play_event.specs.Table.{places_of, up_cards}
use Rattle.play_event.specs.CardReasons.{is_owed_nothing, is_next_to_draw, may_show, is_wrong_count, is_card_taken, is_not_held}
use Rattle.play_event.specs.MoveReasons.{is_other_seat, is_undecided_move, has_nothing_to_call, is_raise_closed, is_raise_too_small, is_raise_too_big, amount_reason}

-- the first reason whose condition holds, if one does
abbrev pub first_reason : List (Bool × Illegal) → Option Illegal
first_reason [] = None
first_reason (reason ∷ rest) = if reason.0 then Some reason.1 else first_reason rest

-- the hand is over: no event is due
abbrev pub is_over : Due → Bool
is_over dues.Over = true
is_over (dues.Deal street) = false
is_over (dues.Draw street) = false
is_over dues.BringIn = false
is_over dues.Move = false
is_over dues.Show = false

-- an event is the first show or muck of a live seat: it may come even if only one seat is live
abbrev pub is_first_show : Setup → Past → Said → Bool
is_first_show setup past (said.Show seat cards) = may_show setup past seat
is_first_show setup past (said.Muck seat) = may_show setup past seat
is_first_show setup past _ = false

-- the hand is over, unless the event is the show or muck of its one live seat
abbrev pub is_hand_over : Setup → Past → Due → Said → Bool
is_hand_over setup past due event = is_over due && not (is_first_show setup past event)

-- which kinds of event may come when this is due
abbrev pub is_due_kind : Code → Due → Said → Bool
is_due_kind code (dues.Deal street) (said.Hole seat cards) = nat_lt 0 (hole_cards_on code street)
is_due_kind code (dues.Deal street) (said.Board cards) = nat_lt 0 (board_cards_on code street)
is_due_kind code (dues.Draw street) (said.Discard seat cards) = true
is_due_kind code (dues.Draw street) (said.Hole seat cards) = true
is_due_kind code dues.BringIn (said.BringIn named) = true
is_due_kind code dues.BringIn (said.Raise named amount) = true
is_due_kind code dues.Move (said.Fold named) = true
is_due_kind code dues.Move (said.Call named stated) = true
is_due_kind code dues.Move (said.Raise named amount) = true
is_due_kind code dues.Show (said.Show seat cards) = true
is_due_kind code dues.Show (said.Muck seat) = true
is_due_kind code dues.Over (said.Show seat cards) = true
is_due_kind code dues.Over (said.Muck seat) = true
is_due_kind code _ _ = false

-- an event is a show
abbrev pub is_show : Said → Bool
is_show (said.Show seat cards) = true
is_show _ = false

-- an event of this kind may come: it is due, or it is a show and the hand is settled
abbrev pub may_come : Setup → Past → ℕ × Due → Said → Bool
may_come setup past now event =
    is_due_kind setup.code now.1 event || (is_show event && is_settled setup (moves_of past) now)

-- the seat may not do this now: it is not the player to act, is due no card, is not the next to
-- draw, or has nothing to show
abbrev pub is_wrong_seat : Setup → Past → ℕ → InTurn → Said → Bool
is_wrong_seat setup past street in_turn (said.Hole seat cards) =
    is_owed_nothing setup past street seat
is_wrong_seat setup past street in_turn (said.Board cards) = false
is_wrong_seat setup past street in_turn (said.Fold named) =
    is_other_seat setup (moves_of past) named in_turn
is_wrong_seat setup past street in_turn (said.Call named stated) =
    is_other_seat setup (moves_of past) named in_turn
is_wrong_seat setup past street in_turn (said.Raise named amount) =
    is_other_seat setup (moves_of past) named in_turn
is_wrong_seat setup past street in_turn (said.BringIn named) =
    is_other_seat setup (moves_of past) named in_turn
is_wrong_seat setup past street in_turn (said.Discard seat cards) =
    not (is_next_to_draw setup past street seat)
is_wrong_seat setup past street in_turn (said.Show seat cards) = not (may_show setup past seat)
is_wrong_seat setup past street in_turn (said.Muck seat) = not (may_show setup past seat)

-- the remaining reasons for an event of a kind that may come, on this street, with these dealt
-- cards and this player to act
abbrev pub reasons_by : Setup → Rules → Past → ℕ → InTurn → List Place → Said
    → List (Bool × Illegal)
reasons_by setup rules past street in_turn placed event =
    let moves = moves_of past in
    (is_wrong_seat setup past street in_turn event, reasons.WrongSeat)
    ∷ (is_wrong_count setup past placed street event, reasons.WrongCount)
    ∷ (is_card_taken setup.code placed street event, reasons.CardTaken)
    ∷ (is_not_held setup.code placed event, reasons.NotHeld)
    ∷ (is_undecided_move in_turn event, reasons.UpCardUnknown)
    ∷ (has_nothing_to_call setup rules moves street in_turn event, reasons.NothingToCall)
    ∷ (is_raise_closed setup rules moves street in_turn event, reasons.RaiseClosed)
    ∷ (is_raise_too_small setup rules moves street in_turn event, reasons.RaiseTooSmall)
    ∷ (is_raise_too_big setup moves street in_turn event, reasons.RaiseTooBig)
    ∷ amount_reason setup moves street in_turn event
    ∷ []

-- the remaining reasons for an event of a kind that may come, on this street
abbrev pub later_reasons : Setup → Rules → Past → ℕ → Said → List (Bool × Illegal)
later_reasons setup rules past street event =
    reasons_by setup rules past street
    (player_to_act setup (up_cards setup.code past) (moves_of past) street)
    (places_of setup.code past)
    event

-- The twelve reasons in their order: the hand is over, an event of this kind may not come, and then
-- the others.
abbrev pub all_reasons : Setup → Rules → Past → ℕ × Due → Said → List (Bool × Illegal)
all_reasons setup rules past now event =
    (is_hand_over setup past now.1 event, reasons.HandOver)
    ∷ (not (may_come setup past now event), reasons.WrongKind)
    ∷ later_reasons setup rules past now.0 event

-- why an event is illegal after this past, or `None` if it is legal
unfoldable pub why : Setup → Rules → Past → Said → Option Illegal
why setup rules past event = first_reason (all_reasons setup rules past (turn setup past) event)
