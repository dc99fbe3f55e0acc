-- The steps so far, action by action, with the cards of the board when they were dealt.
use Rattle.std.specs.Prelude.{◌≡◌, ℕ, ◌+◌, ◌<◌, ◌≤◌, ◌==◌, nat_lt, Bool, true, false, not, if◌then◌else◌, List, [], length, flat_map, count_by, find, option_map, Option, Some, None}
use Rattle.std.specs.List.{list_any}
use Rattle.card_set.specs.declared.card.Slot.{Slot}
use Rattle.card_set.specs.Row.{slots_of}
use Rattle.play_event.specs.declared.hand_limits.TheConstants.{MOST_MOVES, MOST_OTHER_EVENTS}
use Rattle.play_event.specs.PlayedScript.{is_move_event}
use Rattle.first_fault.specs.declared.limits.TheConstants.{MOST_FILE_MOVES}
use Rattle.play_event.specs.Said as said
use Rattle.play_event.specs.Said.{Said, kind_said}
use Rattle.ohh_rounds.specs.Posts.{PlainPost, plain_post}
use Rattle.ohh_rounds.specs.declared.step.ActionEffect.{ActionEffect}
use Rattle.ohh_rounds.specs.declared.step.ActionEffect.TheVariants as effects
use Rattle.ohh_rounds.specs.declared.step.RoundStep.{RoundStep}
use Rattle.first_fault.specs.Numbers.{saturated}

-- what was done: a post, hole cards dealt to a seat, an event of the script, or nothing that counts
pub data PlainActionEffect : Type 0 where
  Posted : PlainPost → PlainActionEffect
  Dealt : ℕ → List Slot → PlainActionEffect
  Happened : Said → PlainActionEffect
  Passed : PlainActionEffect

-- what was done, and the number of its action through all rounds, or 0 if it comes from no action
pub record PlainStep : Type 0 where
  pub number : ℕ
  pub effect : PlainActionEffect

-- what was done, as the definitions see it
abbrev pub plain_effect : ActionEffect → PlainActionEffect
plain_effect (effects.Posted post) = Posted (plain_post post)
plain_effect (effects.Dealt seat cards) = Dealt seat.number (slots_of cards)
plain_effect (effects.Happened kind) = Happened (kind_said kind)
plain_effect effects.Passed = Passed

-- a step, as the definitions see it
abbrev pub plain_step : RoundStep → PlainStep
plain_step step = record { number = step.number; effect = plain_effect step.effect }

-- the step comes from an action
abbrev pub is_action : PlainStep → Bool
is_action step = nat_lt 0 step.number

-- the number of the action after these steps
abbrev pub next_number : List PlainStep → ℕ
next_number steps = saturated (count_by is_action steps + 1)

-- a move was made
abbrev pub is_move_effect : PlainActionEffect → Bool
is_move_effect (Happened event) = is_move_event event
is_move_effect (Posted post) = false
is_move_effect (Dealt seat slots) = false
is_move_effect Passed = false

-- another event of the script happened
abbrev pub is_other_effect : PlainActionEffect → Bool
is_other_effect (Happened event) = not (is_move_event event)
is_other_effect (Posted post) = false
is_other_effect (Dealt seat slots) = false
is_other_effect Passed = false

-- how many moves were made
abbrev pub moves_in : List PlainStep → ℕ
moves_in steps = count_by (λ step. is_move_effect step.effect) steps

-- how many other events happened
abbrev pub others_in : List PlainStep → ℕ
others_in steps = count_by (λ step. is_other_effect step.effect) steps

-- the seat that folds, if the event is a fold
abbrev pub folder : Said → Option ℕ
folder (said.Fold actor) = actor
folder (said.Hole seat slots) = None
folder (said.Board cards) = None
folder (said.Call actor stated) = None
folder (said.Raise actor amount) = None
folder (said.BringIn actor) = None
folder (said.Discard seat slots) = None
folder (said.Show seat cards) = None
folder (said.Muck seat) = None

-- the seat is this one
abbrev pub is_seat : ℕ → Option ℕ → Bool
is_seat seat None = false
is_seat seat (Some other) = other == seat

-- the seat folded
abbrev pub is_fold_of : ℕ → PlainActionEffect → Bool
is_fold_of seat (Happened event) = is_seat seat (folder event)
is_fold_of seat (Posted post) = false
is_fold_of seat (Dealt other slots) = false
is_fold_of seat Passed = false

-- the step is a fold of this seat
abbrev pub IsFoldBy : ℕ → PlainActionEffect → Type 0
IsFoldBy seat (Happened event) = folder event ≡ Some seat
IsFoldBy seat (Posted post) = ⊥
IsFoldBy seat (Dealt other slots) = ⊥
IsFoldBy seat Passed = ⊥

-- the seat folded in one of the steps
abbrev pub is_folded : ℕ → List PlainStep → Bool
is_folded seat steps = list_any (λ step. is_fold_of seat step.effect) steps

-- the hole cards that a step deals to the seat
abbrev pub dealt_in : ℕ → PlainActionEffect → List Slot
dealt_in seat (Dealt other slots) = if other == seat then slots else []
dealt_in seat (Posted post) = []
dealt_in seat (Happened event) = []
dealt_in seat Passed = []

-- the hole cards that were dealt to the seat, in order
abbrev pub dealt_to : ℕ → List PlainStep → List Slot
dealt_to seat steps = flat_map (λ step. dealt_in seat step.effect) steps

-- the step deals hole cards to the seat, or says that it was dealt some
abbrev pub is_deal_to : ℕ → PlainActionEffect → Bool
is_deal_to seat (Dealt other slots) = other == seat
is_deal_to seat (Posted post) = false
is_deal_to seat (Happened event) = false
is_deal_to seat Passed = false

-- the number of the first action that deals hole cards to the seat, if one does
abbrev pub first_deal : ℕ → List PlainStep → Option ℕ
first_deal seat steps =
    option_map (λ step. step.number) (find (λ step. is_deal_to seat step.effect) steps)

-- one more event, a move or another, exceeds no limit in a hand with this number of seats, after
-- this number of moves of the file
abbrev pub HasRoom : ℕ → ℕ → Bool → List PlainStep → Type 0
HasRoom seats file_moves true earlier =
    (moves_in earlier < MOST_MOVES) × (file_moves + moves_in earlier < MOST_FILE_MOVES)
HasRoom seats file_moves false earlier = seats + others_in earlier < MOST_OTHER_EVENTS

-- the event of a step exceeds no limit
abbrev pub IsWithin : ℕ → ℕ → List PlainStep → PlainActionEffect → Type 0
IsWithin seats file_moves earlier (Happened event) =
    HasRoom seats file_moves (is_move_event event) earlier
IsWithin seats file_moves earlier (Posted post) = Unit {0}
IsWithin seats file_moves earlier (Dealt seat slots) = Unit {0}
IsWithin seats file_moves earlier Passed = Unit {0}

-- a deal leaves its seat with at most seven hole cards
abbrev pub LeavesFew : List PlainStep → PlainActionEffect → Type 0
LeavesFew earlier (Dealt seat slots) = length (dealt_to seat earlier) + length slots ≤ 7
LeavesFew earlier (Posted post) = Unit {0}
LeavesFew earlier (Happened event) = Unit {0}
LeavesFew earlier Passed = Unit {0}
