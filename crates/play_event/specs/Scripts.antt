-- A script as it took place: the past after each of its events, its first illegal event, and
-- whether it ends early.
use Rattle.std.specs.Prelude.{◌≡◌, ℕ, ◌+◌, ◌<◌, Bool, List, [], ◌∷◌, length, take, reverse, slice_get, Option, Some, None, option_and_then}
use Rattle.play_event.specs.declared.reason.Illegal.{Illegal}
use Rattle.play_event.specs.declared.setup.Setup.{Setup}
use Rattle.play_event.specs.declared.setup.Rules.{Rules}
use Rattle.play_event.specs.Said as said
use Rattle.play_event.specs.Said.{Said}
use Rattle.play_event.specs.Past as past
use Rattle.play_event.specs.Past.{Past, Resolved, Move, Act, moves_of}
use Rattle.play_event.specs.Chips.{street_chips}
use Rattle.play_event.specs.Due.{turn, is_unfinished}
use Rattle.play_event.specs.PlayerToAct.{player_to_act}
use Rattle.play_event.specs.Amounts.{call_target, raise_target, bring_in_target}
use Rattle.play_event.specs.Openers.{InTurn}
use Rattle.play_event.specs.Table.{up_cards}
use Rattle.play_event.specs.MoveReasons.{actor_of}
use Rattle.play_event.specs.Reasons.{why}

-- a move by a seat to a target
abbrev pub move_to : Setup → List Move → ℕ → ℕ → Act → ℕ → Resolved
move_to setup moves street seat act target =
    past.Moved
    (record {
      street = street;
      seat = seat;
      act = act;
      from = street_chips setup moves street seat;
      to = target;
    })

-- an event as it takes place on a street after these moves, with this player to act
abbrev pub resolved_by : Setup → List Move → ℕ → InTurn → Said → Resolved
resolved_by setup moves street in_turn (said.Hole seat cards) = past.Dealt street seat cards
resolved_by setup moves street in_turn (said.Board cards) = past.Boarded street cards
resolved_by setup moves street in_turn (said.Fold named) =
    let seat = actor_of named in_turn in
    move_to setup moves street seat past.Folded (street_chips setup moves street seat)
resolved_by setup moves street in_turn (said.Call named stated) =
    let seat = actor_of named in_turn in
    move_to setup moves street seat past.Called (call_target setup moves street seat)
resolved_by setup moves street in_turn (said.Raise named amount) =
    let seat = actor_of named in_turn in
    move_to setup moves street seat past.Raised (raise_target setup moves street seat amount)
resolved_by setup moves street in_turn (said.BringIn named) =
    let seat = actor_of named in_turn in
    move_to setup moves street seat past.BroughtIn (bring_in_target setup moves street seat)
resolved_by setup moves street in_turn (said.Discard seat cards) = past.Discarded street seat cards
resolved_by setup moves street in_turn (said.Show seat cards) = past.Shown street seat cards
resolved_by setup moves street in_turn (said.Muck seat) = past.Mucked street seat

-- an event as it takes place on a street after a past
abbrev pub resolved_on : Setup → Past → ℕ → Said → Resolved
resolved_on setup before street event =
    resolved_by setup (moves_of before) street
    (player_to_act setup (up_cards setup.code before) (moves_of before) street) event

-- the past after one more event
unfoldable pub with_event : Setup → Said → Past → Past
with_event setup event before = resolved_on setup before (turn setup before).0 event ∷ before

-- the past of events, the newest first
abbrev pub past_of : Setup → List Said → Past
past_of setup [] = []
past_of setup (event ∷ before) = with_event setup event (past_of setup before)

-- the past after the first events of a script, this number of them
abbrev pub past_after : Setup → List Said → ℕ → Past
past_after setup script count = past_of setup (reverse (take count script))

-- why the event at an index, from 0, is illegal after those before it, if it is
abbrev pub why_at : Setup → Rules → List Said → ℕ → Option Illegal
why_at setup rules script index =
    option_and_then (why setup rules (past_after setup script index)) (slice_get script index)

-- no event of a script is illegal: each is legal after those before it
abbrev pub HasNoIllegalEvent : Setup → Rules → List Said → Type 0
HasNoIllegalEvent setup rules script =
    (index : ℕ) → index < length script → why_at setup rules script index ≡ None

-- the events before this one are legal, and this one is illegal for this reason
pub record IsFirstIllegal (setup : Setup) (rules : Rules) (script : List Said) (index : ℕ)
    (reason : Illegal) : Type 0 where
  pub legal_before : (earlier : ℕ) → earlier < index → why_at setup rules script earlier ≡ None
  pub illegal : why_at setup rules script index ≡ Some reason

-- after the script a deal, a draw, a bring-in or a move is due
abbrev pub has_early_end : Setup → List Said → Bool
has_early_end setup script = is_unfinished (turn setup (past_after setup script (length script))).1

-- the past of a whole script
abbrev pub past_at_end : Setup → List Said → Past
past_at_end setup script = past_of setup (reverse script)

-- the number of the first illegal event of a script, counted from the given number on, and the
-- reason
abbrev pub illegal_event_from : Setup → Rules → Past → ℕ → List Said → Option (ℕ × Illegal)
illegal_event_from setup rules past number [] = None
illegal_event_from setup rules past number (event ∷ rest) =
    elim (why setup rules past event) [
      | Some reason ↦ Some (number, reason)
      | None ↦ illegal_event_from setup rules (with_event setup event past) (number + 1) rest
    ]

-- the number of the first illegal event of a script, counted from 1, and the reason
abbrev pub illegal_event : Setup → Rules → List Said → Option (ℕ × Illegal)
illegal_event setup rules script = illegal_event_from setup rules [] 1 script
