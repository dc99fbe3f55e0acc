-- Events in full: each move names its actor, and each raise states its target, the chips of the
-- street after it.
use Rattle.std.specs.Prelude.{ℕ, List, [], ◌∷◌, Option, Some, unwrap_or}
use Rattle.play_event.specs.Amounts.{raise_target}
use Rattle.play_event.specs.Due.{turn}
use Rattle.play_event.specs.MoveReasons.{actor_of}
use Rattle.play_event.specs.PlayerToAct.{player_to_act}
use Rattle.play_event.specs.Openers.{InTurn, NoSeat, TheSeat, Undecided}
use Rattle.play_event.specs.Past.{Past, moves_of}
use Rattle.play_event.specs.Said.{BringIn, Call, Fold, Raise, Said}
use Rattle.play_event.specs.Scripts.{past_of}
use Rattle.play_event.specs.Table.{up_cards}
use Rattle.play_event.specs.declared.event.Spelled.{Spelled}
use Rattle.play_event.specs.declared.event.Spelled.TheVariants as spelled
use Rattle.play_event.specs.declared.setup.Setup.{Setup}

-- an event with this seat as its actor, if it is a move that names none
abbrev pub with_actor : ℕ → Said → Said
with_actor seat (Fold named) = Fold (Some (unwrap_or named seat))
with_actor seat (Call named stated) = Call (Some (unwrap_or named seat)) stated
with_actor seat (Raise named amount) = Raise (Some (unwrap_or named seat)) amount
with_actor seat (BringIn named) = BringIn (Some (unwrap_or named seat))
with_actor seat event = event

-- whose turn it is after a past
abbrev pub in_turn_after : Setup → Past → InTurn
in_turn_after setup past =
    player_to_act setup (up_cards setup.code past) (moves_of past) (turn setup past).0

-- the target of a raise after a past, for the seat that it names or else the player to act
abbrev pub target_after : Setup → Past → Option ℕ → Spelled → ℕ
target_after setup past named amount =
    raise_target setup (moves_of past) (turn setup past).0
    (actor_of named (in_turn_after setup past)) amount

-- an event with the player to act as its actor, if it is a move that names none
abbrev pub with_turn : InTurn → Said → Said
with_turn (TheSeat seat) event = with_actor seat event
with_turn NoSeat event = event
with_turn Undecided event = event

-- an event that states its target in chips of the street, if it is a raise
abbrev pub with_target : Setup → Past → Said → Said
with_target setup past (Raise named amount) =
    Raise named (spelled.To (target_after setup past named amount))
with_target setup past event = event

-- an event in full, after a past
abbrev pub in_full : Setup → Past → Said → Said
in_full setup past event = with_target setup past (with_turn (in_turn_after setup past) event)

-- events in full, newest first
abbrev pub all_in_full : Setup → List Said → List Said
all_in_full setup [] = []
all_in_full setup (event ∷ before) =
    in_full setup (past_of setup before) event ∷ all_in_full setup before
