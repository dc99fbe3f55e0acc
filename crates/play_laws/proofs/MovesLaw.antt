-- What holds of the moves of a legal past: each is legal after the moves before it, by the seat
-- whose turn it was by the up-cards of its street, which were known then.
use Rattle.std.specs.Prelude.{◌≡◌, ℕ, ◌≤◌, Bool, true, false, ◌&&◌, nat_le, List, [], ◌∷◌, map, filter, Some}
use Rattle.std.specs.List.{list_any}
use Rattle.play_event.specs.declared.code.Code.{Code}
use Rattle.play_event.specs.declared.reason.Due.{Due}
use Rattle.play_event.specs.declared.reason.Due.TheVariants as dues
use Rattle.play_event.specs.declared.setup.Setup.{Setup}
use Rattle.play_event.specs.declared.setup.Rules.{Rules}
use Rattle.play_event.specs.Said.{Said}
use Rattle.play_event.specs.Past.{Move, Moved}
use Rattle.play_event.specs.Seats.{can_act, live_count}
use Rattle.play_event.specs.Due.{is_bring_in_due, is_move_due}
use Rattle.play_event.specs.Openers.{TheSeat, UpCards}
use Rattle.card_set.specs.Known.{hides_card}
use Rattle.play_event.specs.PlayerToAct.{player_to_act}
use Rattle.play_event.specs.Places.{Place, is_same_owner, is_up}
use Rattle.play_event.specs.Scripts.{resolved_by}
use Rattle.play_event.specs.Laws.{NoneHold}
use Rattle.play_laws.proofs.MoveKinds.{IsMoveSaid}
use Rattle.play_laws.proofs.NamedMoves.{move_reasons}

-- the up-cards of a seat that were dealt by a street
abbrev pub is_up_by : Code → ℕ → ℕ → Place → Bool
is_up_by code street seat place = is_same_owner place.owner (Some seat) && (is_up code place && nat_le place.street street)

-- the up-cards of a street by the places
abbrev pub ups_by : Code → List Place → ℕ → UpCards
ups_by code placed street seat = map (λ place. place.slot) (filter (is_up_by code street seat) placed)

-- the moves alone decide whose turn it is, or the up-cards of seats that can act do, and all of
-- these are known
pub data IsPlayerToAct (setup : Setup) (placed : List Place) (older : List Move) (street seat : ℕ) : Type 0 where
  free : ((ups : UpCards) → player_to_act setup ups older street ≡ TheSeat seat) → IsPlayerToAct setup placed older street seat
  shown : ((other : ℕ) → 1 ≤ other → other ≤ setup.stacks.seats → can_act setup older other ≡ true → list_any hides_card (ups_by setup.code placed street other) ≡ false) → player_to_act setup (ups_by setup.code placed street) older street ≡ TheSeat seat → IsPlayerToAct setup placed older street seat

-- what is due: a bring-in, or a move
pub data IsBetDue (setup : Setup) (older : List Move) (street : ℕ) : Due → Type 0 where
  bring_first : is_bring_in_due setup older street ≡ true → IsBetDue setup older street dues.BringIn
  move_now : is_bring_in_due setup older street ≡ false → is_move_due setup older street ≡ true → IsBetDue setup older street dues.Move

-- a move fits the moves before it: it is the move of a legal event, by the player to act
pub record FitsMove (setup : Setup) (rules : Rules) (placed : List Place) (older : List Move) (move : Move) : Type 0 where
  pub several : nat_le (live_count setup older) 1 ≡ false
  pub due : Due
  pub is_due : IsBetDue setup older move.street due
  pub event : Said
  pub is_move : IsMoveSaid event
  pub in_turn : IsPlayerToAct setup placed older move.street move.seat
  pub none : NoneHold (move_reasons setup rules older (move.street, due) (TheSeat move.seat) event)
  pub place : resolved_by setup older move.street (TheSeat move.seat) event ≡ Moved move

-- each move fits the moves before it
abbrev pub MovesLaw : Setup → Rules → List Place → List Move → Type 0
MovesLaw setup rules placed [] = Unit {0}
MovesLaw setup rules placed (move ∷ older) = FitsMove setup rules placed older move × MovesLaw setup rules placed older
