-- Terms of the laws of play: the first street on which something is due, legal events, and reasons
-- that do not hold.
use Rattle.std.specs.Prelude.{◌≡◌, ◌≢◌, ◌⊎◌, ℕ, ◌≤◌, ◌<◌, Bool, false, List, [], ◌∷◌, Option, Some, None}
use Rattle.play_event.specs.declared.event.Spelled.{Spelled}
use Rattle.play_event.specs.declared.event.Spelled.TheVariants as spelled
use Rattle.play_event.specs.declared.reason.Due.{Due}
use Rattle.play_event.specs.declared.reason.Illegal.{Illegal}
use Rattle.play_event.specs.declared.setup.Setup.{Setup}
use Rattle.play_event.specs.declared.setup.Rules.{Rules}
use Rattle.play_event.specs.Said.{Said, Raise}
use Rattle.play_event.specs.Past.{Past, Move, moves_of}
use Rattle.play_event.specs.Streets.{limit_of}
use Rattle.play_event.specs.Amounts.{raise_target}
use Rattle.play_event.specs.Due.{turn}
use Rattle.play_event.specs.Openers.{TheSeat}
use Rattle.play_event.specs.PlayerToAct.{player_to_act}
use Rattle.play_event.specs.Table.{up_cards}
use Rattle.play_event.specs.ValidSetup.{IsValid, is_fixed_limit}
use Rattle.play_event.specs.Places.{Place}
use Rattle.play_event.specs.Taken.{is_clash}
use Rattle.play_event.specs.Reasons.{why}
use Rattle.play_event.specs.Scripts.{past_of}

-- something is due on this street, and nothing on any street from the given one up to it
pub record IsFirstStreet (on : ℕ → Option Due) (from street : ℕ) (due : Due) : Type 0 where
  pub reached : from ≤ street
  pub is_due : on street ≡ Some due
  pub quiet : (between : ℕ) → from ≤ between → between < street → on between ≡ None

-- no reason in a list holds
abbrev pub NoneHold : List (Bool × Illegal) → Type 0
NoneHold [] = Unit {0}
NoneHold (reason ∷ rest) = (reason.0 ≡ false) × NoneHold rest

-- events, the newest first, each of which is legal after those before it
abbrev pub AreLegal : Setup → Rules → List Said → Type 0
AreLegal setup rules [] = Unit {0}
AreLegal setup rules (event ∷ before) =
    (why setup rules (past_of setup before) event ≡ None) × AreLegal setup rules before

-- legal events of a valid setup in no limit or pot limit
pub record AreLegalUnfixed (setup : Setup) (rules : Rules) (events : List Said) : Type 0 where
  pub valid : IsValid setup
  pub unfixed : is_fixed_limit (limit_of setup.code) ≡ false
  pub legal : AreLegal setup rules events

-- the moves among events, the newest first
abbrev pub moves_by : Setup → List Said → List Move
moves_by setup events = moves_of (past_of setup events)

-- it is this seat's turn after a past
abbrev pub IsInTurn : Setup → Past → ℕ → Type 0
IsInTurn setup past seat =
    player_to_act setup (up_cards setup.code past) (moves_of past) (turn setup past).0
    ≡ TheSeat seat

-- a raise by a named seat to the target that is written
abbrev pub spelled_out : Setup → Past → ℕ → Spelled → Said
spelled_out setup past seat amount =
    Raise (Some seat)
    (spelled.To (raise_target setup (moves_of past) (turn setup past).0 seat amount))

-- a dealt card is one of these
abbrev pub IsAmong : List Place → Place → Type 0
IsAmong [] place = ⊥
IsAmong (first ∷ rest) place = (first ≡ place) ⊎ IsAmong rest place

-- no two of these dealt cards clash
abbrev pub NoneClash : List Place → Type 0
NoneClash placed =
    (a b : Place) → IsAmong placed a → IsAmong placed b → a.number ≢ b.number → is_clash a b ≡ false
