-- What an event of cards does to the state of the cards: the answer of the rules, and the state
-- after it; and what a row says of the seats.
use Rattle.std.specs.Prelude.{◌≡◌, ℕ, Bool, Result, None, Some, OnOk, OnErr, IfErr}
use Rattle.chip_ledger.specs.declared.live_row.LiveRow.{LiveRow}
use Rattle.play_event.specs.declared.reason.Due.{Due}
use Rattle.play_event.specs.declared.reason.Illegal.{Illegal}
use Rattle.play_event.specs.declared.setup.Rules.{Rules}
use Rattle.play_event.specs.declared.setup.Setup.{Setup}
use Rattle.play_event.specs.Due.{is_settled, turn}
use Rattle.play_event.specs.Past.{Past, moves_of}
use Rattle.play_event.specs.Reasons.{why}
use Rattle.play_event.specs.Said.{Said}
use Rattle.play_event.specs.Scripts.{with_event}
use Rattle.card_places.specs.declared.card_state.CardState.{CardState}
use Rattle.deal_core.specs.Standing.{IsNow, StandsFor}
use Rattle.chip_ledger.specs.Seat.{IsSeatOf}

-- holds after each past of a hand that the state stands for, if `due` and `live` are those of the
-- past
abbrev pub WhereNow : CardState → Due → LiveRow → (Setup → Past → Type 0) → Type 0
WhereNow t due live P =
    (setup : Setup) (past : Past) → IsNow t due live setup past → P setup past

-- holds after each past of a hand that the state stands for and in which these seats are live,
-- whatever is due
abbrev pub WhereLive : CardState → LiveRow → (Setup → Past → Type 0) → Type 0
WhereLive t live P =
    (setup : Setup) (past : Past) (due : Due) → IsNow t due live setup past → P setup past

-- no condition on the past
abbrev pub AsksNothing : Setup → Past → Type 0
AsksNothing setup past = Unit {0}

-- whether the hand is settled (no more betting is possible) is as this says
abbrev pub IsSettledAs : Bool → Setup → Past → Type 0
IsSettledAs settled setup past = is_settled setup (moves_of past) (turn setup past) ≡ settled

-- the cards before and after are those of one hand
pub record AreOfOneHand (t next : CardState) : Type 0 where
  -- they are of the same game
  pub code : next.table.code ≡ t.table.code
  -- and of the same number of seats
  pub seats : next.seats ≡ t.seats

-- The answer to an event of cards; `t` is the state before it, and `next` the state after it. The
-- reasons are those of the pasts that meet `asks`.
pub record IsAnswered (t next : CardState) (due : Due) (live : LiveRow)
    (asks : Setup → Past → Type 0) (event : Said) (answer : Result (Unit {0}) Illegal) : Type 0
  where
    -- it is taken if it is legal
    pub legal : (rules : Rules) → WhereNow t due live (λ setup past. asks setup past
        → OnOk answer (why setup rules past event ≡ None))
    -- it is refused for the first reason that holds
    pub illegal : (rules : Rules) → WhereNow t due live (λ setup past. asks setup past
        → IfErr answer (λ reason. why setup rules past event ≡ Some reason))
    -- if taken, the new state stands for the past with it
    pub stands : WhereNow t due live (λ setup past.
        OnOk answer (StandsFor next (with_event setup event past)))
    -- if refused, the state is unchanged
    pub unchanged : OnErr answer (next ≡ t)
    -- taken or refused, the hand is the same
    pub hand : AreOfOneHand t next

-- a row has the seats of the state and this holds for each of them, after each past that the state
-- stands for
pub record TellsSeats (count : ℕ) (t : CardState) (P : Past → ℕ → Type 0) : Type 0 where
  pub seats : count ≡ t.seats
  pub each : (past : Past) (seat : ℕ) → StandsFor t past → IsSeatOf t.seats seat → P past seat
