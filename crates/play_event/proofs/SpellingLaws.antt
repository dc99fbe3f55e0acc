-- A raise without an actor, however its amount is written, is that of the player to act to its
-- target.
use Rattle.std.proofs.Common.{◌≡◌, ℕ, Bool, true, false, ◌&&◌, ◌||◌, not, Option, Some, None, ◌∷◌, refl, sym, ◌∙◌, ap, if◌then◌else◌}
use Rattle.std.proofs.lemmas.Bool.{eq-eqb}
use Rattle.play_event.specs.declared.code.Code.{Code}
use Rattle.play_event.specs.declared.event.Spelled.{Spelled}
use Rattle.play_event.specs.declared.event.Spelled.TheVariants as spelled
use Rattle.play_event.specs.declared.reason.Due.{Due}
use Rattle.play_event.specs.declared.reason.Due.TheVariants as dues
use Rattle.play_event.specs.declared.reason.Illegal.{Illegal}
use Rattle.play_event.specs.declared.reason.Illegal.TheVariants as reasons
use Rattle.play_event.specs.declared.setup.Setup.{Setup}
use Rattle.play_event.specs.declared.setup.Rules.{Rules}
use Rattle.play_event.specs.Said as said
use Rattle.play_event.specs.Said.{Said}
use Rattle.play_event.specs.Past.{Past, moves_of}
use Rattle.play_event.specs.Amounts.{raise_target}
use Rattle.play_event.specs.Due.{turn}
use Rattle.play_event.specs.Openers.{InTurn, TheSeat}
use Rattle.play_event.specs.PlayerToAct.{player_to_act}
use Rattle.play_event.specs.Table.{places_of, up_cards}
use Rattle.play_event.specs.MoveReasons.{is_raise_closed, is_raise_too_small, is_raise_too_big}
use Rattle.play_event.specs.Reasons.{why, first_reason, is_over, is_due_kind, reasons_by}
use Rattle.play_event.specs.Scripts.{with_event, resolved_by}

-- a raise may come where a raise may come
same_kind : (code : Code) (due : Due) (seat target : ℕ) (amount : Spelled) → is_due_kind code due (said.Raise None amount) ≡ is_due_kind code due (said.Raise (Some seat) (spelled.To target))
same_kind code (dues.Deal street) seat target amount = refl
same_kind code (dues.Draw street) seat target amount = refl
same_kind code dues.BringIn seat target amount = refl
same_kind code dues.Move seat target amount = refl
same_kind code dues.Show seat target amount = refl
same_kind code dues.Over seat target amount = refl

-- the reasons against a raise, by whether a raise may come and whether its seat is another
abbrev raise_refused : Setup → Rules → Past → ℕ × Due → ℕ → ℕ → Bool → Bool → Option Illegal
raise_refused setup rules past now seat target comes other =
    let event = said.Raise (Some seat) (spelled.To target) in
    if is_over now.1 && true then Some reasons.HandOver
    else if not (comes || false) then Some reasons.WrongKind
    else if other then Some reasons.WrongSeat
    else if is_raise_closed setup rules (moves_of past) now.0 (TheSeat seat) event then Some reasons.RaiseClosed
    else if is_raise_too_small setup rules (moves_of past) now.0 (TheSeat seat) event then Some reasons.RaiseTooSmall
    else if is_raise_too_big setup (moves_of past) now.0 (TheSeat seat) event then Some reasons.RaiseTooBig
    else None

-- the reasons against an event with this player to act
abbrev why_by : Setup → Rules → Past → ℕ × Due → Said → InTurn → Option Illegal
why_by setup rules past now event in_turn =
    if is_over now.1 && true then Some reasons.HandOver
    else if not (is_due_kind setup.code now.1 event || false) then Some reasons.WrongKind
    else first_reason (reasons_by setup rules past now.0 in_turn (places_of setup.code past) event)

pub same_reason : (setup : Setup) (rules : Rules) (past : Past) (seat : ℕ) (amount : Spelled) → player_to_act setup (up_cards setup.code past) (moves_of past) (turn setup past).0 ≡ TheSeat seat → why setup rules past (said.Raise None amount) ≡ why setup rules past (said.Raise (Some seat) (spelled.To (raise_target setup (moves_of past) (turn setup past).0 seat amount)))
unfolding why
same_reason setup rules past seat amount is =
    let now = turn setup past in
    let target = raise_target setup (moves_of past) now.0 seat amount in
    ap (why_by setup rules past now (said.Raise None amount)) is
    ∙ ap (λ comes. raise_refused setup rules past now seat target comes false) (same_kind setup.code now.1 seat target amount)
    ∙ ap (λ other. raise_refused setup rules past now seat target (is_due_kind setup.code now.1 (said.Raise (Some seat) (spelled.To target))) (not other)) (sym (eq-eqb seat seat refl))
    ∙ sym (ap (why_by setup rules past now (said.Raise (Some seat) (spelled.To target))) is)

pub same_past : (setup : Setup) (past : Past) (seat : ℕ) (amount : Spelled) → player_to_act setup (up_cards setup.code past) (moves_of past) (turn setup past).0 ≡ TheSeat seat → with_event setup (said.Raise None amount) past ≡ with_event setup (said.Raise (Some seat) (spelled.To (raise_target setup (moves_of past) (turn setup past).0 seat amount))) past
unfolding with_event
same_past setup past seat amount is = ap (λ t. resolved_by setup (moves_of past) (turn setup past).0 t (said.Raise None amount) ∷ past) is
