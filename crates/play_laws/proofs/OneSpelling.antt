-- A move that names no actor is a move of the player to act, and of a raise only its target counts.
use Rattle.std.proofs.Common.{◌≡◌, ℕ, Bool, true, false, ◌&&◌, ◌||◌, not, Option, Some, None, List, [], ◌∷◌, refl, sym, ◌∙◌, ap}
use Rattle.play_event.specs.Due.{turn}
use Rattle.play_event.specs.Laws.{IsInTurn}
use Rattle.play_event.specs.MoveReasons.{actor_of, amount_reason, has_nothing_to_call, is_above_targets, is_below_targets, is_other_seat, is_raise_closed, is_raise_too_big, is_raise_too_small, is_undecided}
use Rattle.play_event.specs.Openers.{InTurn, TheSeat}
use Rattle.play_event.specs.Past as pasts
use Rattle.play_event.specs.Past.{Move, Past, moves_of}
use Rattle.play_event.specs.Raising.{may_raise}
use Rattle.play_event.specs.Reasons.{first_reason, is_due_kind, is_over, why}
use Rattle.play_event.specs.Said as said
use Rattle.play_event.specs.Said.{Said}
use Rattle.play_event.specs.Scripts.{move_to, resolved_by, with_event}
use Rattle.play_event.specs.declared.event.Spelled.{Spelled}
use Rattle.play_event.specs.declared.reason.Due.{Due}
use Rattle.play_event.specs.declared.reason.Illegal.TheVariants as reasons
use Rattle.play_event.specs.declared.reason.Illegal.{Illegal}
use Rattle.play_event.specs.declared.setup.Rules.{Rules}
use Rattle.play_event.specs.declared.setup.Setup.{Setup}
use Rattle.play_laws.specs.Spellings.{in_turn_after, target_after, with_actor}
use Rattle.play_laws.proofs.MoveKinds.{AreAlike, IsMoveSaid, alike_kind, bring_said, brings, call_said, calls, fold_said, folds, raise_said, raises}
use Rattle.play_laws.proofs.NamedMoves.{named_in, why_move}
use Rattle.card_set.proofs.Numbers.{not_other}

-- why a move is illegal, by whether its kind may come and whether it names another seat
abbrev refused : Setup → Rules → List Move → ℕ × Due → InTurn → Said → Bool → Bool → Option Illegal
refused setup rules moves now in_turn event comes other =
    first_reason (
    (is_over now.1 && true, reasons.HandOver)
    ∷ (not (comes || false), reasons.WrongKind)
    ∷ (other, reasons.WrongSeat)
    ∷ (false, reasons.WrongCount)
    ∷ (false, reasons.CardTaken)
    ∷ (false, reasons.NotHeld)
    ∷ (is_undecided in_turn, reasons.UpCardUnknown)
    ∷ (has_nothing_to_call setup rules moves now.0 in_turn event, reasons.NothingToCall)
    ∷ (is_raise_closed setup rules moves now.0 in_turn event, reasons.RaiseClosed)
    ∷ (is_raise_too_small setup rules moves now.0 in_turn event, reasons.RaiseTooSmall)
    ∷ (is_raise_too_big setup moves now.0 in_turn event, reasons.RaiseTooBig)
    ∷ amount_reason setup moves now.0 in_turn event
    ∷ [])

-- two moves of one kind, one naming the player to act and one naming no seat, are illegal for the
-- same reason
by_seat : (setup : Setup) (rules : Rules) (past : Past) (seat : ℕ) (event other : Said) → IsMoveSaid event → IsMoveSaid other → AreAlike event other → IsInTurn setup past seat
    → named_in event ≡ Some seat → named_in other ≡ None
    → ((comes is_other : Bool) → refused setup rules (moves_of past) (turn setup past) (TheSeat seat) event comes is_other ≡ refused setup rules (moves_of past) (turn setup past) (TheSeat seat) other comes is_other)
    → why setup rules past event ≡ why setup rules past other
by_seat setup rules past seat event other one two alike is named unnamed same =
    let moves = moves_of past in
    let now = turn setup past in
    let kind = alike_kind setup.code now.1 event other alike in
    why_move setup rules past event one
    ∙ (ap (λ t. refused setup rules moves now t event (is_due_kind setup.code now.1 event) (is_other_seat setup moves (named_in event) t)) is
    ∙ (ap (λ comes. refused setup rules moves now (TheSeat seat) event comes (is_other_seat setup moves (named_in event) (TheSeat seat))) kind
    ∙ (ap (λ named. refused setup rules moves now (TheSeat seat) event (is_due_kind setup.code now.1 other) (is_other_seat setup moves named (TheSeat seat))) named
    ∙ (ap (refused setup rules moves now (TheSeat seat) event (is_due_kind setup.code now.1 other)) (not_other seat)
    ∙ (same (is_due_kind setup.code now.1 other) false
    ∙ (sym (ap (λ named. refused setup rules moves now (TheSeat seat) other (is_due_kind setup.code now.1 other) (is_other_seat setup moves named (TheSeat seat))) unnamed)
    ∙ (sym (ap (λ t. refused setup rules moves now t other (is_due_kind setup.code now.1 other) (is_other_seat setup moves (named_in other) t)) is)
    ∙ sym (why_move setup rules past other two))))))))

-- naming the player to act changes no reason
pub same_reason : (setup : Setup) (rules : Rules) (past : Past) (seat : ℕ) (event : Said) → IsInTurn setup past seat → why setup rules past (with_actor seat event) ≡ why setup rules past event
same_reason setup rules past seat (said.Fold None) is =
    by_seat setup rules past seat (said.Fold (Some seat)) (said.Fold None) (fold_said (Some seat)) (fold_said None) (folds (Some seat) None) is refl refl (λ comes other. refl)
same_reason setup rules past seat (said.Call None stated) is =
    by_seat setup rules past seat (said.Call (Some seat) stated) (said.Call None stated) (call_said (Some seat) stated) (call_said None stated) (calls (Some seat) None stated stated) is refl refl (call_alike stated)
  where
    call_alike : (stated : Option ℕ) (comes other : Bool) → refused setup rules (moves_of past) (turn setup past) (TheSeat seat) (said.Call (Some seat) stated) comes other ≡ refused setup rules (moves_of past) (turn setup past) (TheSeat seat) (said.Call None stated) comes other
    call_alike None comes other = refl
    call_alike (Some chips) comes other = refl
same_reason setup rules past seat (said.Raise None amount) is =
    by_seat setup rules past seat (said.Raise (Some seat) amount) (said.Raise None amount) (raise_said (Some seat) amount) (raise_said None amount) (raises (Some seat) None amount amount) is refl refl (λ comes other. refl)
same_reason setup rules past seat (said.BringIn None) is =
    by_seat setup rules past seat (said.BringIn (Some seat)) (said.BringIn None) (bring_said (Some seat)) (bring_said None) (brings (Some seat) None) is refl refl (λ comes other. refl)
same_reason setup rules past seat (said.Fold (Some other)) is = refl
same_reason setup rules past seat (said.Call (Some other) stated) is = refl
same_reason setup rules past seat (said.Raise (Some other) amount) is = refl
same_reason setup rules past seat (said.BringIn (Some other)) is = refl
same_reason setup rules past seat (said.Hole other cards) is = refl
same_reason setup rules past seat (said.Board cards) is = refl
same_reason setup rules past seat (said.Discard other cards) is = refl
same_reason setup rules past seat (said.Show other cards) is = refl
same_reason setup rules past seat (said.Muck other) is = refl

-- and nothing of what takes place
pub same_past : (setup : Setup) (past : Past) (seat : ℕ) (event : Said) → IsInTurn setup past seat → with_event setup (with_actor seat event) past ≡ with_event setup event past
unfolding with_event
same_past setup past seat (said.Fold None) is = sym (ap (λ t. resolved_by setup (moves_of past) (turn setup past).0 t (said.Fold None) ∷ past) is)
same_past setup past seat (said.Call None stated) is = sym (ap (λ t. resolved_by setup (moves_of past) (turn setup past).0 t (said.Call None stated) ∷ past) is)
same_past setup past seat (said.Raise None amount) is = sym (ap (λ t. resolved_by setup (moves_of past) (turn setup past).0 t (said.Raise None amount) ∷ past) is)
same_past setup past seat (said.BringIn None) is = sym (ap (λ t. resolved_by setup (moves_of past) (turn setup past).0 t (said.BringIn None) ∷ past) is)
same_past setup past seat (said.Fold (Some other)) is = refl
same_past setup past seat (said.Call (Some other) stated) is = refl
same_past setup past seat (said.Raise (Some other) amount) is = refl
same_past setup past seat (said.BringIn (Some other)) is = refl
same_past setup past seat (said.Hole other cards) is = refl
same_past setup past seat (said.Board cards) is = refl
same_past setup past seat (said.Discard other cards) is = refl
same_past setup past seat (said.Show other cards) is = refl
same_past setup past seat (said.Muck other) is = refl

-- why a raise to a target is illegal
abbrev raise_refused : Setup → Rules → List Move → ℕ × Due → InTurn → Option ℕ → Bool → ℕ → Option Illegal
raise_refused setup rules moves now in_turn named comes target =
    first_reason (
    (is_over now.1 && true, reasons.HandOver)
    ∷ (not (comes || false), reasons.WrongKind)
    ∷ (is_other_seat setup moves named in_turn, reasons.WrongSeat)
    ∷ (false, reasons.WrongCount)
    ∷ (false, reasons.CardTaken)
    ∷ (false, reasons.NotHeld)
    ∷ (is_undecided in_turn, reasons.UpCardUnknown)
    ∷ (false, reasons.NothingToCall)
    ∷ (not (may_raise setup rules moves now.0 (actor_of named in_turn)), reasons.RaiseClosed)
    ∷ (is_below_targets setup rules moves now.0 (actor_of named in_turn) target, reasons.RaiseTooSmall)
    ∷ (is_above_targets setup moves now.0 (actor_of named in_turn) target, reasons.RaiseTooBig)
    ∷ (false, reasons.AmountDiffers 0 0)
    ∷ [])

-- raises to the same target are illegal for the same reason
pub equal_reason : (setup : Setup) (rules : Rules) (past : Past) (named : Option ℕ) (amount other : Spelled) → target_after setup past named amount ≡ target_after setup past named other → why setup rules past (said.Raise named amount) ≡ why setup rules past (said.Raise named other)
equal_reason setup rules past named amount other same =
    let moves = moves_of past in
    let now = turn setup past in
    let in_turn = in_turn_after setup past in
    why_move setup rules past (said.Raise named amount) (raise_said named amount)
    ∙ (ap (λ comes. raise_refused setup rules moves now in_turn named comes (target_after setup past named amount)) (alike_kind setup.code now.1 (said.Raise named amount) (said.Raise named other) (raises named named amount other))
    ∙ (ap (raise_refused setup rules moves now in_turn named (is_due_kind setup.code now.1 (said.Raise named other))) same
    ∙ sym (why_move setup rules past (said.Raise named other) (raise_said named other))))

-- and take place in the same way
pub equal_past : (setup : Setup) (past : Past) (named : Option ℕ) (amount other : Spelled) → target_after setup past named amount ≡ target_after setup past named other → with_event setup (said.Raise named amount) past ≡ with_event setup (said.Raise named other) past
unfolding with_event
equal_past setup past named amount other same =
    ap (λ target. move_to setup (moves_of past) (turn setup past).0 (actor_of named (in_turn_after setup past)) pasts.Raised target ∷ past) same
