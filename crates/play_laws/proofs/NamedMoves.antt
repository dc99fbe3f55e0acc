-- A legal move is legal as the canonical script says it, after each past with the same moves, turn
-- and player to act.
use Rattle.std.proofs.Common.{◌≡◌, ℕ, Bool, true, false, ◌&&◌, ◌||◌, not, Option, Some, None, List, [], ◌∷◌, refl, sym, ◌∙◌, ap, ◌==◌}
use Rattle.std.proofs.lemmas.Bool.{eqb-true, not-false}
use Rattle.play_event.specs.declared.code.Code.{Code}
use Rattle.play_event.specs.declared.event.Spelled.TheVariants as spelled
use Rattle.play_event.specs.declared.reason.Due.{Due}
use Rattle.play_event.specs.declared.reason.Illegal.{Illegal}
use Rattle.play_event.specs.declared.reason.Illegal.TheVariants as reasons
use Rattle.play_event.specs.declared.setup.Setup.{Setup}
use Rattle.play_event.specs.declared.setup.Rules.{Rules}
use Rattle.play_event.specs.Said as said
use Rattle.play_event.specs.Said.{Said}
use Rattle.play_event.specs.Past.{Past, Move, moves_of}
use Rattle.play_event.specs.Amounts.{raise_target}
use Rattle.play_event.specs.Due.{turn}
use Rattle.play_event.specs.Openers.{InTurn, TheSeat}
use Rattle.play_event.specs.PlayerToAct.{player_to_act}
use Rattle.play_event.specs.CurrentBet.{to_call}
use Rattle.play_event.specs.Raising.{may_raise}
use Rattle.play_event.specs.Table.{up_cards}
use Rattle.play_event.specs.MoveReasons.{actor_of, is_other_seat, is_undecided, has_nothing_to_call, is_raise_closed, is_raise_too_small, is_raise_too_big, is_below_targets, is_above_targets, amount_reason}
use Rattle.play_event.specs.Reasons.{why, first_reason, is_over, is_due_kind}
use Rattle.play_event.specs.Scripts.{resolved_by}
use Rattle.play_event.specs.Laws.{NoneHold}
use Rattle.play_laws.proofs.MoveKinds.{IsMoveSaid, alike_kind, bring_said, brings, call_said, calls, fold_said, folds, raise_said, raises}
use Rattle.card_set.proofs.Numbers.{not_other}

-- the seat that a move names
abbrev pub named_in : Said → Option ℕ
named_in (said.Fold named) = named
named_in (said.Call named stated) = named
named_in (said.Raise named amount) = named
named_in (said.BringIn named) = named
named_in _ = None

-- the reasons against a move: they depend on the moves, what is due, and whose turn it is
abbrev pub move_reasons : Setup → Rules → List Move → ℕ × Due → InTurn → Said → List (Bool × Illegal)
move_reasons setup rules moves now in_turn event =
    (is_over now.1 && true, reasons.HandOver)
    ∷ (not (is_due_kind setup.code now.1 event || false), reasons.WrongKind)
    ∷ (is_other_seat setup moves (named_in event) in_turn, reasons.WrongSeat)
    ∷ (false, reasons.WrongCount)
    ∷ (false, reasons.CardTaken)
    ∷ (false, reasons.NotHeld)
    ∷ (is_undecided in_turn, reasons.UpCardUnknown)
    ∷ (has_nothing_to_call setup rules moves now.0 in_turn event, reasons.NothingToCall)
    ∷ (is_raise_closed setup rules moves now.0 in_turn event, reasons.RaiseClosed)
    ∷ (is_raise_too_small setup rules moves now.0 in_turn event, reasons.RaiseTooSmall)
    ∷ (is_raise_too_big setup moves now.0 in_turn event, reasons.RaiseTooBig)
    ∷ amount_reason setup moves now.0 in_turn event
    ∷ []

-- why a move is illegal depends on them alone
pub why_move : (setup : Setup) (rules : Rules) (before : Past) (event : Said) → IsMoveSaid event → why setup rules before event ≡ first_reason (move_reasons setup rules (moves_of before) (turn setup before) (player_to_act setup (up_cards setup.code before) (moves_of before) (turn setup before).0) event)
unfolding why
why_move setup rules before _ (fold_said named) = refl
why_move setup rules before _ (call_said named stated) = refl
why_move setup rules before _ (raise_said named amount) = refl
why_move setup rules before _ (bring_said named) = refl

-- a move as the canonical script says it: its seat is named, and a raise states its target
abbrev pub named_move : Setup → List Move → ℕ → ℕ → Said → Said
named_move setup moves street seat (said.Fold named) = said.Fold (Some seat)
named_move setup moves street seat (said.Call named stated) = said.Call (Some seat) None
named_move setup moves street seat (said.Raise named amount) = said.Raise (Some seat) (spelled.To (raise_target setup moves street seat amount))
named_move setup moves street seat (said.BringIn named) = said.BringIn (Some seat)
named_move setup moves street seat event = event

-- the kind of the move decides whether it may come
same_kind : (code : Code) (due : Due) (setup : Setup) (moves : List Move) (street seat : ℕ) (event : Said) → IsMoveSaid event → is_due_kind code due (named_move setup moves street seat event) ≡ is_due_kind code due event
same_kind code due setup moves street seat _ (fold_said named) = alike_kind code due _ _ (folds (Some seat) named)
same_kind code due setup moves street seat _ (call_said named stated) = alike_kind code due _ _ (calls (Some seat) named None stated)
same_kind code due setup moves street seat _ (raise_said named amount) = alike_kind code due _ _ (raises (Some seat) named (spelled.To (raise_target setup moves street seat amount)) amount)
same_kind code due setup moves street seat _ (bring_said named) = alike_kind code due _ _ (brings (Some seat) named)

-- it is the turn of the seat that is named
pub same_actor : (setup : Setup) (moves : List Move) (named : Option ℕ) (seat : ℕ) → is_other_seat setup moves named (TheSeat seat) ≡ false → actor_of named (TheSeat seat) ≡ seat
same_actor setup moves None seat is = refl
same_actor setup moves (Some other) seat is = eqb-true other seat (not-false (other == seat) is)

named_kind : (setup : Setup) (moves : List Move) (now : ℕ × Due) (seat : ℕ) (event : Said) → IsMoveSaid event → not (is_due_kind setup.code now.1 event || false) ≡ false → not (is_due_kind setup.code now.1 (named_move setup moves now.0 seat event) || false) ≡ false
named_kind setup moves now seat event is kind = ap (λ b. not (b || false)) (same_kind setup.code now.1 setup moves now.0 seat event is) ∙ kind

-- if there is no reason against a move, there is none against it as the canonical script says it
pub named_none : (setup : Setup) (rules : Rules) (moves : List Move) (now : ℕ × Due) (seat : ℕ) (event : Said) → IsMoveSaid event → NoneHold (move_reasons setup rules moves now (TheSeat seat) event) → NoneHold (move_reasons setup rules moves now (TheSeat seat) (named_move setup moves now.0 seat event))
named_none setup rules moves now seat _ (fold_said named) none =
    let actor = same_actor setup moves named seat none.1.1.0 in (
      none.0,
      (
        named_kind setup moves now seat (said.Fold named) (fold_said named) none.1.0,
        (
          not_other seat,
          (
            refl,
            (
              refl,
              (
                refl,
                (
                  refl,
                  (ap (λ a. not rules.free_fold && (to_call setup moves now.0 a == 0)) (sym actor) ∙ none.1.1.1.1.1.1.1.0, (refl, (refl, (refl, (refl, tt))))),
                ),
              ),
            ),
          ),
        ),
      ),
    )
named_none setup rules moves now seat _ (call_said named stated) none =
    (none.0, (named_kind setup moves now seat (said.Call named stated) (call_said named stated) none.1.0, (not_other seat, (refl, (refl, (refl, (refl, (refl, (refl, (refl, (refl, (refl, tt))))))))))))
named_none setup rules moves now seat _ (bring_said named) none =
    (none.0, (named_kind setup moves now seat (said.BringIn named) (bring_said named) none.1.0, (not_other seat, (refl, (refl, (refl, (refl, (refl, (refl, (refl, (refl, (refl, tt))))))))))))
named_none setup rules moves now seat _ (raise_said named amount) none =
    let actor = same_actor setup moves named seat none.1.1.0 in
    let later = none.1.1.1.1.1.1.1.1 in (
      none.0,
      (
        named_kind setup moves now seat (said.Raise named amount) (raise_said named amount) none.1.0,
        (
          not_other seat,
          (
            refl,
            (
              refl,
              (
                refl,
                (
                  refl,
                  (
                    refl,
                    (
                      ap (λ a. not (may_raise setup rules moves now.0 a)) (sym actor) ∙ later.0,
                      (
                        ap (λ a. is_below_targets setup rules moves now.0 a (raise_target setup moves now.0 a amount)) (sym actor) ∙ later.1.0,
                        (
                          ap (λ a. is_above_targets setup moves now.0 a (raise_target setup moves now.0 a amount)) (sym actor) ∙ later.1.1.0,
                          (refl, tt),
                        ),
                      ),
                    ),
                  ),
                ),
              ),
            ),
          ),
        ),
      ),
    )

-- and it takes place in the same way
pub named_place : (setup : Setup) (moves : List Move) (street seat : ℕ) (event : Said) → IsMoveSaid event → is_other_seat setup moves (named_in event) (TheSeat seat) ≡ false → resolved_by setup moves street (TheSeat seat) (named_move setup moves street seat event) ≡ resolved_by setup moves street (TheSeat seat) event
named_place setup moves street seat _ (fold_said named) same = ap (λ a. resolved_by setup moves street (TheSeat a) (said.Fold (Some a))) (sym (same_actor setup moves named seat same))
named_place setup moves street seat _ (call_said named stated) same = ap (λ a. resolved_by setup moves street (TheSeat a) (said.Call (Some a) None)) (sym (same_actor setup moves named seat same))
named_place setup moves street seat _ (bring_said named) same = ap (λ a. resolved_by setup moves street (TheSeat a) (said.BringIn (Some a))) (sym (same_actor setup moves named seat same))
named_place setup moves street seat _ (raise_said named amount) same = ap (λ a. resolved_by setup moves street (TheSeat a) (said.Raise (Some a) (spelled.To (raise_target setup moves street a amount)))) (sym (same_actor setup moves named seat same))
