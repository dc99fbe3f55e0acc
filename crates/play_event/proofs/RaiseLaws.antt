-- The player to act has targets if and only if it may raise to some amount, and it may raise to
-- each legal target.
use Rattle.std.proofs.Common.{◌≡◌, ℕ, ◌==◌, Bool, true, false, ◌&&◌, not, nat_lt, Option, Some, None, List, refl, sym, ◌∙◌, ap, if◌then◌else◌}
use Rattle.std.proofs.lemmas.Bool.{and_from, and_parts, eq-eqb, eqb-true, le-ltb, not-false}
use Rattle.card_set.proofs.Tests.{false_true}
use Rattle.play_event.specs.declared.event.Spelled.{Spelled}
use Rattle.play_event.specs.declared.event.Spelled.TheVariants as spelled
use Rattle.play_event.specs.declared.reason.Due.{Due}
use Rattle.play_event.specs.declared.reason.Due.TheVariants as dues
use Rattle.play_event.specs.declared.reason.Illegal.{Illegal}
use Rattle.play_event.specs.declared.reason.Illegal.TheVariants as reasons
use Rattle.play_event.specs.declared.setup.Setup.{Setup}
use Rattle.play_event.specs.declared.setup.Rules.{Rules}
use Rattle.play_event.specs.Said as said
use Rattle.play_event.specs.Past.{Past, Move, moves_of}
use Rattle.play_event.specs.Due.{turn, is_settled}
use Rattle.play_event.specs.PlayerToAct.{player_to_act}
use Rattle.play_event.specs.MoveReasons.{is_other_seat, is_undecided}
use Rattle.play_event.specs.Openers.{InTurn, NoSeat, TheSeat, Undecided}
use Rattle.play_event.specs.Raising.{may_raise}
use Rattle.play_event.specs.Reasons.{why, first_reason, all_reasons, reasons_by, is_due_kind}
use Rattle.play_event.specs.Table.{places_of, up_cards}
use Rattle.play_event.specs.Targets.{is_legal_target, greatest_target}
use Rattle.play_event.specs.TurnTargets.{is_bet_due, may_raise_now, has_targets}
use Rattle.play_event.specs.Laws.{IsInTurn}
use Rattle.play_event.proofs.FloorLaws.{raise_bet, may_come_by}
use Rattle.play_event.proofs.ReasonLaws.{no_reason_holds}
use Rattle.play_event.proofs.TargetLaws.{none_beyond}

-- a seat that is named by a legal raise is the player to act
named_in_turn : (setup : Setup) (moves : List Move) (seat : ℕ) (now : InTurn) → is_other_seat setup moves (Some seat) now ≡ false → is_undecided now ≡ false → now ≡ TheSeat seat
named_in_turn setup moves seat NoSeat own known = false_true (sym own)
named_in_turn setup moves seat Undecided own known = false_true (sym known)
named_in_turn setup moves seat (TheSeat other) own known = ap TheSeat (sym (eqb-true seat other (not-false (seat == other) own)))

pub has_target : (setup : Setup) (rules : Rules) (past : Past) (seat : ℕ) (amount : Spelled) → why setup rules past (said.Raise (Some seat) amount) ≡ None → has_targets setup rules past ≡ true
has_target setup rules past seat amount legal =
    let now = turn setup past in
    let moves = moves_of past in
    let in_turn_now = player_to_act setup (up_cards setup.code past) moves now.0 in
    let none = no_reason_holds setup rules past (said.Raise (Some seat) amount) legal in
    let bet = raise_bet setup.code (Some seat) amount now.1 (may_come_by (is_due_kind setup.code now.1 (said.Raise (Some seat) amount)) (is_settled setup moves now) none.1.0) in
    let mine = named_in_turn setup moves seat in_turn_now none.1.1.0 none.1.1.1.1.1.1.0 in
    let may = not-false (may_raise setup rules moves now.0 seat) none.1.1.1.1.1.1.1.1.0 in
    and_from (is_bet_due now.1) (may_raise_now setup rules moves now.0 in_turn_now) bet (ap (may_raise_now setup rules moves now.0) mine ∙ may)

-- the remaining reasons against a raise when a move or a bring-in is due
abbrev open_reasons : Setup → Rules → List Move → ℕ → ℕ → ℕ → (other may legal above : Bool) → Option Illegal
open_reasons setup rules moves street seat target other may legal above =
    if other then Some reasons.WrongSeat
    else if not may then Some reasons.RaiseClosed
    else if not legal && nat_lt target (greatest_target setup moves street seat) then Some reasons.RaiseTooSmall
    else if above then Some reasons.RaiseTooBig
    else None

why_at_bet : (setup : Setup) (rules : Rules) (past : Past) (street seat target : ℕ) (due : Due) → is_bet_due due ≡ true → turn setup past ≡ (street, due) → player_to_act setup (up_cards setup.code past) (moves_of past) street ≡ TheSeat seat
    → why setup rules past (said.Raise (Some seat) (spelled.To target)) ≡ open_reasons setup rules (moves_of past) street seat target (not (seat == seat)) (may_raise setup rules (moves_of past) street seat) (is_legal_target rules.reopen setup (moves_of past) street seat target) (nat_lt (greatest_target setup (moves_of past) street seat) target)
unfolding why
why_at_bet setup rules past street seat target dues.BringIn bet now is =
    ap (λ n. first_reason (all_reasons setup rules past n (said.Raise (Some seat) (spelled.To target)))) now
    ∙ ap (λ t. first_reason (reasons_by setup rules past street t (places_of setup.code past) (said.Raise (Some seat) (spelled.To target)))) is
why_at_bet setup rules past street seat target dues.Move bet now is =
    ap (λ n. first_reason (all_reasons setup rules past n (said.Raise (Some seat) (spelled.To target)))) now
    ∙ ap (λ t. first_reason (reasons_by setup rules past street t (places_of setup.code past) (said.Raise (Some seat) (spelled.To target)))) is
why_at_bet setup rules past street seat target (dues.Deal on) bet now is = false_true bet
why_at_bet setup rules past street seat target (dues.Draw on) bet now is = false_true bet
why_at_bet setup rules past street seat target dues.Show bet now is = false_true bet
why_at_bet setup rules past street seat target dues.Over bet now is = false_true bet

pub legal_raise : (setup : Setup) (rules : Rules) (past : Past) (seat target : ℕ) → has_targets setup rules past ≡ true → IsInTurn setup past seat → is_legal_target rules.reopen setup (moves_of past) (turn setup past).0 seat target ≡ true → why setup rules past (said.Raise (Some seat) (spelled.To target)) ≡ None
legal_raise setup rules past seat target some mine legal =
    let street = (turn setup past).0 in
    let due = (turn setup past).1 in
    let moves = moves_of past in
    let parts = and_parts (is_bet_due due) (may_raise_now setup rules moves street (player_to_act setup (up_cards setup.code past) moves street)) some in
    let may : may_raise setup rules moves street seat ≡ true = sym (ap (may_raise_now setup rules moves street) mine) ∙ parts.1 in
    let within = none_beyond rules.reopen setup moves street seat target legal in
    why_at_bet setup rules past street seat target due parts.0 refl mine
    ∙ ap (λ b. open_reasons setup rules moves street seat target (not b) (may_raise setup rules moves street seat) (is_legal_target rules.reopen setup moves street seat target) (nat_lt (greatest_target setup moves street seat) target)) (eq-eqb seat seat refl)
    ∙ ap (λ b. open_reasons setup rules moves street seat target false b (is_legal_target rules.reopen setup moves street seat target) (nat_lt (greatest_target setup moves street seat) target)) may
    ∙ ap (λ b. open_reasons setup rules moves street seat target false true b (nat_lt (greatest_target setup moves street seat) target)) legal
    ∙ ap (λ b. open_reasons setup rules moves street seat target false true true b) (le-ltb (greatest_target setup moves street seat) target within)
