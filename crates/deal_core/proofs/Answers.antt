-- An event of cards is answered: the reasons by the state are those by the rules, and the state
-- after it stands for the past with it.
use Rattle.std.proofs.Common.{◌≡◌, ℕ, Bool, List, Option, Some, None, Result, Ok, Err, OnOk, OnErr, IfErr, refl, sym, subst, ◌∙◌, arith}
use Rattle.card_set.specs.declared.card.Card.{Card}
use Rattle.card_set.specs.declared.card.Slot.{Slot}
use Rattle.card_set.specs.Known.{known_slots}
use Rattle.chip_ledger.specs.declared.live_row.LiveRow.{LiveRow}
use Rattle.play_event.specs.declared.event.Kind.{Kind}
use Rattle.play_event.specs.declared.reason.Due.{Due}
use Rattle.play_event.specs.declared.reason.Due.TheVariants as dues
use Rattle.play_event.specs.declared.reason.Illegal.{Illegal}
use Rattle.play_event.specs.declared.setup.Rules.{Rules}
use Rattle.play_event.specs.declared.setup.Setup.{Setup}
use Rattle.play_event.specs.Due.{turn}
use Rattle.play_event.specs.Past.{Past}
use Rattle.play_event.specs.Reasons.{why}
use Rattle.play_event.specs.Said.{Said, kind_said}
use Rattle.play_event.specs.Said as said
use Rattle.play_event.specs.Scripts.{with_event}
use Rattle.card_places.specs.declared.card_state.CardState.{CardState}
use Rattle.card_places.specs.Dealt.{IsDealt}
use Rattle.card_places.specs.Discarded.{IsDiscarded}
use Rattle.card_places.specs.DueStreet.{due_street}
use Rattle.card_places.specs.Refusals.{board_deal_reason, discard_reason, hole_deal_reason, muck_reason, show_reason}
use Rattle.card_places.specs.Shown.{IsMucked, IsShown}
use Rattle.deal_core.specs.Answered.{AreOfOneHand, AsksNothing, IsAnswered, IsSettledAs, WhereNow}
use Rattle.deal_core.specs.Standing.{StandsFor}
use Rattle.deal_core.proofs.DiscardTurn.{discard_turn}
use Rattle.deal_core.proofs.StandsAfter.{hole_stands, board_stands}
use Rattle.deal_core.proofs.StandsDiscard.{discard_stands}
use Rattle.deal_core.proofs.StandsShow.{show_stands, muck_stands}
use Rattle.deal_core.proofs.WhyDeal.{why_hole, why_board, hole_turn, board_turn}
use Rattle.deal_core.proofs.WhyDiscard.{why_discard}
use Rattle.deal_core.proofs.WhyShow.{why_show, why_muck}
use Rattle.card_set.proofs.Results.{on_ok}

-- the reason of the rules is this one, which the state also gives
answered_by : (t next : CardState) (due : Due) (live : LiveRow) (asks : Setup → Past → Type 0) (event : Said) (answer : Result (Unit {0}) Illegal) (reason : Option Illegal)
    → ((rules : Rules) → WhereNow t due live (λ setup past. asks setup past → why setup rules past event ≡ reason))
    → OnOk answer (reason ≡ None) → IfErr answer (λ found. reason ≡ Some found)
    → WhereNow t due live (λ setup past. reason ≡ None → OnOk answer (StandsFor next (with_event setup event past)))
    → AreOfOneHand t next → OnErr answer (next ≡ t) → IsAnswered t next due live asks event answer
answered_by t next due live asks event (Ok done) reason same none wrong stands hand unchanged = record {
  legal = λ rules setup past now asked. same rules setup past now asked ∙ none;
  illegal = λ rules setup past now asked. tt;
  stands = λ setup past now. stands setup past now none;
  unchanged = unchanged;
  hand = hand;
}
answered_by t next due live asks event (Err found) reason same none wrong stands hand unchanged = record {
  legal = λ rules setup past now asked. tt;
  illegal = λ rules setup past now asked. same rules setup past now asked ∙ wrong;
  stands = λ setup past now. tt;
  unchanged = unchanged;
  hand = hand;
}

-- hole cards
pub hole_answered : (t next : CardState) (due : Due) (live : LiveRow) (seat : ℕ) (cards : List Slot) (kind : Kind) (answer : Result (Unit {0}) Illegal)
    → kind_said kind ≡ said.Hole seat cards
    → OnOk answer (hole_deal_reason t live due seat cards ≡ None) → IfErr answer (λ found. hole_deal_reason t live due seat cards ≡ Some found)
    → ((on : ℕ) → due_street due ≡ Some on → OnOk answer (IsDealt t next (Some seat) on cards)) → AreOfOneHand t next → OnErr answer (next ≡ t)
    → IsAnswered t next due live AsksNothing (kind_said kind) answer
hole_answered t next due live seat cards kind answer is none wrong dealt hand unchanged =
    subst (λ (event : Said). IsAnswered t next due live AsksNothing event answer) (sym is)
    (answered_by t next due live AsksNothing (said.Hole seat cards) answer (hole_deal_reason t live due seat cards)
    (λ rules setup past now asked. why_hole t due live setup rules past seat cards now) none wrong
    (λ setup past now right. on_ok answer
    (λ dealt. hole_stands t next setup past (turn setup past).0 seat cards now.stands refl dealt)
    (dealt (turn setup past).0 (hole_turn t due live setup past seat cards now.due_is right))) hand unchanged)

-- cards of the board
pub board_answered : (t next : CardState) (due : Due) (live : LiveRow) (cards : List Card) (kind : Kind) (answer : Result (Unit {0}) Illegal)
    → kind_said kind ≡ said.Board cards
    → OnOk answer (board_deal_reason t due (known_slots cards) ≡ None) → IfErr answer (λ found. board_deal_reason t due (known_slots cards) ≡ Some found)
    → ((on : ℕ) → due_street due ≡ Some on → OnOk answer (IsDealt t next None on (known_slots cards))) → AreOfOneHand t next → OnErr answer (next ≡ t)
    → IsAnswered t next due live AsksNothing (kind_said kind) answer
board_answered t next due live cards kind answer is none wrong dealt hand unchanged =
    subst (λ (event : Said). IsAnswered t next due live AsksNothing event answer) (sym is)
    (answered_by t next due live AsksNothing (said.Board cards) answer (board_deal_reason t due (known_slots cards))
    (λ rules setup past now asked. why_board t due live setup rules past cards now) none wrong
    (λ setup past now right. on_ok answer
    (λ dealt. board_stands t next setup past (turn setup past).0 cards now.stands refl dealt)
    (dealt (turn setup past).0 (board_turn t due setup past (known_slots cards) now.due_is right))) hand unchanged)

-- discards
pub discard_answered : (t next : CardState) (due : Due) (live : LiveRow) (seat : ℕ) (cards : List Slot) (kind : Kind) (answer : Result (Unit {0}) Illegal)
    → kind_said kind ≡ said.Discard seat cards
    → OnOk answer (discard_reason t live due seat cards ≡ None) → IfErr answer (λ found. discard_reason t live due seat cards ≡ Some found)
    → ((on : ℕ) → due ≡ dues.Draw on → OnOk answer (IsDiscarded t next on seat cards)) → AreOfOneHand t next → OnErr answer (next ≡ t)
    → IsAnswered t next due live AsksNothing (kind_said kind) answer
discard_answered t next due live seat cards kind answer is none wrong discarded hand unchanged =
    subst (λ (event : Said). IsAnswered t next due live AsksNothing event answer) (sym is)
    (answered_by t next due live AsksNothing (said.Discard seat cards) answer (discard_reason t live due seat cards)
    (λ rules setup past now asked. why_discard t due live setup rules past seat cards now) none wrong
    (λ setup past now right.
    let drawing = discard_turn t due live setup past seat cards now right in
    on_ok answer
    (λ change. discard_stands t next setup past (turn setup past).0 seat cards now.stands (omega (arith, t.shown_seats, t.shown.greatest)) drawing.undrawn refl change)
    (discarded (turn setup past).0 drawing.draws)) hand unchanged)

-- shows
pub show_answered : (t next : CardState) (due : Due) (live : LiveRow) (settled : Bool) (seat : ℕ) (cards : List Card) (kind : Kind) (answer : Result (Unit {0}) Illegal)
    → kind_said kind ≡ said.Show seat cards
    → OnOk answer (show_reason t live due settled seat cards ≡ None) → IfErr answer (λ found. show_reason t live due settled seat cards ≡ Some found)
    → OnOk answer (IsShown t next seat cards) → AreOfOneHand t next → OnErr answer (next ≡ t)
    → IsAnswered t next due live (IsSettledAs settled) (kind_said kind) answer
show_answered t next due live settled seat cards kind answer is none wrong shown hand unchanged =
    subst (λ (event : Said). IsAnswered t next due live (IsSettledAs settled) event answer) (sym is)
    (answered_by t next due live (IsSettledAs settled) (said.Show seat cards) answer (show_reason t live due settled seat cards)
    (λ rules setup past now asked. why_show t due live setup rules past settled seat cards now asked) none wrong
    (λ setup past now right. on_ok answer (λ shown. show_stands t next setup past seat cards now.stands shown) shown) hand unchanged)

-- mucks
pub muck_answered : (t next : CardState) (due : Due) (live : LiveRow) (settled : Bool) (seat : ℕ) (kind : Kind) (answer : Result (Unit {0}) Illegal)
    → kind_said kind ≡ said.Muck seat
    → OnOk answer (muck_reason t live due seat ≡ None) → IfErr answer (λ found. muck_reason t live due seat ≡ Some found)
    → OnOk answer (IsMucked t next seat) → AreOfOneHand t next → OnErr answer (next ≡ t)
    → IsAnswered t next due live (IsSettledAs settled) (kind_said kind) answer
muck_answered t next due live settled seat kind answer is none wrong mucked hand unchanged =
    subst (λ (event : Said). IsAnswered t next due live (IsSettledAs settled) event answer) (sym is)
    (answered_by t next due live (IsSettledAs settled) (said.Muck seat) answer (muck_reason t live due seat)
    (λ rules setup past now asked. why_muck t due live setup rules past seat now) none wrong
    (λ setup past now right. on_ok answer (λ mucked. muck_stands t next setup past seat now.stands mucked) mucked) hand unchanged)
