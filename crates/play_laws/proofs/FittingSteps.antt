-- The moves of every legal past fit.
use Rattle.std.proofs.Common.{◌≡◌, ℕ, ◌≤◌, Bool, true, false, ◌&&◌, ◌==◌, nat_lt, nat_le, inl, inr, Some, None, List, [], ◌∷◌, map, refl, sym, ◌∙◌, ap, subst, arith, if◌then◌else◌}
use Rattle.std.proofs.lemmas.Bool.{or_parts, or_cases, and_parts, both_ways, cases_lt, eq-eqb, eqb-true}
use Rattle.card_set.specs.declared.card.Slot.TheVariants as slots
use Rattle.play_event.specs.declared.reason.Due.{Due}
use Rattle.play_event.specs.declared.setup.Setup.{Setup}
use Rattle.play_event.specs.declared.setup.Rules.{Rules}
use Rattle.play_event.specs.Streets.{has_draw}
use Rattle.play_event.specs.Said as said
use Rattle.play_event.specs.Said.{Said}
use Rattle.play_event.specs.Past.{Past, Resolved, Move, Dealt, Boarded, Moved, Discarded, Shown, Mucked, moves_of, newest_street, is_folding}
use Rattle.play_event.specs.Seats.{is_live, can_act, live_count}
use Rattle.play_event.specs.Chips.{chips_left}
use Rattle.play_event.specs.Dealing.{has_drawn}
use Rattle.play_event.specs.Due.{turn}
use Rattle.play_event.specs.Openers.{InTurn, NoSeat, TheSeat, Undecided, UpCards}
use Rattle.play_event.specs.PlayerToAct.{player_to_act}
use Rattle.play_event.specs.Places.{Place, after_fold}
use Rattle.play_event.specs.Table.{places_of, up_cards}
use Rattle.play_event.specs.Reasons.{why, is_due_kind}
use Rattle.play_event.specs.Scripts.{with_event, past_of, resolved_on, resolved_by}
use Rattle.play_event.specs.Laws.{AreLegal, NoneHold}
use Rattle.card_set.proofs.Tests.{false_true}
use Rattle.play_laws.specs.PastLaws.{AreReached, has_move, PastLaw}
use Rattle.play_laws.proofs.LegalPlaces.{legal_past}
use Rattle.play_laws.proofs.DueAtEvents.{Reaches, turn_reaches, unfinished_due}
use Rattle.play_laws.proofs.LegalEvents.{Stepped, deals, boards, moves, discards, shows, mucks, stepped, fold_kind, call_kind, raise_kind, bring_kind}
use Rattle.play_laws.proofs.PastLawKept.{unmoved_deal, drawing}
use Rattle.play_laws.proofs.PlayerToActUps.{SameUps}
use Rattle.play_event.proofs.ReasonLaws.{none_hold}
use Rattle.play_laws.proofs.MoveKinds.{IsMoveSaid, fold_said, call_said, raise_said, bring_said}
use Rattle.play_laws.proofs.NamedMoves.{move_reasons, why_move, same_actor}
use Rattle.play_laws.proofs.MovesLaw.{ups_by, IsPlayerToAct, IsBetDue, FitsMove, MovesLaw}
use Rattle.play_laws.proofs.KnownUpCards.{AreBefore, moves_deal, moves_sure, discard_sure, show_sure, fold_sure}
use Rattle.play_laws.proofs.FittingMoves.{is_player_to_act, ups_now}
use Rattle.play_laws.proofs.BettingDue.{bet_of}
use Rattle.std.specs.Prelude.{length}
use Rattle.play_event.specs.TurnTargets.{is_bet_due}
use Rattle.play_event.proofs.FloorLaws.{bet_unfinished}

-- if a bring-in or a move is due, it is some seat's turn, or it is not known whose
abbrev pub HavePlayersToAct : Setup → Rules → Type 0
HavePlayersToAct setup rules = (placed : List Place) (list : List Move) (ups : UpCards) (street : ℕ) (due : Due) → MovesLaw setup rules placed list → IsBetDue setup list street due → player_to_act setup ups list street ≡ NoSeat → ⊥

-- if a seat drew on a street, the street draws
drew_step : (setup : Setup) (before : Past) (at : ℕ) (event : Resolved) (street other : ℕ) → Stepped setup before at event → (has_drawn before street other ≡ true → has_draw setup.code street ≡ true) → has_drawn (event ∷ before) street other ≡ true → has_draw setup.code street ≡ true
drew_step setup before at _ street other (deals seat cards due is some few free) law has = law has
drew_step setup before at _ street other (boards cards due some few free) law has = law has
drew_step setup before at _ street other (moves move no_deal no_draw on) law has = law has
drew_step setup before at _ street other (shows seat cards may free) law has = law has
drew_step setup before at _ street other (mucks seat may) law has = law has
drew_step setup before at _ street other (discards seat cards no_deal draw next few free held) law has = elim (or_cases ((at == street) && (seat == other)) (has_drawn before street other) has) [
  | inl here ↦ ap (has_draw setup.code) (sym (eqb-true at street (and_parts (at == street) (seat == other) here).0)) ∙ drawing setup before at draw
  | inr earlier ↦ law earlier
]

-- a street on which a seat drew is one that draws
pub drew : (setup : Setup) (rules : Rules) (events : List Said) → AreLegal setup rules events → (street other : ℕ) → has_drawn (past_of setup events) street other ≡ true → has_draw setup.code street ≡ true
unfolding with_event
drew setup rules [] legal street other has = false_true has
drew setup rules (event ∷ events) legal street other has =
    drew_step setup (past_of setup events) (turn setup (past_of setup events)).0 _ street other (stepped setup rules (past_of setup events) event legal.0) (drew setup rules events legal.1 street other) has

-- the kinds of moves
move_kind : (setup : Setup) (due : Due) (event : Said) → IsMoveSaid event → is_due_kind setup.code due event ≡ true → is_bet_due due ≡ true
move_kind setup due _ (fold_said named) is = fold_kind setup named due is
move_kind setup due _ (call_said named stated) is = call_kind setup named stated due is
move_kind setup due _ (raise_said named amount) is = raise_kind setup named amount due is
move_kind setup due _ (bring_said named) is = bring_kind setup named due is

-- an event that is a move fits
abbrev pub FitsIf : Setup → Rules → List Place → List Move → Resolved → Type 0
FitsIf setup rules placed older (Moved move) = FitsMove setup rules placed older move
FitsIf setup rules placed older (Dealt street seat cards) = Unit {0}
FitsIf setup rules placed older (Boarded street cards) = Unit {0}
FitsIf setup rules placed older (Discarded street seat cards) = Unit {0}
FitsIf setup rules placed older (Shown street seat cards) = Unit {0}
FitsIf setup rules placed older (Mucked street seat) = Unit {0}

-- what a move says of its street and its seat
record Told (setup : Setup) (rules : Rules) (placed : List Place) (older : List Move) (due : Due) (event : Said) (move : Move) (street seat : ℕ) : Type 0 where
  is_due : IsBetDue setup older street due
  in_turn : IsPlayerToAct setup placed older street seat
  none : NoneHold (move_reasons setup rules older (street, due) (TheSeat seat) event)
  place : resolved_by setup older street (TheSeat seat) event ≡ Moved move

told_fits : (setup : Setup) (rules : Rules) (placed : List Place) (older : List Move) (due : Due) (event : Said) (move : Move) (seat : ℕ) → nat_le (live_count setup older) 1 ≡ false → IsMoveSaid event → move.seat ≡ seat → Told setup rules placed older due event move move.street seat → FitsMove setup rules placed older move
told_fits setup rules placed older due event move seat several is mine told =
    let P : ℕ → Type 0 = Told setup rules placed older due event move move.street in
    let it = subst P (sym mine) told in
    record { several = several; due = due; is_due = it.is_due; event = event; is_move = is; in_turn = it.in_turn; none = it.none; place = it.place }

fits_seat : (setup : Setup) (rules : Rules) (placed : List Place) (older : List Move) (street : ℕ) (due : Due) (event : Said) (seat : ℕ) → nat_le (live_count setup older) 1 ≡ false → IsMoveSaid event → IsBetDue setup older street due → IsPlayerToAct setup placed older street seat → NoneHold (move_reasons setup rules older (street, due) (TheSeat seat) event) → FitsIf setup rules placed older (resolved_by setup older street (TheSeat seat) event)
fits_seat setup rules placed older street due _ seat several (fold_said named) is_due in_turn none =
    told_fits setup rules placed older due (said.Fold named) _ seat several (fold_said named) (same_actor setup older named seat none.1.1.0) (record { is_due = is_due; in_turn = in_turn; none = none; place = refl })
fits_seat setup rules placed older street due _ seat several (call_said named stated) is_due in_turn none =
    told_fits setup rules placed older due (said.Call named stated) _ seat several (call_said named stated) (same_actor setup older named seat none.1.1.0) (record { is_due = is_due; in_turn = in_turn; none = none; place = refl })
fits_seat setup rules placed older street due _ seat several (raise_said named amount) is_due in_turn none =
    told_fits setup rules placed older due (said.Raise named amount) _ seat several (raise_said named amount) (same_actor setup older named seat none.1.1.0) (record { is_due = is_due; in_turn = in_turn; none = none; place = refl })
fits_seat setup rules placed older street due _ seat several (bring_said named) is_due in_turn none =
    told_fits setup rules placed older due (said.BringIn named) _ seat several (bring_said named) (same_actor setup older named seat none.1.1.0) (record { is_due = is_due; in_turn = in_turn; none = none; place = refl })

able_live : (setup : Setup) (list : List Move) (seat : ℕ) → can_act setup list seat ≡ true → is_live list seat ≡ true
able_live setup list seat is = (and_parts (is_live list seat) (nat_lt 0 (chips_left setup list seat)) is).0

-- a legal move fits
pub fit_move : (setup : Setup) (rules : Rules) (events : List Said) (event : Said) → HavePlayersToAct setup rules → MovesLaw setup rules (places_of setup.code (past_of setup events)) (moves_of (past_of setup events)) → AreLegal setup rules events → why setup rules (past_of setup events) event ≡ None → IsMoveSaid event → ((street : ℕ) → nat_le (live_count setup (moves_of (past_of setup events))) 1 ≡ false) → is_due_kind setup.code (turn setup (past_of setup events)).1 event ≡ true → FitsIf setup rules (places_of setup.code (past_of setup events)) (moves_of (past_of setup events)) (resolved_on setup (past_of setup events) (turn setup (past_of setup events)).0 event)
fit_move setup rules events event movers law legal_before legal is several kind = by_turn (player_to_act setup (up_cards setup.code (past_of setup events)) (moves_of (past_of setup events)) (turn setup (past_of setup events)).0) refl
  where
    before : Past
    before = past_of setup events

    at : ℕ
    at = (turn setup (past_of setup events)).0

    due : IsBetDue setup (moves_of (past_of setup events)) (turn setup (past_of setup events)).0 (turn setup (past_of setup events)).1
    due =
        let moving = move_kind setup (turn setup (past_of setup events)).1 event is kind in
        bet_of setup (past_of setup events) (turn setup (past_of setup events)).0 (turn setup (past_of setup events)).1 (unfinished_due setup (past_of setup events) (turn setup (past_of setup events)).1 refl (bet_unfinished (turn setup (past_of setup events)).1 moving)) moving

    by_turn : (t : InTurn) → player_to_act setup (up_cards setup.code (past_of setup events)) (moves_of (past_of setup events)) (turn setup (past_of setup events)).0 ≡ t → FitsIf setup rules (places_of setup.code (past_of setup events)) (moves_of (past_of setup events)) (resolved_by setup (moves_of (past_of setup events)) (turn setup (past_of setup events)).0 (player_to_act setup (up_cards setup.code (past_of setup events)) (moves_of (past_of setup events)) (turn setup (past_of setup events)).0) event)
    by_turn NoSeat same = absurd (movers (places_of setup.code (past_of setup events)) (moves_of (past_of setup events)) (up_cards setup.code (past_of setup events)) (turn setup (past_of setup events)).0 (turn setup (past_of setup events)).1 law due same)
    by_turn Undecided same =
        let P : InTurn → Type 0 = λ t. NoneHold (move_reasons setup rules (moves_of (past_of setup events)) (turn setup (past_of setup events)) t event) in
        let none = subst P same (none_hold (move_reasons setup rules (moves_of (past_of setup events)) (turn setup (past_of setup events)) (player_to_act setup (up_cards setup.code (past_of setup events)) (moves_of (past_of setup events)) (turn setup (past_of setup events)).0) event) (sym (why_move setup rules (past_of setup events) event is) ∙ legal)) in
        false_true (sym none.1.1.1.1.1.1.0)
    by_turn (TheSeat seat) same =
        let P : InTurn → Type 0 = λ t. NoneHold (move_reasons setup rules (moves_of (past_of setup events)) (turn setup (past_of setup events)) t event) in
        let none = subst P same (none_hold (move_reasons setup rules (moves_of (past_of setup events)) (turn setup (past_of setup events)) (player_to_act setup (up_cards setup.code (past_of setup events)) (moves_of (past_of setup events)) (turn setup (past_of setup events)).0) event) (sym (why_move setup rules (past_of setup events) event is) ∙ legal)) in
        let it = legal_past setup rules events legal_before in
        let come = turn_reaches setup (past_of setup events) it.past.within in
        let ups : SameUps setup (moves_of (past_of setup events)) (ups_by setup.code (places_of setup.code (past_of setup events)) (turn setup (past_of setup events)).0) (up_cards setup.code (past_of setup events)) =
        λ other least most able. ups_now setup (past_of setup events) (turn setup (past_of setup events)).0 other it.past it.places come.on (drew setup rules events legal_before) (able_live setup (moves_of (past_of setup events)) other able) in
        let in_turn = is_player_to_act setup (places_of setup.code (past_of setup events)) (up_cards setup.code (past_of setup events)) (moves_of (past_of setup events)) (turn setup (past_of setup events)).0 seat ups same in
        let Q : InTurn → Type 0 = λ t. FitsIf setup rules (places_of setup.code (past_of setup events)) (moves_of (past_of setup events)) (resolved_by setup (moves_of (past_of setup events)) (turn setup (past_of setup events)).0 t event) in
        subst Q (sym same) (fits_seat setup rules (places_of setup.code (past_of setup events)) (moves_of (past_of setup events)) (turn setup (past_of setup events)).0 (turn setup (past_of setup events)).1 event seat (several (turn setup (past_of setup events)).0) is due in_turn none)

-- one more event
are_before : (newest street : ℕ) (list : List Move) → AreReached newest list → newest ≤ street → has_move street list ≡ false → AreBefore street list
are_before newest street [] reached on none = tt
are_before newest street (move ∷ rest) reached on none =
    let parts = or_parts (move.street == street) (has_move street rest) none in (
      elim (cases_lt move.street street) [
        | inl less ↦ less
        | inr more ↦ absurd (both_ways (move.street == street) parts.0 (eq-eqb move.street street (omega (arith, more, reached.0, on))))
      ],
      are_before newest street rest reached.1 on parts.1,
    )

-- a legal event keeps the moves fitting
pub moves_step : (setup : Setup) (rules : Rules) (before : Past) (at : ℕ) (event : Resolved) → PastLaw setup before → Reaches setup before at → Stepped setup before at event → MovesLaw setup rules (places_of setup.code before) (moves_of before) → FitsIf setup rules (places_of setup.code before) (moves_of before) event → MovesLaw setup rules (places_of setup.code (event ∷ before)) (moves_of (event ∷ before))
moves_step setup rules before at _ past come (deals seat cards due is some few free) law fits =
    moves_deal setup rules (Some seat) at cards (places_of setup.code before) (moves_of before) (are_before (newest_street before) at (moves_of before) past.moved come.on (unmoved_deal setup before at past due)) law
moves_step setup rules before at _ past come (boards cards due some few free) law fits =
    moves_deal setup rules None at (map (λ card. slots.Known card) cards) (places_of setup.code before) (moves_of before) (are_before (newest_street before) at (moves_of before) past.moved come.on (unmoved_deal setup before at past (inl due))) law
moves_step setup rules before at _ past come (discards seat cards no_deal draw next few free held) law fits =
    moves_sure setup rules (places_of setup.code before) (places_of setup.code (Discarded at seat cards ∷ before)) (moves_of before) (discard_sure at seat cards (places_of setup.code before)) law
moves_step setup rules before at _ past come (shows seat cards may free) law fits =
    moves_sure setup rules (places_of setup.code before) (places_of setup.code (Shown at seat cards ∷ before)) (moves_of before) (show_sure setup.code seat cards (places_of setup.code before)) law
moves_step setup rules before at _ past come (mucks seat may) law fits = law
moves_step setup rules before at _ past come (moves move no_deal no_draw on) law fits = by_fold (is_folding move.act)
  where
    by_fold : (b : Bool) → MovesLaw setup rules (if b then after_fold move.seat (places_of setup.code before) else places_of setup.code before) (move ∷ moves_of before)
    by_fold false = (fits, law)
    by_fold true = moves_sure setup rules (places_of setup.code before) (after_fold move.seat (places_of setup.code before)) (move ∷ moves_of before) (fold_sure move.seat (length (places_of setup.code before)) (places_of setup.code before)) (fits, law)
