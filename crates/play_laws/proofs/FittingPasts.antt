-- The moves of every legal past fit, by induction over its events.
use Rattle.std.proofs.Common.{◌≡◌, ◌≢◌, ℕ, ◌≤◌, Bool, true, false, ◌&&◌, ◌||◌, ◌==◌, not, nat_lt, nat_le, inl, inr, None, List, [], ◌∷◌, refl, sym, ◌∙◌, ap, arith, if◌then◌else◌}
use Rattle.std.specs.List.{list_any}
use Rattle.std.proofs.lemmas.Bool.{or_parts, or_right, or_from, and_parts, and_from, both_ways, cases_Bool, eq-eqb, eqb-true, leb-true, le-leb, false_from_ne_true, not-true, not_from_false}
use Rattle.std.proofs.lemmas.List.Sums.{length-filter}
use Rattle.play_event.specs.declared.reason.Due.{Due}
use Rattle.play_event.specs.declared.reason.Due.TheVariants as dues
use Rattle.play_event.specs.declared.setup.Setup.{Setup}
use Rattle.play_event.specs.declared.setup.Rules.{Rules}
use Rattle.play_event.specs.Streets.{is_stud_game}
use Rattle.play_event.specs.Said as said
use Rattle.play_event.specs.Said.{Said}
use Rattle.play_event.specs.Past.{Past, Resolved, Move, Moved, moves_of, moves_on, Discarded, Shown, Dealt, Mucked, Boarded}
use Rattle.play_event.specs.Seats.{can_act, all_seats, able_count, live_count}
use Rattle.play_event.specs.CurrentBet.{to_call, current_bet}
use Rattle.play_event.specs.Due.{turn, has_to_move, has_acted_since_raise, is_bring_in_due, has_opened_betting}
use Rattle.play_event.specs.Openers.{InTurn, TheSeat}
use Rattle.play_event.specs.Table.{places_of}
use Rattle.play_event.specs.Places.{Place}
use Rattle.play_event.specs.Reasons.{why, is_due_kind}
use Rattle.play_event.specs.Scripts.{with_event, past_of, resolved_on, resolved_by}
use Rattle.play_event.specs.Laws.{AreLegal}
use Rattle.card_set.proofs.Tests.{and_group, false_true}
use Rattle.play_event.proofs.ReasonLaws.{no_reason_holds}
use Rattle.play_laws.specs.PastLaws.{has_move}
use Rattle.play_laws.proofs.ClosedBetting.{able_fewer, other_moves}
use Rattle.play_laws.proofs.MoveKinds.{IsMoveSaid, fold_said, call_said, raise_said, bring_said}
use Rattle.play_laws.proofs.MovesLaw.{IsBetDue, bring_first, move_now, FitsMove, MovesLaw}
use Rattle.play_laws.proofs.LegalEvents.{stepped}
use Rattle.play_laws.proofs.DueAtEvents.{turn_reaches}
use Rattle.play_laws.proofs.LegalPlaces.{legal_past}
use Rattle.play_laws.proofs.DonePasts.{several_now}
use Rattle.play_laws.proofs.FittingSteps.{HavePlayersToAct, FitsIf, fit_move, moves_step}
use Rattle.play_laws.proofs.PlayersToAct.{player_to_act_found}
use Rattle.play_event.proofs.FloorLaws.{may_come_by}
use Rattle.card_set.proofs.Any.{any_from_length, list_any-weaker}

-- a bring-in is due only before any move of the first street
record IsBring (setup : Setup) (list : List Move) (street : ℕ) : Type 0 where
  stud : is_stud_game setup.code ≡ true
  first : street ≡ 1
  two : 2 ≤ able_count setup list
  unopened : list_any (λ (move : Move). has_opened_betting move.act) (moves_on street list) ≡ false

bring_parts : (setup : Setup) (list : List Move) (street : ℕ) → is_bring_in_due setup list street ≡ true → IsBring setup list street
bring_parts setup list street is =
    let opened : Bool = list_any (λ (move : Move). has_opened_betting move.act) (moves_on street list) in
    let all = and_parts (is_stud_game setup.code && (street == 1)) (nat_le 2 (able_count setup list) && not opened) (sym (and_group (is_stud_game setup.code) (street == 1) (nat_le 2 (able_count setup list)) (not opened)) ∙ is) in
    let one = and_parts (is_stud_game setup.code) (street == 1) all.0 in
    let two = and_parts (nat_le 2 (able_count setup list)) (not opened) all.1 in
    record { stud = one.0; first = eqb-true street 1 one.1; two = leb-true 2 (able_count setup list) two.0; unopened = not-true opened two.1 }

bring_from : (setup : Setup) (list : List Move) (street : ℕ) → IsBring setup list street → is_bring_in_due setup list street ≡ true
bring_from setup list street is =
    let opened : Bool = list_any (λ (move : Move). has_opened_betting move.act) (moves_on street list) in
    and_group (is_stud_game setup.code) (street == 1) (nat_le 2 (able_count setup list)) (not opened)
    ∙ and_from (is_stud_game setup.code && (street == 1)) (nat_le 2 (able_count setup list) && not opened)
    (and_from (is_stud_game setup.code) (street == 1) is.stud (eq-eqb street 1 is.first))
    (and_from (nat_le 2 (able_count setup list)) (not opened) (le-leb 2 (able_count setup list) is.two) (not_from_false opened is.unopened))

made_act : (setup : Setup) (older : List Move) (street : ℕ) (turn_is : InTurn) (event : Said) (move : Move) → IsMoveSaid event → is_due_kind setup.code dues.BringIn event ≡ true → resolved_by setup older street turn_is event ≡ Moved move → has_opened_betting move.act ≡ true
made_act setup older street turn_is _ move (fold_said named) kind is = false_true kind
made_act setup older street turn_is _ move (call_said named stated) kind is = false_true kind
made_act setup older street turn_is _ move (raise_said named amount) kind is = sym (ap acts is)
  where
    acts : Resolved → Bool
    acts event = elim event [ Moved m ↦ has_opened_betting m.act | Dealt s o c ↦ true | Boarded s c ↦ true | Discarded s o c ↦ true | Shown s o c ↦ true | Mucked s o ↦ true ]
made_act setup older street turn_is _ move (bring_said named) kind is = sym (ap acts is)
  where
    acts : Resolved → Bool
    acts event = elim event [ Moved m ↦ has_opened_betting m.act | Dealt s o c ↦ true | Boarded s c ↦ true | Discarded s o c ↦ true | Shown s o c ↦ true | Mucked s o ↦ true ]

-- on the first street of a hand in which a bring-in was due, every move puts chips in
opened_by : (setup : Setup) (rules : Rules) (placed : List Place) (older : List Move) (move : Move) (due : Due) (fits : FitsMove setup rules placed older move) → fits.due ≡ due → IsBetDue setup older move.street due → is_bring_in_due setup older move.street ≡ true → has_opened_betting move.act ≡ true
opened_by setup rules placed older move _ fits same (move_now no_bring so) bring = false_true (sym no_bring ∙ bring)
opened_by setup rules placed older move _ fits same (bring_first so) bring =
    made_act setup older move.street (TheSeat move.seat) fits.event move fits.is_move
    (ap (λ d. is_due_kind setup.code d fits.event) (sym same) ∙ may_come_by (is_due_kind setup.code fits.due fits.event) false (or_false fits.none.1.0)) fits.place
  where
    or_false : not (is_due_kind setup.code fits.due fits.event || false) ≡ false → not (is_due_kind setup.code fits.due fits.event || (false && false)) ≡ false
    or_false is = is

no_first : (setup : Setup) (rules : Rules) (placed : List Place) (list : List Move) (street : ℕ) → MovesLaw setup rules placed list → IsBring setup list street → has_move street list ≡ false
no_first setup rules placed [] street law bring = refl
no_first setup rules placed (move ∷ older) street law bring = elim (cases_Bool (move.street == street)) [
  | inr other ↦
      let differ : move.street ≢ street = λ same. both_ways (move.street == street) other (eq-eqb move.street street same) in
      let before : IsBring setup older street = record { stud = bring.stud; first = bring.first; two = omega (arith, bring.two, able_fewer setup move older); unopened = sym (ap (λ l. list_any (λ (m : Move). has_opened_betting m.act) l) (other_moves move older street differ)) ∙ bring.unopened } in
      or_from (move.street == street) (has_move street older) other (no_first setup rules placed older street law.1 before)
  | inl here ↦
      let same : move.street ≡ street = eqb-true move.street street here in
      let split = or_parts (has_opened_betting move.act) (list_any (λ (m : Move). has_opened_betting m.act) (moves_on street older)) (sym (ap (λ b. list_any (λ (m : Move). has_opened_betting m.act) (if b then (move ∷ moves_on street older) else moves_on street older)) here) ∙ bring.unopened) in
      let before : IsBring setup older street = record { stud = bring.stud; first = bring.first; two = omega (arith, bring.two, able_fewer setup move older); unopened = split.1 } in
      let due : is_bring_in_due setup older move.street ≡ true = ap (is_bring_in_due setup older) same ∙ bring_from setup older street before in
      absurd (both_ways (has_opened_betting move.act) split.0 (opened_by setup rules placed older move law.0.due law.0 refl law.0.is_due due))
]

-- nobody has moved there
none_moved : (setup : Setup) (list : List Move) (street seat : ℕ) → has_move street list ≡ false → has_acted_since_raise setup list street seat ≡ false
none_moved setup [] street seat none = refl
none_moved setup (move ∷ older) street seat none =
    let parts = or_parts (move.street == street) (has_move street older) none in
    ap (λ b. if b then ((move.seat == seat) || (nat_le move.to (current_bet setup older street) && has_acted_since_raise setup older street seat)) else has_acted_since_raise setup older street seat) parts.0
    ∙ none_moved setup older street seat parts.1

to_bring : (setup : Setup) (rules : Rules) (placed : List Place) (list : List Move) (street : ℕ) → MovesLaw setup rules placed list → is_bring_in_due setup list street ≡ true → list_any (has_to_move setup list street) (all_seats setup) ≡ true
to_bring setup rules placed list street law is =
    let bring = bring_parts setup list street is in
    let none = no_first setup rules placed list street law bring in
    list_any-weaker (can_act setup list) (has_to_move setup list street)
    (λ seat able. and_from (can_act setup list seat) (if has_acted_since_raise setup list street seat then false else (nat_lt 0 (to_call setup list street seat) || nat_le 2 (able_count setup list))) able
    (ap (λ b. if b then false else (nat_lt 0 (to_call setup list street seat) || nat_le 2 (able_count setup list))) (none_moved setup list street seat none)
    ∙ or_right (nat_lt 0 (to_call setup list street seat)) (nat_le 2 (able_count setup list)) (le-leb 2 (able_count setup list) bring.two)))
    (all_seats setup)
    (any_from_length (can_act setup list) (all_seats setup) (omega (arith, bring.two, length-filter (can_act setup list) (all_seats setup))))

-- if a bring-in or a move is due it is some seat's turn, or it is not known whose
pub has_movers : (setup : Setup) (rules : Rules) → HavePlayersToAct setup rules
has_movers setup rules placed list ups street _ law (bring_first so) = player_to_act_found setup ups list street (to_bring setup rules placed list street law so)
has_movers setup rules placed list ups street _ law (move_now no_bring so) = player_to_act_found setup ups list street so

-- the moves of a legal past
some_now : (setup : Setup) (rules : Rules) (before : Past) (event : Said) → why setup rules before event ≡ None → IsMoveSaid event → (street : ℕ) → nat_le (live_count setup (moves_of before)) 1 ≡ false
some_now setup rules before _ legal (fold_said named) street = false_from_ne_true (nat_le (live_count setup (moves_of before)) 1) (λ one. several_now setup rules before (turn setup before).0 (said.Fold named) legal one (eq-eqb (turn setup before).0 (turn setup before).0 refl))
some_now setup rules before _ legal (call_said named stated) street = false_from_ne_true (nat_le (live_count setup (moves_of before)) 1) (λ one. several_now setup rules before (turn setup before).0 (said.Call named stated) legal one (eq-eqb (turn setup before).0 (turn setup before).0 refl))
some_now setup rules before _ legal (raise_said named amount) street = false_from_ne_true (nat_le (live_count setup (moves_of before)) 1) (λ one. several_now setup rules before (turn setup before).0 (said.Raise named amount) legal one (eq-eqb (turn setup before).0 (turn setup before).0 refl))
some_now setup rules before _ legal (bring_said named) street = false_from_ne_true (nat_le (live_count setup (moves_of before)) 1) (λ one. several_now setup rules before (turn setup before).0 (said.BringIn named) legal one (eq-eqb (turn setup before).0 (turn setup before).0 refl))

kind_now : (setup : Setup) (rules : Rules) (before : Past) (event : Said) → why setup rules before event ≡ None → IsMoveSaid event → is_due_kind setup.code (turn setup before).1 event ≡ true
kind_now setup rules before _ legal (fold_said named) = may_come_by (is_due_kind setup.code (turn setup before).1 (said.Fold named)) false (no_reason_holds setup rules before (said.Fold named) legal).1.0
kind_now setup rules before _ legal (call_said named stated) = may_come_by (is_due_kind setup.code (turn setup before).1 (said.Call named stated)) false (no_reason_holds setup rules before (said.Call named stated) legal).1.0
kind_now setup rules before _ legal (raise_said named amount) = may_come_by (is_due_kind setup.code (turn setup before).1 (said.Raise named amount)) false (no_reason_holds setup rules before (said.Raise named amount) legal).1.0
kind_now setup rules before _ legal (bring_said named) = may_come_by (is_due_kind setup.code (turn setup before).1 (said.BringIn named)) false (no_reason_holds setup rules before (said.BringIn named) legal).1.0

fit_if : (setup : Setup) (rules : Rules) (events : List Said) (event : Said) → MovesLaw setup rules (places_of setup.code (past_of setup events)) (moves_of (past_of setup events)) → AreLegal setup rules events → why setup rules (past_of setup events) event ≡ None → FitsIf setup rules (places_of setup.code (past_of setup events)) (moves_of (past_of setup events)) (resolved_on setup (past_of setup events) (turn setup (past_of setup events)).0 event)
fit_if setup rules events (said.Hole seat cards) law legal_before legal = tt
fit_if setup rules events (said.Board cards) law legal_before legal = tt
fit_if setup rules events (said.Discard seat cards) law legal_before legal = tt
fit_if setup rules events (said.Show seat cards) law legal_before legal = tt
fit_if setup rules events (said.Muck seat) law legal_before legal = tt
fit_if setup rules events (said.Fold named) law legal_before legal = fit_move setup rules events (said.Fold named) (has_movers setup rules) law legal_before legal (fold_said named) (some_now setup rules (past_of setup events) (said.Fold named) legal (fold_said named)) (kind_now setup rules (past_of setup events) (said.Fold named) legal (fold_said named))
fit_if setup rules events (said.Call named stated) law legal_before legal = fit_move setup rules events (said.Call named stated) (has_movers setup rules) law legal_before legal (call_said named stated) (some_now setup rules (past_of setup events) (said.Call named stated) legal (call_said named stated)) (kind_now setup rules (past_of setup events) (said.Call named stated) legal (call_said named stated))
fit_if setup rules events (said.Raise named amount) law legal_before legal = fit_move setup rules events (said.Raise named amount) (has_movers setup rules) law legal_before legal (raise_said named amount) (some_now setup rules (past_of setup events) (said.Raise named amount) legal (raise_said named amount)) (kind_now setup rules (past_of setup events) (said.Raise named amount) legal (raise_said named amount))
fit_if setup rules events (said.BringIn named) law legal_before legal = fit_move setup rules events (said.BringIn named) (has_movers setup rules) law legal_before legal (bring_said named) (some_now setup rules (past_of setup events) (said.BringIn named) legal (bring_said named)) (kind_now setup rules (past_of setup events) (said.BringIn named) legal (bring_said named))

-- after legal events all moves fit
pub legal_moves : (setup : Setup) (rules : Rules) (events : List Said) → AreLegal setup rules events → MovesLaw setup rules (places_of setup.code (past_of setup events)) (moves_of (past_of setup events))
unfolding with_event
legal_moves setup rules [] legal = tt
legal_moves setup rules (event ∷ events) legal =
    let before = past_of setup events in
    let law = legal_moves setup rules events legal.1 in
    let it = legal_past setup rules events legal.1 in
    moves_step setup rules before (turn setup before).0 _ it.past (turn_reaches setup before it.past.within) (stepped setup rules before event legal.0) law (fit_if setup rules events event law legal.1 legal.0)
