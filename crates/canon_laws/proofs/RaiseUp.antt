-- A legal raise does not reduce its seat's chips on the street.
use Rattle.std.proofs.Common.{◌≡◌, ℕ, ◌+◌, ◌≤◌, Bool, true, false, ◌&&◌, ◌||◌, ◌==◌, not, min, nat_le, nat_lt, if◌then◌else◌, List, [], ◌∷◌, None, Some, inl, inr, refl, sym, ap, ◌∙◌, arith, true≢false}
use Rattle.std.specs.List.{list_any}
use Rattle.std.proofs.lemmas.Bool.{and_parts, eqb-true, leb-true, ltb-false, ltb-true, not-false, or_cases}
use Rattle.std.proofs.Math.Nat.{le-max_left}
use Rattle.chip_ledger.specs.Greatest.{greatest}
use Rattle.play_event.proofs.FloorLaws.{above_current_bet, greatest_reaches}
use Rattle.play_event.proofs.ReasonLaws.{none_hold}
use Rattle.play_event.specs.Chips.{all_in, street_chips}
use Rattle.play_event.specs.Due.{turn}
use Rattle.play_event.specs.Laws.{AreLegal, IsInTurn}
use Rattle.play_event.specs.Openers.{InTurn, NoSeat, TheSeat, Undecided}
use Rattle.play_event.specs.MoveReasons.{is_other_seat, is_undecided}
use Rattle.play_event.specs.Past.{Move, Past, moves_of}
use Rattle.play_event.specs.CurrentBet.{full_bet, full_raise, current_bet}
use Rattle.play_event.specs.Reasons.{why}
use Rattle.play_event.specs.Said as said
use Rattle.play_event.specs.Said.{Said}
use Rattle.play_event.specs.Scripts.{past_of}
use Rattle.play_event.specs.Streets.{limit_of, unit}
use Rattle.play_event.specs.Targets.{floor, full_targets, greatest_target_in, is_target_in, pot_ceiling}
use Rattle.play_event.specs.ValidSetup.{IsValid, is_fixed_limit}
use Rattle.play_event.specs.declared.event.Spelled.TheVariants as spelled
use Rattle.play_event.specs.declared.limit.Limit.TheVariants as limits
use Rattle.play_event.specs.declared.limit.Limit.{Limit}
use Rattle.play_event.specs.declared.setup.Reopen.{Reopen}
use Rattle.play_event.specs.declared.setup.Rules.{Rules}
use Rattle.play_event.specs.declared.setup.Setup.{Setup}
use Rattle.play_laws.proofs.MoveKinds.{IsMoveSaid, raise_said}
use Rattle.play_laws.proofs.NamedMoves.{move_reasons, named_in, why_move}
use Rattle.play_laws.specs.Spellings.{in_turn_after}
use Rattle.canon_laws.proofs.PlayerToActSeats.{player_to_act_in_hand}

-- it is the turn of a seat that a legal move names
pub named_in_turn : (setup : Setup) (rules : Rules) (past : Past) (event : Said) (seat : ℕ) → IsMoveSaid event → named_in event ≡ Some seat → why setup rules past event ≡ None → IsInTurn setup past seat
named_in_turn setup rules past event seat is named legal =
    let moves = moves_of past in
    let t = in_turn_after setup past in
    let none = none_hold (move_reasons setup rules moves (turn setup past) t event) (sym (why_move setup rules past event is) ∙ legal) in
    by_turn moves t (sym (ap (λ n. is_other_seat setup moves n t) named) ∙ none.1.1.0) none.1.1.1.1.1.1.0
  where
    by_turn : (moves : List Move) (t : InTurn) → is_other_seat setup moves (Some seat) t ≡ false → is_undecided t ≡ false → t ≡ TheSeat seat
    by_turn moves NoSeat other decided = absurd (true≢false other)
    by_turn moves Undecided other decided = absurd (true≢false decided)
    by_turn moves (TheSeat player_to_act) other decided = ap TheSeat (sym (eqb-true seat player_to_act (not-false (seat == player_to_act) other)))

-- no seat of the hand has more chips on a street than the current bet
within_current_bet : (setup : Setup) (moves : List Move) (street seat : ℕ) → 1 ≤ seat → seat ≤ setup.stacks.seats → street_chips setup moves street seat ≤ current_bet setup moves street
within_current_bet setup moves street seat low high = greatest_reaches (street_chips setup moves street) 1 setup.stacks.seats seat low (omega (arith, high))

-- the full targets in fixed limit are not below the current bet
module _ (the_current_bet the_unit last target : ℕ) where
  abbrev full_raise_targets : Bool → Bool → List ℕ
  full_raise_targets less above = if less then (the_unit ∷ []) else ((the_current_bet + the_unit) ∷ (if above then ((last + the_unit) ∷ []) else []))

  one_of : (less above : Bool) → nat_lt the_current_bet the_unit ≡ less → nat_lt the_current_bet (last + the_unit) ≡ above → list_any (λ full. target == full) (full_raise_targets less above) ≡ true → the_current_bet ≤ target
  one_of true above is over any = elim (or_cases (target == the_unit) false any) [
    | inl here ↦ omega (arith, eqb-true target the_unit here, ltb-true the_current_bet the_unit is)
    | inr none ↦ absurd (true≢false (sym none))
  ]
  one_of false true is over any = elim (or_cases (target == the_current_bet + the_unit) (target == last + the_unit || false) any) [
    | inl here ↦ omega (arith, eqb-true target (the_current_bet + the_unit) here)
    | inr later ↦ elim (or_cases (target == last + the_unit) false later) [
      | inl here ↦ omega (arith, eqb-true target (last + the_unit) here, ltb-true the_current_bet (last + the_unit) over)
      | inr none ↦ absurd (true≢false (sym none))
    ]
  ]
  one_of false false is over any = elim (or_cases (target == the_current_bet + the_unit) false any) [
    | inl here ↦ omega (arith, eqb-true target (the_current_bet + the_unit) here)
    | inr none ↦ absurd (true≢false (sym none))
  ]

  most_of : (less above : Bool) → nat_lt the_current_bet the_unit ≡ less → the_current_bet ≤ greatest (full_raise_targets less above)
  most_of true above is = omega (arith, ltb-true the_current_bet the_unit is)
  most_of false true is = omega arith
  most_of false false is = omega arith

-- a target that is not refused does not reduce its seat's chips on the street
goes_up : (limit : Limit) (reopen : Reopen) (setup : Setup) (moves : List Move) (street seat target : ℕ) → street_chips setup moves street seat ≤ current_bet setup moves street
    → (is_fixed_limit limit ≡ false → current_bet setup moves street ≤ floor reopen setup moves street)
    → (legal : Bool) → is_target_in limit reopen setup moves street seat target ≡ legal
    → (not legal && nat_lt target (greatest_target_in limit setup moves street seat)) ≡ false
    → street_chips setup moves street seat ≤ target
goes_up limits.No reopen setup moves street seat target low above true is below = elim (or_cases (nat_le (floor reopen setup moves street) target && nat_le target (all_in setup moves street seat)) (target == all_in setup moves street seat) is) [
  | inl within ↦ omega (arith, low, above refl, leb-true (floor reopen setup moves street) target (and_parts (nat_le (floor reopen setup moves street) target) (nat_le target (all_in setup moves street seat)) within).0)
  | inr all ↦ omega (arith, eqb-true target (all_in setup moves street seat) all)
]
goes_up limits.No reopen setup moves street seat target low above false is below = omega (arith, ltb-false target (all_in setup moves street seat) below)
goes_up limits.Pot reopen setup moves street seat target low above true is below =
    let least = current_bet setup moves street + full_raise setup moves street in
    let most = min (all_in setup moves street seat) (pot_ceiling setup moves street seat) in
    elim (or_cases (nat_le least target && nat_le target most) ((target == all_in setup moves street seat) && nat_le target (pot_ceiling setup moves street seat)) is) [
      | inl within ↦ omega (arith, low, leb-true least target (and_parts (nat_le least target) (nat_le target most) within).0)
      | inr all ↦ omega (arith, eqb-true target (all_in setup moves street seat) (and_parts (target == all_in setup moves street seat) (nat_le target (pot_ceiling setup moves street seat)) all).0)
    ]
goes_up limits.Pot reopen setup moves street seat target low above false is below =
    omega (
      arith,
      low,
      ltb-false target (min (all_in setup moves street seat) (pot_ceiling setup moves street seat)) below,
      le-max_left (current_bet setup moves street + full_raise setup moves street) (pot_ceiling setup moves street seat),
    )
goes_up limits.Fixed reopen setup moves street seat target low above true is below =
    let fits = list_any (λ full. target == full) (full_targets setup moves street) in
    let the_current_bet = current_bet setup moves street in
    let the_unit = unit setup street in
    let last = full_bet setup moves street in
    elim (or_cases (fits && nat_le target (all_in setup moves street seat)) ((target == all_in setup moves street seat) && nat_lt target (greatest (full_targets setup moves street))) is) [
      | inl within ↦ omega (arith, low, one_of the_current_bet the_unit last target (nat_lt the_current_bet the_unit) (nat_lt the_current_bet (last + the_unit)) refl refl (and_parts fits (nat_le target (all_in setup moves street seat)) within).0)
      | inr all ↦ omega (arith, eqb-true target (all_in setup moves street seat) (and_parts (target == all_in setup moves street seat) (nat_lt target (greatest (full_targets setup moves street))) all).0)
    ]
goes_up limits.Fixed reopen setup moves street seat target low above false is below =
    let the_current_bet = current_bet setup moves street in
    let the_unit = unit setup street in
    let last = full_bet setup moves street in
    omega (
      arith,
      low,
      ltb-false target (min (all_in setup moves street seat) (greatest (full_targets setup moves street))) below,
      most_of the_current_bet the_unit last target (nat_lt the_current_bet the_unit) (nat_lt the_current_bet (last + the_unit)) refl,
    )

-- a legal raise increases its seat's chips
pub raise_up : (setup : Setup) (rules : Rules) (events : List Said) (seat target : ℕ) → IsValid setup → AreLegal setup rules events
    → why setup rules (past_of setup events) (said.Raise (Some seat) (spelled.To target)) ≡ None → street_chips setup (moves_of (past_of setup events)) (turn setup (past_of setup events)).0 seat ≤ target
raise_up setup rules events seat target valid legal_before legal =
    let past = past_of setup events in
    let moves = moves_of past in
    let street = (turn setup past).0 in
    let event = said.Raise (Some seat) (spelled.To target) in
    let none = none_hold (move_reasons setup rules moves (turn setup past) (in_turn_after setup past) event) (sym (why_move setup rules past event (raise_said (Some seat) (spelled.To target))) ∙ legal) in
    let in_hand = player_to_act_in_hand setup _ moves street seat (named_in_turn setup rules past event seat (raise_said (Some seat) (spelled.To target)) refl legal) in
    let below = none.1.1.1.1.1.1.1.1.1.0 in
    goes_up (limit_of setup.code) rules.reopen setup moves street seat target (within_current_bet setup moves street seat in_hand.first in_hand.last)
    (λ unfixed. omega (arith, above_current_bet setup rules events valid unfixed legal_before rules.reopen street))
    (is_target_in (limit_of setup.code) rules.reopen setup moves street seat target) refl below
