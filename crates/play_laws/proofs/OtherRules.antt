-- A play that is legal under the rules of one notation is legal under those of another if each of
-- its moves suits these.
use Rattle.std.proofs.Common.{◌≡◌, ℕ, ◌+◌, ◌-◌, ◌≤◌, Bool, true, false, ◌&&◌, ◌==◌, not, nat_le, nat_lt, inl, inr, None, List, [], ◌∷◌, refl, sym, ◌∙◌, ap, arith}
use Rattle.std.proofs.lemmas.Bool.{and_from, and_parts, le-leb, leb-true, ne_eqb, not-false, not_from_true, or_cases, or_left, or_parts, or_right}
use Rattle.play_event.specs.Due.{turn}
use Rattle.play_event.specs.Laws.{AreLegal, NoneHold}
use Rattle.play_event.specs.MoveReasons.{actor_of}
use Rattle.play_event.specs.Past.{Boarded, Dealt, Discarded, Move, Moved, Mucked, Past, Resolved, Shown, is_folding, is_raising, moves_of}
use Rattle.play_event.specs.CurrentBet.{full_raise, current_bet}
use Rattle.play_event.specs.Raising.{has_able_opponent, is_closed, is_reopened, is_within_cap}
use Rattle.play_event.specs.Reasons.{why}
use Rattle.play_event.specs.Said as said
use Rattle.play_event.specs.Said.{Said}
use Rattle.play_event.specs.Scripts.{past_of, resolved_on, with_event}
use Rattle.play_event.specs.Streets.{limit_of}
use Rattle.play_event.specs.Chips.{all_in, street_chips}
use Rattle.play_event.specs.Amounts.{raise_target}
use Rattle.play_event.specs.Targets.{floor, greatest_target, is_legal_target, is_target_in}
use Rattle.play_event.specs.ValidSetup.{IsValid, is_fixed_limit}
use Rattle.play_event.specs.declared.limit.Limit.TheVariants as limits
use Rattle.play_event.specs.declared.limit.Limit.{Limit}
use Rattle.play_event.specs.declared.setup.Reopen.TheVariants as reopens
use Rattle.play_event.specs.declared.setup.Reopen.{Reopen}
use Rattle.play_event.specs.declared.setup.Rules.{Rules}
use Rattle.play_event.specs.declared.setup.Setup.{Setup}
use Rattle.play_event.proofs.FloorLaws.{within_full_raise}
use Rattle.play_event.proofs.ReasonLaws.{none_found, none_hold}
use Rattle.card_set.proofs.Tests.{false_true}
use Rattle.play_laws.specs.Spellings.{in_turn_after}
use Rattle.play_laws.proofs.MoveKinds.{fold_said, raise_said}
use Rattle.play_laws.proofs.NamedMoves.{move_reasons, why_move}

-- a move suits rules: if a fold needs a bet to fold to, it has one; a raise is within the caps; and
-- if only full raises reopen the betting, the betting was open to it
pub record IsSuited (others : Rules) (setup : Setup) (older : List Move) (move : Move) : Type 0 where
  pub folds : is_folding move.act ≡ true → others.free_fold ≡ false → nat_le (current_bet setup older move.street) move.from ≡ false
  pub caps : is_raising move.act ≡ true → is_within_cap others.caps older move.street ≡ true
  pub reopens : is_raising move.act ≡ true → others.reopen ≡ reopens.Full → is_closed setup older move.street move.seat move.to ≡ false

-- and so do all moves
abbrev pub AreSuited : Rules → Setup → List Move → Type 0
AreSuited others setup [] = Unit {0}
AreSuited others setup (move ∷ older) = IsSuited others setup older move × AreSuited others setup older

-- an event suits rules if it is no move, or a move that does
abbrev IsSuitedEvent : Rules → Setup → List Move → Resolved → Type 0
IsSuitedEvent others setup older (Moved move) = IsSuited others setup older move
IsSuitedEvent others setup older (Dealt street seat cards) = Unit {0}
IsSuitedEvent others setup older (Boarded street cards) = Unit {0}
IsSuitedEvent others setup older (Discarded street seat cards) = Unit {0}
IsSuitedEvent others setup older (Shown street seat cards) = Unit {0}
IsSuitedEvent others setup older (Mucked street seat) = Unit {0}

event_suited : (others : Rules) (setup : Setup) (event : Resolved) (before : Past) → AreSuited others setup (moves_of (event ∷ before)) → IsSuitedEvent others setup (moves_of before) event × AreSuited others setup (moves_of before)
event_suited others setup (Moved move) before all = all
event_suited others setup (Dealt street seat cards) before all = (tt, all)
event_suited others setup (Boarded street cards) before all = (tt, all)
event_suited others setup (Discarded street seat cards) before all = (tt, all)
event_suited others setup (Shown street seat cards) before all = (tt, all)
event_suited others setup (Mucked street seat) before all = (tt, all)

-- a fold that has a bet to fold to is not a fold with nothing to call
paid : (free : Bool) (current_bet from : ℕ) → (free ≡ false → nat_le current_bet from ≡ false) → (not free && (current_bet - from == 0)) ≡ false
paid true current_bet from pays = refl
paid false current_bet from pays = ne_eqb (current_bet - from) 0 (λ none. false_true (sym (pays refl) ∙ le-leb current_bet from (omega (arith, none))))

-- if betting always reopens, each target is legal that is legal if only full raises reopen it
always_legal : (limit : Limit) (reopen : Reopen) (setup : Setup) (moves : List Move) (street seat target : ℕ) → (is_fixed_limit limit ≡ false → floor reopens.Always setup moves street ≤ current_bet setup moves street + full_raise setup moves street) → is_target_in limit reopen setup moves street seat target ≡ true → is_target_in limit reopens.Always setup moves street seat target ≡ true
always_legal limits.Pot reopen setup moves street seat target low is = is
always_legal limits.Fixed reopen setup moves street seat target low is = is
always_legal limits.No reopens.Always setup moves street seat target low is = is
always_legal limits.No reopens.Full setup moves street seat target low is = elim (or_cases (nat_le (floor reopens.Full setup moves street) target && nat_le target (all_in setup moves street seat)) (target == all_in setup moves street seat) is) [
  | inl within ↦
      let parts = and_parts (nat_le (floor reopens.Full setup moves street) target) (nat_le target (all_in setup moves street seat)) within in
      or_left (nat_le (floor reopens.Always setup moves street) target && nat_le target (all_in setup moves street seat)) (target == all_in setup moves street seat)
      (and_from (nat_le (floor reopens.Always setup moves street) target) (nat_le target (all_in setup moves street seat))
      (le-leb (floor reopens.Always setup moves street) target (omega (arith, low refl, leb-true (current_bet setup moves street + full_raise setup moves street) target parts.0))) parts.1)
  | inr all ↦ or_right (nat_le (floor reopens.Always setup moves street) target && nat_le target (all_in setup moves street seat)) (target == all_in setup moves street seat) all
]

-- what a raise that is not closed is, if only full raises reopen the betting
record IsOpen (reopen : Reopen) (setup : Setup) (moves : List Move) (street seat target : ℕ) (was : Reopen) : Type 0 where
  reopened : is_reopened reopen setup moves street seat ≡ true
  legal : is_legal_target was setup moves street seat target ≡ true → is_legal_target reopen setup moves street seat target ≡ true

is_open : (reopen was : Reopen) (setup : Setup) (moves : List Move) (street seat target : ℕ) → (is_fixed_limit (limit_of setup.code) ≡ false → floor reopens.Always setup moves street ≤ current_bet setup moves street + full_raise setup moves street) → (reopen ≡ reopens.Full → is_closed setup moves street seat target ≡ false) → IsOpen reopen setup moves street seat target was
is_open reopens.Always was setup moves street seat target low unclosed = record {
  reopened = refl;
  legal = always_legal (limit_of setup.code) was setup moves street seat target low;
}
is_open reopens.Full was setup moves street seat target low unclosed =
    let parts = or_parts (not (is_reopened reopens.Full setup moves street seat)) (not (is_legal_target reopens.Full setup moves street seat target)) (unclosed refl) in
    record {
      reopened = not-false (is_reopened reopens.Full setup moves street seat) parts.0;
      legal = λ is. not-false (is_legal_target reopens.Full setup moves street seat target) parts.1;
    }

still_above : (legal legal' below : Bool) → (legal ≡ true → legal' ≡ true) → (not legal && below) ≡ false → (not legal' && below) ≡ false
still_above true legal' below goes is = ap (λ l. not l && below) (goes refl)
still_above false true below goes is = refl
still_above false false below goes is = is

may_still : (opponent above cap cap' free free' : Bool) → not (opponent && above && cap && free) ≡ false → cap' ≡ true → free' ≡ true → not (opponent && above && cap' && free') ≡ false
may_still opponent above cap cap' free free' may is_cap is_open =
    let all = and_parts (opponent && above && cap) free (not-false (opponent && above && cap && free) may) in
    let first = and_parts (opponent && above) cap all.0 in
    not_from_true (opponent && above && cap' && free') (and_from (opponent && above && cap') free' (and_from (opponent && above) cap' first.0 is_cap) is_open)

-- an event that is legal under some rules is legal under others that it suits
legal_again : (setup : Setup) (rules others : Rules) (before : Past) (event : Said)
    → (is_fixed_limit (limit_of setup.code) ≡ false → floor reopens.Always setup (moves_of before) (turn setup before).0 ≤ current_bet setup (moves_of before) (turn setup before).0 + full_raise setup (moves_of before) (turn setup before).0)
    → why setup rules before event ≡ None → IsSuitedEvent others setup (moves_of before) (resolved_on setup before (turn setup before).0 event) → why setup others before event ≡ None
unfolding why
legal_again setup rules others before (said.Hole seat cards) low legal suits = legal
legal_again setup rules others before (said.Board cards) low legal suits = legal
legal_again setup rules others before (said.Call named stated) low legal suits = legal
legal_again setup rules others before (said.BringIn named) low legal suits = legal
legal_again setup rules others before (said.Discard seat cards) low legal suits = legal
legal_again setup rules others before (said.Show seat cards) low legal suits = legal
legal_again setup rules others before (said.Muck seat) low legal suits = legal
legal_again setup rules others before (said.Fold named) low legal suits =
    let moves = moves_of before in
    let now = turn setup before in
    let in_turn = in_turn_after setup before in
    let none = none_hold (move_reasons setup rules moves now in_turn (said.Fold named)) (sym (why_move setup rules before (said.Fold named) (fold_said named)) ∙ legal) in
    let pays = paid others.free_fold (current_bet setup moves now.0) (street_chips setup moves now.0 (actor_of named in_turn)) (suits.folds refl) in
    let again : NoneHold (move_reasons setup others moves now in_turn (said.Fold named)) = (none.0, (none.1.0, (none.1.1.0, (refl, (refl, (refl, (none.1.1.1.1.1.1.0, (pays, (refl, (refl, (refl, (refl, tt)))))))))))) in
    why_move setup others before (said.Fold named) (fold_said named) ∙ none_found (move_reasons setup others moves now in_turn (said.Fold named)) again
legal_again setup rules others before (said.Raise named amount) low legal suits =
    let moves = moves_of before in
    let now = turn setup before in
    let in_turn = in_turn_after setup before in
    let seat = actor_of named in_turn in
    let target = raise_target setup moves now.0 seat amount in
    let none = none_hold (move_reasons setup rules moves now in_turn (said.Raise named amount)) (sym (why_move setup rules before (said.Raise named amount) (raise_said named amount)) ∙ legal) in
    let late = none.1.1.1.1.1.1.1.1 in
    let it = is_open others.reopen rules.reopen setup moves now.0 seat target low (suits.reopens refl) in
    let may = may_still (has_able_opponent setup moves seat) (nat_lt (current_bet setup moves now.0) (all_in setup moves now.0 seat)) (is_within_cap rules.caps moves now.0) (is_within_cap others.caps moves now.0) (is_reopened rules.reopen setup moves now.0 seat) (is_reopened others.reopen setup moves now.0 seat) late.0 (suits.caps refl) it.reopened in
    let above = still_above (is_legal_target rules.reopen setup moves now.0 seat target) (is_legal_target others.reopen setup moves now.0 seat target) (nat_lt target (greatest_target setup moves now.0 seat)) it.legal late.1.0 in
    let again : NoneHold (move_reasons setup others moves now in_turn (said.Raise named amount)) = (none.0, (none.1.0, (none.1.1.0, (refl, (refl, (refl, (none.1.1.1.1.1.1.0, (refl, (may, (above, (late.1.1.0, (refl, tt)))))))))))) in
    why_move setup others before (said.Raise named amount) (raise_said named amount) ∙ none_found (move_reasons setup others moves now in_turn (said.Raise named amount)) again

-- legal events are legal under other rules that their moves suit
pub legal_by : (setup : Setup) (rules others : Rules) (events : List Said) → IsValid setup → AreLegal setup rules events → AreSuited others setup (moves_of (past_of setup events)) → AreLegal setup others events
unfolding with_event
legal_by setup rules others [] valid legal suits = tt
legal_by setup rules others (event ∷ events) valid legal suits =
    let before = past_of setup events in
    let at = (turn setup before).0 in
    let parts = event_suited others setup (resolved_on setup before at event) before suits in (
      legal_again setup rules others before event (λ unfixed. within_full_raise setup rules events valid unfixed legal.1 reopens.Always at) legal.0 parts.0,
      legal_by setup rules others events valid legal.1 parts.1,
    )
