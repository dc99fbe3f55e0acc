-- The ends of the targets that the betting gives are the lowest and the highest target of the
-- rules.
use Rattle.std.proofs.Common.{◌≡◌, ℕ, Bool, true, false, ◌&&◌, if◌then◌else◌, List, Option, Some, None, IfSome, is_some, sym, refl, ap, ◌∙◌, arith}
use Rattle.play_event.specs.declared.setup.Rules.{Rules}
use Rattle.play_event.specs.declared.setup.Setup.{Setup}
use Rattle.play_event.specs.PlayerToAct.{player_to_act}
use Rattle.play_event.specs.Openers.{TheSeat}
use Rattle.play_event.specs.Past.{Move, Past, moves_of}
use Rattle.play_event.specs.Raising.{may_raise}
use Rattle.play_event.specs.Table.{up_cards}
use Rattle.play_event.specs.Targets.{greatest_target, least_target}
use Rattle.play_event.specs.TurnTargets.{AreTargets, has_targets, has_targets_at, is_bet_due, may_raise_now}
use Rattle.play_event.proofs.TargetLaws.{targets_end}
use Rattle.card_set.proofs.Tests.{false_true}
use Rattle.betting_numbers.specs.declared.betting_state.BettingState.{BettingState}
use Rattle.betting_numbers.specs.declared.targeting.Targets.{Targets}
use Rattle.betting_numbers.specs.LegalMoves.{IsTurn}
use Rattle.betting_numbers.specs.Standing.{StandsFor}
use Rattle.betting_numbers.specs.Targeted.{AreEndsFor}
use Rattle.hand_gen.specs.Coming.{ends_of}
use Rattle.hand_gen.specs.Seen.{ends_said}

-- the ends of the targets are what they are
one_least : (setup : Setup) (rules : Rules) (moves : List Move) (street seat least greatest all : ℕ) → AreTargets setup rules moves street seat least greatest all → least ≡ least_target rules.reopen setup moves street seat
one_least setup rules moves street seat least greatest all ends =
    let other = targets_end setup rules moves street seat in
    omega (arith, (other.within least ends.least_legal).0, (ends.within (least_target rules.reopen setup moves street seat) other.least_legal).0)

one_greatest : (setup : Setup) (rules : Rules) (moves : List Move) (street seat least greatest all : ℕ) → AreTargets setup rules moves street seat least greatest all → greatest ≡ greatest_target setup moves street seat
one_greatest setup rules moves street seat least greatest all ends =
    let other = targets_end setup rules moves street seat in
    omega (arith, (other.within greatest ends.greatest_legal).1, (ends.within (greatest_target setup moves street seat) other.greatest_legal).1)

-- the player to act has targets if it may raise
has_targets_is : (b : BettingState) (past : Past) (seat : ℕ) → StandsFor b past → is_bet_due b.due ≡ true → IsTurn b past (TheSeat seat) → has_targets b.setup b.rules past ≡ may_raise b.setup b.rules (moves_of past) b.street seat
has_targets_is b past seat stands bets turned =
    ap (has_targets_at b.setup b.rules past) stands.turn_is
    ∙ ap (λ (t : Bool). t && may_raise_now b.setup b.rules (moves_of past) b.street (player_to_act b.setup (up_cards b.setup.code past) (moves_of past) b.street)) bets
    ∙ ap (may_raise_now b.setup b.rules (moves_of past) b.street) (sym turned)

told : (b : BettingState) (past : Past) (seat : ℕ) (found : Option Targets) (may : Bool) → may_raise b.setup b.rules (moves_of past) b.street seat ≡ may → is_some found ≡ may → IfSome found (AreEndsFor b (moves_of past) seat)
    → ends_said found ≡ (if may then Some (least_target b.rules.reopen b.setup (moves_of past) b.street seat, greatest_target b.setup (moves_of past) b.street seat) else None)
told b past seat None true is some ends = false_true some
told b past seat None false is some ends = refl
told b past seat (Some targets) false is some ends = false_true (sym some)
told b past seat (Some targets) true is some ends =
    ap (λ n. Some (n, targets.greatest)) (one_least b.setup b.rules (moves_of past) b.street seat targets.least targets.greatest targets.all_in ends)
    ∙ ap (λ n. Some (least_target b.rules.reopen b.setup (moves_of past) b.street seat, n)) (one_greatest b.setup b.rules (moves_of past) b.street seat targets.least targets.greatest targets.all_in ends)

-- the ends that the betting gives are those of the rules
pub ends_are : (b : BettingState) (past : Past) (seat : ℕ) (found : Option Targets) → StandsFor b past → is_bet_due b.due ≡ true → IsTurn b past (TheSeat seat) → is_some found ≡ has_targets b.setup b.rules past
    → IfSome found (λ targets. (seat : ℕ) → IsTurn b past (TheSeat seat) → AreEndsFor b (moves_of past) seat targets)
    → ends_said found ≡ ends_of b.setup b.rules (moves_of past) b.street seat
ends_are b past seat found stands bets turned some ends =
    told b past seat found (may_raise b.setup b.rules (moves_of past) b.street seat) refl (some ∙ has_targets_is b past seat stands bets turned) (only found ends)
  where
    only : (found : Option Targets) → IfSome found (λ targets. (seat : ℕ) → IsTurn b past (TheSeat seat) → AreEndsFor b (moves_of past) seat targets) → IfSome found (AreEndsFor b (moves_of past) seat)
    only None all = tt
    only (Some targets) all = all seat turned
