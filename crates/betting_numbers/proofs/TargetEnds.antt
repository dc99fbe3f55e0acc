-- The least and the greatest legal target by the running numbers are those of the rules.
use Rattle.std.proofs.Common.{◌≡◌, ℕ, List, sym, ap, subst, ◌∙◌}
use Rattle.play_event.specs.declared.limit.Limit.{Limit}
use Rattle.play_event.specs.CurrentBet.{starting_bet}
use Rattle.play_event.specs.Streets.{limit_of}
use Rattle.play_event.specs.Past.{Move}
use Rattle.play_event.specs.Openers.{InTurn, NoSeat, TheSeat, Undecided}
use Rattle.play_event.specs.Targets.{least_target, greatest_target}
use Rattle.play_event.specs.TurnTargets.{AreTargets}
use Rattle.play_event.proofs.TargetLaws.{targets_end}
use Rattle.betting_numbers.specs.declared.betting_state.BettingState.{BettingState}
use Rattle.betting_numbers.specs.Seen.{all_in_seen}
use Rattle.betting_numbers.specs.Standing.{Standing}
use Rattle.betting_numbers.specs.Why.{greatest_seen, floor_by}
use Rattle.betting_numbers.specs.Targeted.{least_seen}
use Rattle.betting_numbers.proofs.Bridge.{all_in_is}
use Rattle.betting_numbers.proofs.WhyRaise.{least_target_is, greatest_is}
use Rattle.chip_ledger.specs.Seat.{IsSeatOf}

-- numbers that are the least and the greatest legal target and all-in by the running numbers
pub targets_are : (b : BettingState) (moves : List Move) (st : Standing b.setup b.street b moves) (m : ℕ) (in_hand : IsSeatOf b.setup.stacks.seats m) (limit : Limit) (limit_is : limit_of b.setup.code ≡ limit) (least greatest whole : ℕ)
    → least ≡ least_seen limit b (floor_by b.rules.reopen (starting_bet b.setup b.street) b) m → greatest ≡ greatest_seen limit b m → whole ≡ all_in_seen b m → AreTargets b.setup b.rules moves b.street m least greatest whole
targets_are b moves st m in_hand limit limit_is least greatest whole is_least is_greatest is_whole =
    let at = b.street in
    subst (λ (n : ℕ). AreTargets b.setup b.rules moves at m n greatest whole) (least_target_is b moves st m in_hand limit limit_is b.rules.reopen ∙ sym is_least)
    (subst (λ (n : ℕ). AreTargets b.setup b.rules moves at m (least_target b.rules.reopen b.setup moves at m) n whole) (greatest_is b moves st m in_hand limit limit_is ∙ sym is_greatest)
    (subst (λ (n : ℕ). AreTargets b.setup b.rules moves at m (least_target b.rules.reopen b.setup moves at m) (greatest_target b.setup moves at m) n) (sym (all_in_is b moves st m in_hand) ∙ sym is_whole)
    (targets_end b.setup b.rules moves at m)))

-- the player to act
seat_in : InTurn → ℕ
seat_in (TheSeat seat) = seat
seat_in NoSeat = 0
seat_in Undecided = 0

pub same_turn : (one other : ℕ) → TheSeat one ≡ TheSeat other → one ≡ other
unfolding seat_in
same_turn one other is = ap seat_in is
