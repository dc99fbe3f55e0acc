-- What is due and whose turn it is are those of the rules.
use Rattle.std.proofs.Common.{◌≡◌, ℕ, Bool, ◌&&◌, sym, ap, ◌∙◌}
use Rattle.play_event.specs.declared.reason.Due.{Due}
use Rattle.play_event.specs.Past.{moves_of}
use Rattle.play_event.specs.Openers.{InTurn, TheSeat}
use Rattle.betting_numbers.specs.declared.targeting.Targets.{Targets}
use Rattle.betting_numbers.specs.TurnSaid.{turn_of}
use Rattle.betting_numbers.specs.LegalMoves.{IsTurn, WhereUps}
use Rattle.play_event.specs.PlayerToAct.{player_to_act}
use Rattle.play_event.specs.Table.{up_cards}
use Rattle.play_event.specs.TurnTargets.{AreTargets, has_targets_at, may_raise_now}
use Rattle.betting_core.proofs.betting.Betting.targets.Goals as goal
use Rattle.card_set.proofs.Options.{some_more}
use Rattle.chip_ledger.specs.SeatsSaid.{seat_said}

pub returns-then-is_bet-clause-some : goal.returns-then-is_bet-clause-some
returns-then-is_bet-clause-some g c =
    let b = c.self.inside.numbers in
    let found : WhereUps b c.args.up.now (λ past. IsTurn b past (turn_of (seat_said c.to_act-turn.result))) = rw c.self.view_is c.to_act-turn.ensures.turn in
    rw (← c.self.view_is) (λ past stands holds. c.targets_of.ensures.some past stands
    ∙ ap (λ (t : InTurn). may_raise_now b.setup b.rules (moves_of past) b.street t) (found past stands holds)
    ∙ sym (ap (λ (bets : Bool). bets && may_raise_now b.setup b.rules (moves_of past) b.street (player_to_act b.setup (up_cards b.setup.code past) (moves_of past) b.street)) (sym c.is_bet.ensures ∙ c.if-is_bet.true))
    ∙ ap (λ (now : ℕ × Due). has_targets_at b.setup b.rules past now) (sym stands.turn_is))

pub returns-then-is_bet-clause-ends : goal.returns-then-is_bet-clause-ends
returns-then-is_bet-clause-ends g c =
    let b = c.self.inside.numbers in
    let found : WhereUps b c.args.up.now (λ past. IsTurn b past (turn_of (seat_said c.to_act-turn.result))) = rw c.self.view_is c.to_act-turn.ensures.turn in
    rw (← c.self.view_is) (λ past stands holds. some_more c.targets_of.result
    (λ (targets : Targets). (seat : ℕ) → turn_of (seat_said c.to_act-turn.result) ≡ TheSeat seat → AreTargets b.setup b.rules (moves_of past) b.street seat targets.least targets.greatest targets.all_in)
    (λ (targets : Targets). (seat : ℕ) → IsTurn b past (TheSeat seat) → AreTargets b.setup b.rules (moves_of past) b.street seat targets.least targets.greatest targets.all_in)
    (λ targets are seat turn. are seat (found past stands holds ∙ sym turn))
    (c.targets_of.ensures.ends past stands))

pub returns-else-is_bet-clause-some : goal.returns-else-is_bet-clause-some
returns-else-is_bet-clause-some g c =
    let b = c.self.inside.numbers in
    rw (← c.self.view_is) (λ past stands holds.
    sym (ap (λ (bets : Bool). bets && may_raise_now b.setup b.rules (moves_of past) b.street (player_to_act b.setup (up_cards b.setup.code past) (moves_of past) b.street)) (sym c.is_bet.ensures ∙ c.if-is_bet.false))
    ∙ ap (λ (now : ℕ × Due). has_targets_at b.setup b.rules past now) (sym stands.turn_is))
