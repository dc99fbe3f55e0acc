-- After the showdown the hand is over; after a deal or a draw the next due is read from the
-- numbers, which stand for the past.
use Rattle.std.proofs.Common.{◌≢◌, ◌≤◌, sym, subst, arith}
use Rattle.play_event.specs.declared.code.Code.{Code}
use Rattle.play_event.specs.declared.reason.Due.TheVariants as dues
use Rattle.play_event.specs.Games.{street_count}
use Rattle.betting_numbers.specs.declared.betting_state.BettingState.{BettingState}
use Rattle.betting_numbers.specs.Standing.{StandsFor}
use Rattle.betting_numbers.proofs.Dealt.{show_ended, showdown_dealt, stands_dealt, up_to_dealt}
use Rattle.betting_core.specs.HandNumbers.{AreOfGame}
use Rattle.betting_core.proofs.betting.Betting.dealt.Goals as goal

pub returns-in-Show-clause-stands : goal.returns-in-Show-clause-stands
returns-in-Show-clause-stands g c =
    let b = c.self.inside.numbers in
    rw (← c.self.view_is) (λ past up unended. subst (λ (t : BettingState). StandsFor t past) (sym c.set_due.ensures) (show_ended b past up c.in-Show.is))

pub returns-in_default : goal.returns-in_default
returns-in_default g c =
    let b = c.args.self.now in
    let game : AreOfGame g.V.Variant.CODE g.V.Variant.STREETS b = rw (← c.self.view_is) c.self.invariant in
    let next = c.bet.new.self in
    let no_show : b.due ≢ dues.Show = rw (← c.self.view_is) c.in_default.not-Show in
    let most : b.street ≤ street_count g.V.Variant.CODE = omega (arith, game.kept.last, g.met.V.Variant.values.streets_is) in
    let within : b.street ≤ street_count b.setup.code = subst (λ (code : Code). b.street ≤ street_count code) (sym game.code) most in
    record {
      stands = λ past up unended. stands_dealt b next past up no_show game.kept.first within c.bet.ensures unended;
      up_to = λ past up done. up_to_dealt b next past up no_show game.kept.first within c.bet.ensures done;
      showdown = λ past up done. showdown_dealt b next past up no_show game.kept.first within c.bet.ensures done;
      over = λ show. absurd (no_show show);
      same = record { setup = c.bet.ensures.setup; rules = c.bet.ensures.rules };
    }
