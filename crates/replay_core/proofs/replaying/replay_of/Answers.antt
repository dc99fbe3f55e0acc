-- The rows of the end agree with the past, and so do pots, shares and finishing stacks.
use Rattle.std.proofs.Common.{sym, subst, ◌∙◌, arith}
use Rattle.canon_laws.proofs.MoveCounts.{tidy_within}
use Rattle.hand_canon.specs.declared.trace.Trace.{Trace}
use Rattle.play_event.specs.Tidy.{IsTidy}
use Rattle.hand_canon.specs.WholeTrace.{IsTraceOf}
use Rattle.play_event.specs.declared.code.Code.{Code}
use Rattle.play_event.specs.Games.{game_of}
use Rattle.play_event.specs.Scripts.{past_at_end}
use Rattle.chip_ledger.specs.PotRow.{plain_pots, plain_shares}
use Rattle.chip_ledger.specs.Rakes.{nets_of}
use Rattle.showdown_split.specs.Hands.{showdown_of}
use Rattle.variant_table.specs.Shares.{AllShared}
use Rattle.variant_table.specs.Variants.{IsUsable}
use Rattle.replay_core.specs.Events.{said_by}
use Rattle.replay_core.proofs.EndChips.{ante_within, put_within, whole_stack}
use Rattle.trace_laws.proofs.ConservedTraces.{conserved}
use Rattle.replay_core.proofs.FinishBound.{finish_within}
use Rattle.replay_core.proofs.TraceAtEnd.{IsPaid, rake_is, unshown_is, whole_trace}
use Rattle.replay_core.proofs.replaying.replay_of.Goals as goal

pub pots_of-pots-requires-clause-within : goal.pots_of-pots-requires-clause-within
pots_of-pots-requires-clause-within g c =
    put_within c.args.setup.now c.args.rules.now (said_by c.args.script.now) c.in_ok-hand.hand c.requires.valid c.in_ok-hand.ensures.played c.in_ok-hand.ensures.ended

pub pots_of-pots-requires-clause-posted : goal.pots_of-pots-requires-clause-posted
pots_of-pots-requires-clause-posted g c =
    ante_within c.args.setup.now c.args.rules.now (said_by c.args.script.now) c.in_ok-hand.hand c.requires.valid c.in_ok-hand.ensures.played c.in_ok-hand.ensures.ended

pub returns-in-Some-clause-fault : goal.returns-in-Some-clause-fault
returns-in-Some-clause-fault g c =
    let setup = c.args.setup.now in
    let past = past_at_end setup (said_by c.args.script.now) in
    let is = c.in_ok-hand.ensures.ended in
    let are = c.pots_of-pots.ensures.pots past is.stakes in
    record {
      played = c.in_ok-hand.ensures.played;
      above = rake_is setup past c.in_ok-hand.hand c.pots_of-pots.result is are c.pots_of-pots.ensures.eligible ∙ sym c.in-Some.ensures.first;
    }

pub split-requires-clause-seats : goal.split-requires-clause-seats
split-requires-clause-seats g c = c.in_ok-hand.ensures.ended.seats.hands ∙ sym c.in_ok-hand.ensures.ended.seats.shown

pub split-requires-clause-winnable : goal.split-requires-clause-winnable
split-requires-clause-winnable g c = record {
  same_seats = λ k d within. c.pots_of-pots.ensures.eligible k d within ∙ sym c.in_ok-hand.ensures.ended.seats.shown;
  winnable = c.pots_of-pots.ensures.each_has_a_seat;
  bounded = c.pots_of-pots.ensures.each_is_bounded;
}

pub split-requires-clause-playable : goal.split-requires-clause-playable
split-requires-clause-playable g c =
    c.in_ok-hand.ensures.ended.playable g.V.Award.HandOrder.HELD g.V.Variant.PICK
    (subst (λ (code : Code). IsUsable (game_of code) g.V.Award.HandOrder.HELD g.V.Variant.PICK) (sym c.requires.code) g.met.V.Variant.award_usable)

pub returns-in-Err-clause-fault : goal.returns-in-Err-clause-fault
returns-in-Err-clause-fault g c =
    let setup = c.args.setup.now in
    let past = past_at_end setup (said_by c.args.script.now) in
    let is = c.in_ok-hand.ensures.ended in
    let are = c.pots_of-pots.ensures.pots past is.stakes in
    record {
      played = c.in_ok-hand.ensures.played;
      no_rake_above = rake_is setup past c.in_ok-hand.hand c.pots_of-pots.result is are c.pots_of-pots.ensures.eligible ∙ (sym c.first_rake_above.ensures.first ∙ c.in_default.is);
      unshown = unshown_is setup past c.in_ok-hand.hand c.pots_of-pots.result is are c.pots_of-pots.ensures.eligible ∙ c.in-Err.ensures.first_unshown;
    }

pub finish_row-finish-requires-clause-shares : goal.finish_row-finish-requires-clause-shares
finish_row-finish-requires-clause-shares g c = λ k d within.
    c.in-Ok.ensures.seats k d within ∙ c.in_ok-hand.ensures.ended.seats.shown ∙ sym c.in_ok-hand.ensures.ended.seats.left

pub finish_row-finish-requires-clause-bounded : goal.finish_row-finish-requires-clause-bounded
finish_row-finish-requires-clause-bounded g c =
    let setup = c.args.setup.now in
    let is = c.in_ok-hand.ensures.ended in
    λ n low high.
    finish_within setup c.in_ok-hand.hand.puts c.in_ok-hand.hand.left c.pots_of-pots.result c.in-Ok.shares n setup.stacks.greatest is.seats.puts is.seats.left c.pots_of-pots.ensures.returned_seats
    (λ k from to. (c.requires.valid.stacks k from to).1)
    (whole_stack setup c.args.rules.now (said_by c.args.script.now) c.in_ok-hand.hand c.requires.valid c.in_ok-hand.ensures.played is)
    c.pots_of-pots.ensures.conserved c.in-Ok.ensures.conserved
    (λ k d within. c.in-Ok.ensures.seats k d within ∙ is.seats.shown)
    low (omega (arith, high, is.seats.left))

pub returns-clause-replayed : goal.returns-clause-replayed
returns-clause-replayed g c =
    let setup = c.args.setup.now in
    let rules = c.args.rules.now in
    let script = said_by c.args.script.now in
    let past = past_at_end setup script in
    let hand = c.in_ok-hand.hand in
    let played = c.in_ok-hand.ensures.played in
    let is = c.in_ok-hand.ensures.ended in
    let pots = c.pots_of-pots.result in
    let are = c.pots_of-pots.ensures.pots past is.stakes in
    let eligible = c.pots_of-pots.ensures.eligible in
    let shares = c.in-Ok.shares in
    let finish = c.finish_row-finish.result in
    let paid : IsPaid setup hand pots shares finish = record {
      shared = subst (λ (code : Code). AllShared code (showdown_of hand.hands hand.board hand.shown) (nets_of setup.rakes (plain_pots pots)) (plain_shares shares)) (sym c.requires.code) c.in-Ok.ensures.shares;
      share_seats = c.in-Ok.ensures.seats;
      finish_seats = c.finish_row-finish.ensures.seats;
      finishes = c.finish_row-finish.ensures.amounts;
    } in
    let trace : Trace = record { setup = setup; places = hand.places; moves = hand.moves; shown = hand.shown; mucked = hand.mucked; pots = pots; shares = shares; finish = finish } in
    let whole : IsTraceOf setup past trace = whole_trace setup past hand pots is are eligible shares finish c.pots_of-pots.ensures.returned_seats paid in
    record {
      trace = whole;
      legal = record {
        played = played;
        shareable = record {
          no_rake_above = rake_is setup past hand pots is are eligible ∙ (sym c.first_rake_above.ensures.first ∙ c.in_default.is);
          no_unshown = unshown_is setup past hand pots is are eligible ∙ c.in-Ok.ensures.no_unshown;
        };
      };
      conserved = conserved setup rules script trace c.requires.valid played whole c.in-Ok.ensures.conserved;
      tidy = subst IsTidy (sym whole.core) (tidy_within setup rules script played c.requires.within.moves);
      bounded = c.pots_of-pots.ensures.each_is_bounded;
    }
