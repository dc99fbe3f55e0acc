use Rattle.std.proofs.Common.{◌≡◌, ◌-◌, ◌++◌, ◌∷◌, [], ◌∙◌, None, Some, length, option_map, ap, arith, get_or, map, refl, set, subst, sym}
use Rattle.std.proofs.lemmas.List.{length-set}
use Rattle.card_set.proofs.RowLaws.{row_length}
use Rattle.card_set.specs.Row.{slots_of}
use Rattle.card_set.proofs.Entries.{at_index}
use Rattle.play_event.specs.Said.{kind_said}
use Rattle.ohh_rounds.specs.StoredSeats.{AreSeatsAfter, IsSeatAfter}
use Rattle.ohh_rounds.specs.Steps.{Dealt, IsFoldBy, LeavesFew, PlainActionEffect, PlainStep, dealt_in, folder, is_deal_to, is_fold_of, is_seat, plain_effect, plain_step}
use Rattle.ohh_rounds.specs.declared.seat_so_far.SeatSoFar.{SeatSoFar}
use Rattle.ohh_rounds.proofs.OneMore.{deal_elsewhere, deal_here, dealt, each_seat, fold_deals, fold_elsewhere, fold_here, fold_is_deal, folded, is_elsewhere, is_here, untold}
use Rattle.ohh_rounds.proofs.cards.seats_after.Goals as goal

pub returns-in-Posted : goal.returns-in-Posted
returns-in-Posted c =
    record { ten = c.requires.seen.ten; each = λ seat from to kept is. untold seat (map plain_step c.args.steps.now) (plain_step c.args.step) kept (ap (λ effect. is_fold_of seat (plain_effect effect)) c.in-Posted.is) (ap (λ effect. dealt_in seat (plain_effect effect)) c.in-Posted.is) (ap (λ effect. is_deal_to seat (plain_effect effect)) c.in-Posted.is) (c.requires.seen.each seat from to kept is) }

pub returns-in-Passed : goal.returns-in-Passed
returns-in-Passed c =
    record { ten = c.requires.seen.ten; each = λ seat from to kept is. untold seat (map plain_step c.args.steps.now) (plain_step c.args.step) kept (ap (λ effect. is_fold_of seat (plain_effect effect)) c.in-Passed.is) (ap (λ effect. dealt_in seat (plain_effect effect)) c.in-Passed.is) (ap (λ effect. is_deal_to seat (plain_effect effect)) c.in-Passed.is) (c.requires.seen.each seat from to kept is) }

pub with_deal-requires : goal.with_deal-requires
with_deal-requires c =
    let seats = c.args.seats in
    let at = c.in-Dealt.seat in
    let steps = map plain_step c.args.steps.now in
    let old = c.index-seats-index.result in
    let seen = c.requires.seen.each at.number at.first at.last old (at_index seats (at.number - 1) old (omega (arith, c.requires.seen.ten, at.first, at.last)) c.index-seats-index.is) in
    let kept_old = subst (λ (kept : SeatSoFar). IsSeatAfter at.number steps kept) c.index-seats-index.is seen in
    let few = subst (LeavesFew steps) (ap plain_effect c.in-Dealt.is) c.requires.few in
    omega (arith, few, ap length kept_old.cards, row_length c.in-Dealt.cards, row_length (get_or seats (at.number - 1) old).cards)

pub returns-in-Dealt : goal.returns-in-Dealt
returns-in-Dealt c =
    let seats = c.args.seats in
    let at = c.in-Dealt.seat in
    let slots = slots_of c.in-Dealt.cards in
    let steps = map plain_step c.args.steps.now in
    let old = c.index-seats-index.result in
    let new = c.with_deal.result in
    let step : PlainStep = record { number = c.args.step.number; effect = Dealt at.number slots } in
    let seen = c.requires.seen.each at.number at.first at.last old (at_index seats (at.number - 1) old (omega (arith, c.requires.seen.ten, at.first, at.last)) c.index-seats-index.is) in
    let kept_old = subst (λ (kept : SeatSoFar). IsSeatAfter at.number steps kept) c.index-seats-index.is seen in
    subst (λ (effect : PlainActionEffect). AreSeatsAfter (steps ++ record { number = c.args.step.number; effect = effect } ∷ []) (set seats (at.number - 1) new)) (sym (ap plain_effect c.in-Dealt.is))
    (record {
      ten = omega (arith, c.requires.seen.ten, length-set seats (at.number - 1) new);
      each = each_seat (λ seat kept. IsSeatAfter seat (steps ++ step ∷ []) kept) seats at.number new at.first
          (dealt at.number steps step (get_or seats (at.number - 1) old) new slots refl (deal_here at.number slots) (is_here at.number slots) c.with_deal.ensures.folded c.with_deal.ensures.cards c.with_deal.ensures.first_deal kept_old)
          (λ seat from to apart kept is. untold seat steps step kept refl (deal_elsewhere at.number seat slots apart) (is_elsewhere at.number seat slots apart) (c.requires.seen.each seat from to kept is));
    })

pub returns-in-Some : goal.returns-in-Some
returns-in-Some c =
    let seats = c.args.seats in
    let at = c.in-Some.seat in
    let steps = map plain_step c.args.steps.now in
    let step = plain_step c.args.step in
    let effect = plain_effect c.args.step.effect in
    let folds : folder (kind_said c.in-Happened.kind) ≡ Some at.number = sym c.find_folding_seat.ensures ∙ ap (option_map (λ other. other.number)) c.in-Some.is in
    let fold = subst (IsFoldBy at.number) (sym (ap plain_effect c.in-Happened.is)) folds in
    let old = c.index-seats-index-in-Some.result in
    let seen = c.requires.seen.each at.number at.first at.last old (at_index seats (at.number - 1) old (omega (arith, c.requires.seen.ten, at.first, at.last)) c.index-seats-index-in-Some.is) in
    let kept_old = subst (λ (kept : SeatSoFar). IsSeatAfter at.number steps kept) c.index-seats-index-in-Some.is seen in
    record {
      ten = omega (arith, c.requires.seen.ten, length-set seats (at.number - 1) c.with_fold.result);
      each = each_seat (λ seat kept. IsSeatAfter seat (steps ++ step ∷ []) kept) seats at.number c.with_fold.result at.first
          (folded at.number steps step _ c.with_fold.result (fold_here at.number effect fold) (fold_deals at.number at.number effect fold) (fold_is_deal at.number at.number effect fold) (ap (λ kept. kept.folded) c.with_fold.ensures) (ap (λ kept. kept.cards) c.with_fold.ensures) (ap (λ kept. kept.first_deal) c.with_fold.ensures) kept_old)
          (λ seat from to apart kept is. untold seat steps step kept (fold_elsewhere at.number seat effect fold apart) (fold_deals at.number seat effect fold) (fold_is_deal at.number seat effect fold) (c.requires.seen.each seat from to kept is));
    }

pub returns-in-None : goal.returns-in-None
returns-in-None c =
    let none : folder (kind_said c.in-Happened.kind) ≡ None = sym c.find_folding_seat.ensures ∙ ap (option_map (λ other. other.number)) c.in-None.is in
    record { ten = c.requires.seen.ten; each = λ seat from to kept is. untold seat (map plain_step c.args.steps.now) (plain_step c.args.step) kept (ap (λ effect. is_fold_of seat (plain_effect effect)) c.in-Happened.is ∙ ap (is_seat seat) none) (ap (λ effect. dealt_in seat (plain_effect effect)) c.in-Happened.is) (ap (λ effect. is_deal_to seat (plain_effect effect)) c.in-Happened.is) (c.requires.seen.each seat from to kept is) }
