-- Nothing is written if the street does not draw or is not reached, and otherwise the discards of
-- the seats.
use Rattle.std.proofs.Common.{◌≡◌, ◌∙◌, ◌++◌, ℕ, ap, arith, map, subst, sym}
use Rattle.std.specs.List.{flat_map, list_any}
use Rattle.chip_ledger.specs.Seat.{seats_of}
use Rattle.play_event.specs.CanonScript.{discarded_slots, plain_moves}
use Rattle.hand_canon.specs.RowTests.{discards_from, is_fold_before}
use Rattle.hand_canon.specs.TraceRows.{core_said, place_said}
use Rattle.hand_canon.specs.SaidSoFar.{words_of}
use Rattle.hand_canon.proofs.OneByOne.{seat_more}
use Rattle.hand_canon.proofs.CanonParts.{discards_are, not_reached}
use Rattle.hand_canon.proofs.MoveRows.{folded_before}
use Rattle.hand_canon.proofs.canonical.write_discards.Goals as goal
use Rattle.card_set.proofs.Lists.{nothing_behind, same_behind}

pub returns-then-count_unfolded-lt2 : goal.returns-then-count_unfolded-lt2
returns-then-count_unfolded-lt2 c =
    let marked = folded_before c.args.street c.args.trace.now.moves c.folds_before-folded.result (λ n from. c.folds_before-folded.ensures.flags n from ∙ ap (list_any (is_fold_before c.args.street n)) c.as_slice.ensures) in
    let core = core_said c.args.trace.now in
    nothing_behind _ _ (not_reached c.args.trace.now.setup core.places (plain_moves core.moves) c.args.street c.folds_before-folded.result marked (omega (arith, c.count_unfolded.ensures, c.if-count_unfolded-lt2.true)))

pub returns : goal.returns
returns c =
    let marked = folded_before c.args.street c.args.trace.now.moves c.folds_before-folded.result (λ n from. c.folds_before-folded.ensures.flags n from ∙ ap (list_any (is_fold_before c.args.street n)) c.as_slice.ensures) in
    let core = core_said c.args.trace.now in
    let same = discards_are c.args.trace.now.setup core.places (plain_moves core.moves) c.args.street c.folds_before-folded.result c.discarded_by_seats-discards.result
    (grind (arith, c.draws.ensures, c.if-not-draws.false)) marked (omega (arith, c.count_unfolded.ensures, c.if-count_unfolded-lt2.false))
    (λ n from. c.discarded_by_seats-discards.ensures.discarded n from ∙ ap (λ places. discarded_slots (map place_said places) n c.args.street) c.as_slice-2.ensures) in
    let all : c.loop-index.index ≡ c.args.trace.now.setup.stacks.seats = omega (arith, c.loop-index-test.false, c.loop-index.auto.index-end) in
    same_behind _ _ _ _ (sym same) (subst (λ (seats : ℕ). words_of c.loop-index.written ≡ words_of c.args.written.now ++ flat_map (discards_from c.folds_before-folded.result c.discarded_by_seats-discards.result) (seats_of seats)) all c.loop-index.invariant)

pub loop-index-preserved : goal.loop-index-preserved
loop-index-preserved c =
    seat_more (discards_from c.folds_before-folded.result c.discarded_by_seats-discards.result) c.loop-index.index (words_of c.args.written.now) (words_of c.loop-index.written) (words_of c.write_discard.new.written) c.loop-index.invariant c.in_ok-write_discard.ensures
