-- Nothing is written if fewer than two seats are live, and otherwise the show or muck of each.
use Rattle.std.proofs.Common.{◌≡◌, ◌∙◌, ◌++◌, ℕ, ap, arith, map, subst, sym}
use Rattle.std.specs.List.{flat_map, list_any}
use Rattle.chip_ledger.specs.Seat.{seats_of}
use Rattle.play_event.specs.CanonScript.{held_slots, plain_moves}
use Rattle.hand_canon.specs.RowTests.{is_fold_of, showings_from}
use Rattle.hand_canon.specs.TraceRows.{core_said, place_said}
use Rattle.hand_canon.specs.SaidSoFar.{words_of}
use Rattle.hand_canon.proofs.OneByOne.{seat_more}
use Rattle.hand_canon.proofs.CanonParts.{no_showdown, showdown_are}
use Rattle.hand_canon.proofs.MoveRows.{folded_all}
use Rattle.hand_canon.proofs.canonical.write_showdown.Goals as goal
use Rattle.card_set.proofs.Lists.{nothing_behind, same_behind}

pub returns-then-count_unfolded-lt2 : goal.returns-then-count_unfolded-lt2
returns-then-count_unfolded-lt2 c =
    let marked = folded_all c.args.trace.now.moves c.folds-folded.result (λ n from. c.folds-folded.ensures n from ∙ ap (list_any (is_fold_of n)) c.as_slice.ensures) in
    let core = core_said c.args.trace.now in
    nothing_behind _ _ (no_showdown c.args.trace.now.setup core.places (plain_moves core.moves) core.shown c.folds-folded.result marked (omega (arith, c.count_unfolded.ensures, c.if-count_unfolded-lt2.true)))

pub returns : goal.returns
returns c =
    let marked = folded_all c.args.trace.now.moves c.folds-folded.result (λ n from. c.folds-folded.ensures n from ∙ ap (list_any (is_fold_of n)) c.as_slice.ensures) in
    let core = core_said c.args.trace.now in
    let same = showdown_are c.args.trace.now.setup core.places (plain_moves core.moves) c.args.trace.now.shown c.folds-folded.result c.held_by_seats-held.result
    marked (omega (arith, c.count_unfolded.ensures, c.if-count_unfolded-lt2.false))
    (λ n from. c.held_by_seats-held.ensures.held n from ∙ ap (λ places. held_slots (map place_said places) n) c.as_slice-2.ensures) in
    let all : c.loop-index.index ≡ c.args.trace.now.setup.stacks.seats = omega (arith, c.loop-index-test.false, c.loop-index.auto.index-end) in
    same_behind _ _ _ _ (sym same) (subst (λ (seats : ℕ). words_of c.loop-index.written ≡ words_of c.args.written.now ++ flat_map (showings_from c.folds-folded.result c.args.trace.now.shown c.held_by_seats-held.result) (seats_of seats)) all c.loop-index.invariant)

pub loop-index-preserved : goal.loop-index-preserved
loop-index-preserved c =
    seat_more (showings_from c.folds-folded.result c.args.trace.now.shown c.held_by_seats-held.result) c.loop-index.index (words_of c.args.written.now) (words_of c.loop-index.written) (words_of c.write_showing.new.written) c.loop-index.invariant c.in_ok-write_showing.ensures
