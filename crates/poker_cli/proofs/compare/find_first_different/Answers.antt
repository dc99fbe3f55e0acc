-- A hand differs or is the same, and if one side has no more hands, none differs.
use Rattle.std.proofs.Common.{rules, arith, ◌≡◌, ◌∙◌, Some, None, sym, option_map}
use Rattle.std.proofs.lemmas.Option.{get_or_from_slice_get, slice_get_within}
use Rattle.hand_differences.specs.FirstDifference.{difference_said}
use Rattle.poker_cli.proofs.FirstDifferent.{differs_here, none_beside, none_left, same_here}
use Rattle.poker_cli.proofs.compare.find_first_different.Goals as goal

pub returns-then-place-len : goal.returns-then-place-len
returns-then-place-len c =
    sym (none_beside c.args.notes c.args.plays.now c.args.others.now c.loop-place.place (omega (arith, c.if-place-len.true)))
    ∙ c.loop-place.invariant

pub returns-in-Some : goal.returns-in-Some
returns-in-Some c =
    let plays = c.args.plays.now in
    let others = c.args.others.now in
    let place = c.loop-place.place in
    let play = c.get-play.result in
    let other = c.get-other.result in
    let found : option_map difference_said c.first_difference.result ≡ Some (difference_said c.in-Some.difference) = search rules in
    sym (differs_here c.args.notes plays others place play other (difference_said c.in-Some.difference)
    (slice_get_within plays place play c.get-play.ensures) (get_or_from_slice_get plays place play play c.get-play.ensures)
    (slice_get_within others place other c.get-other.ensures) (get_or_from_slice_get others place other other c.get-other.ensures)
    (sym c.first_difference.ensures ∙ found))
    ∙ c.loop-place.invariant

pub loop-place-preserved : goal.loop-place-preserved
loop-place-preserved c =
    let plays = c.args.plays.now in
    let others = c.args.others.now in
    let place = c.loop-place.place in
    let play = c.get-play.result in
    let other = c.get-other.result in
    let none : option_map difference_said c.first_difference.result ≡ None = search rules in
    same_here c.args.notes plays others place play other _
    (slice_get_within plays place play c.get-play.ensures) (get_or_from_slice_get plays place play play c.get-play.ensures)
    (slice_get_within others place other c.get-other.ensures) (get_or_from_slice_get others place other other c.get-other.ensures)
    (sym c.first_difference.ensures ∙ none) c.loop-place.invariant

pub returns : goal.returns
returns c =
    sym (none_left c.args.notes c.args.plays.now c.args.others.now c.loop-place.place (omega (arith, c.loop-place-test.false, c.len-place-end.ensures)))
    ∙ c.loop-place.invariant
