-- One more seat, or one that was found.
use Rattle.std.proofs.Common.{◌+◌, List, map, ap, sym, ◌∙◌, arith}
use Rattle.card_set.proofs.NumbersOfRange.{any_in_range}
use Rattle.chip_ledger.proofs.SeatLists.{any_more}
use Rattle.hand_canon.specs.TraceRows.{core_said, place_said}
use Rattle.play_event.specs.declared.played.Place.{Place}
use Rattle.acpc_format.specs.PlayFacts.{is_part_known}
use Rattle.acpc_format.proofs.played.has_part_known.Goals as goal

pub returns-then-has_known_and_unknown : goal.returns-then-has_known_and_unknown
returns-then-has_known_and_unknown c =
    sym (any_in_range (is_part_known (core_said c.args.trace.now).places) 1 c.args.trace.now.setup.stacks.seats (c.loop-index.index + 1) (omega arith) (omega (arith, c.loop-index-test.true))
    (ap (λ (places : List Place). is_part_known (map place_said places) (c.loop-index.index + 1)) (sym c.as_slice.ensures) ∙ sym c.has_known_and_unknown.ensures ∙ c.if-has_known_and_unknown.true))

pub loop-index-preserved : goal.loop-index-preserved
loop-index-preserved c =
    any_more (is_part_known (core_said c.args.trace.now).places) c.loop-index.index
    ∙ rw (c.loop-index.invariant) (ap (λ (places : List Place). is_part_known (map place_said places) (c.loop-index.index + 1)) (sym c.as_slice.ensures) ∙ sym c.has_known_and_unknown.ensures ∙ c.if-has_known_and_unknown.false)
