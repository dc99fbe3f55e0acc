-- One more seat, or one that was found.
use Rattle.std.proofs.Common.{◌+◌, List, map, ap, sym, ◌∙◌, arith}
use Rattle.card_set.proofs.NumbersOfRange.{any_in_range}
use Rattle.chip_ledger.proofs.SeatLists.{any_more}
use Rattle.hand_canon.specs.TraceRows.{core_said, place_said}
use Rattle.play_event.specs.declared.played.Place.{Place}
use Rattle.acpc_format.specs.PlayFacts.{is_open_muck}
use Rattle.acpc_format.proofs.played.has_open_muck.Goals as goal

pub returns-then-has_mucked_known_cards : goal.returns-then-has_mucked_known_cards
returns-then-has_mucked_known_cards c =
    sym (any_in_range (is_open_muck (core_said c.args.trace.now).places c.args.trace.now.mucked) 1 c.args.trace.now.setup.stacks.seats (c.loop-index.index + 1) (omega arith) (omega (arith, c.loop-index-test.true))
    (ap (λ (places : List Place). is_open_muck (map place_said places) c.args.trace.now.mucked (c.loop-index.index + 1)) (sym c.as_slice.ensures) ∙ sym c.has_mucked_known_cards.ensures ∙ c.if-has_mucked_known_cards.true))

pub loop-index-preserved : goal.loop-index-preserved
loop-index-preserved c =
    any_more (is_open_muck (core_said c.args.trace.now).places c.args.trace.now.mucked) c.loop-index.index
    ∙ rw (c.loop-index.invariant) (ap (λ (places : List Place). is_open_muck (map place_said places) c.args.trace.now.mucked (c.loop-index.index + 1)) (sym c.as_slice.ensures) ∙ sym c.has_mucked_known_cards.ensures ∙ c.if-has_mucked_known_cards.false)
