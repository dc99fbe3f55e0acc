use Rattle.std.proofs.Common.{◌≡◌, ◌+◌, ◌++◌, ◌∙◌, Some, ap, arith, map}
use Rattle.std.specs.List.{flat_map}
use Rattle.chip_ledger.specs.Seat.{seats_of}
use Rattle.play_event.specs.CanonScript.{dealt_slots}
use Rattle.hand_canon.specs.TraceRows.{core_said, place_said}
use Rattle.hand_canon.proofs.OneByOne.{seat_more}
use Rattle.ohh_writing.specs.Actions.{action_said, deal_written}
use Rattle.ohh_writing.proofs.shows.push_deals.Goals as goal

pub loop-index-preserved : goal.loop-index-preserved
loop-index-preserved c =
    let written = map action_said c.loop-index.actions.items in
    let seat = c.loop-index.index + 1 in
    let same = c.dealt_cards-cards.ensures ∙ ap (λ places. dealt_slots (map place_said places) (Some seat) 1) c.as_slice.ensures in
    seat_more (λ seat. deal_written seat (dealt_slots (core_said c.args.tidy.now.trace.now).places (Some seat) 1)) c.loop-index.index (map action_said c.args.actions.now.items) written (map action_said c.push_deal.new.actions.items) c.loop-index.invariant
    (c.in_ok-push_deal.ensures ∙ ap (λ cards. written ++ deal_written seat cards) same)

pub returns : goal.returns
returns c =
    let whole : c.loop-index.index ≡ c.args.tidy.now.trace.now.setup.stacks.seats = omega arith in
    c.loop-index.invariant ∙ ap (λ count. map action_said c.args.actions.now.items ++ flat_map (λ seat. deal_written seat (dealt_slots (core_said c.args.tidy.now.trace.now).places (Some seat) 1)) (seats_of count)) whole
