-- The deals to the seats, and then the board's.
use Rattle.std.proofs.Common.{◌≡◌, ◌∙◌, ◌+◌, ◌++◌, ℕ, Some, None, ap, arith, map, subst, sym}
use Rattle.std.specs.List.{flat_map}
use Rattle.chip_ledger.specs.Seat.{seats_of}
use Rattle.play_event.specs.SeatSlots.{slots_of_hand}
use Rattle.card_set.specs.Row.{slots_of}
use Rattle.play_event.specs.CanonScript.{deal_said, dealt_slots}
use Rattle.hand_canon.specs.TraceRows.{place_said}
use Rattle.hand_canon.specs.SaidSoFar.{words_of}
use Rattle.hand_canon.proofs.OneByOne.{seat_more}
use Rattle.hand_canon.proofs.CanonParts.{deals_are}
use Rattle.hand_canon.proofs.canonical.write_deals.Goals as goal
use Rattle.card_set.proofs.Results.{on_ok}
use Rattle.card_set.proofs.Lists.{same_behind, two_behind}

pub returns : goal.returns
returns c =
    let same = deals_are c.args.trace.now.setup (map place_said c.args.trace.now.places) c.args.street c.dealt_to_seats-hands.result (slots_of c.dealt_to_board-board.result)
    (λ n from. c.dealt_to_seats-hands.ensures n from ∙ ap (λ places. dealt_slots (map place_said places) (Some n) c.args.street) c.as_slice.ensures)
    (c.dealt_to_board-board.ensures ∙ ap (λ places. dealt_slots (map place_said places) None c.args.street) c.as_slice-2.ensures) in
    let all : c.loop-index.index ≡ c.args.trace.now.setup.stacks.seats = omega (arith, c.loop-index-test.false, c.loop-index.auto.index-end) in
    let deals = subst (λ (seats : ℕ). words_of c.loop-index.written ≡ words_of c.args.written.now ++ flat_map (λ seat. deal_said seat (slots_of_hand c.dealt_to_seats-hands.result seat)) (seats_of seats)) all c.loop-index.invariant in
    on_ok c.write_board.result (λ is. same_behind _ _ _ _ (sym same) (two_behind _ _ _ _ _ deals is)) c.write_board.ensures

pub loop-index-preserved : goal.loop-index-preserved
loop-index-preserved c =
    let written = words_of c.loop-index.written in
    seat_more (λ seat. deal_said seat (slots_of_hand c.dealt_to_seats-hands.result seat)) c.loop-index.index (words_of c.args.written.now) written (words_of c.write_deal.new.written) c.loop-index.invariant
    (c.in_ok-write_deal.ensures ∙ ap (λ cards. written ++ deal_said (c.loop-index.index + 1) cards) c.get.ensures)
