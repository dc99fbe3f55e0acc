-- What is seen of the numbers is what the rules say of the moves.
use Rattle.std.proofs.Common.{◌≡◌, ◌≢◌, ◌≤◌, ℕ, true, ◌&&◌, ◌||◌, not, nat_lt, nat_le, List, [], sym, ap, ◌∙◌, arith}
use Rattle.std.specs.List.{list_any}
use Rattle.std.proofs.lemmas.Bool.{true≢false}
use Rattle.chip_ledger.specs.LiveRow.{flag_of, flagged}
use Rattle.chip_ledger.specs.Seat.{seats_of}
use Rattle.card_set.proofs.Any.{list_any-from_nothing}
use Rattle.card_set.proofs.Counting.{counted_some}
use Rattle.play_event.specs.Past.{Past, Move, moves_of}
use Rattle.play_event.specs.Seats.{can_act, live_count, able_count, all_seats}
use Rattle.play_event.specs.CurrentBet.{to_call}
use Rattle.play_event.specs.Due.{is_settled, is_after_betting, has_able_seat_to_call}
use Rattle.betting_numbers.specs.declared.betting_state.BettingState.{BettingState}
use Rattle.betting_numbers.specs.Seen.{live_count_seen, can_act_seen, to_call_seen, able_count_seen, has_able_seat_to_call_seen, is_settled_seen}
use Rattle.betting_numbers.specs.Standing.{Standing, StandsFor}
use Rattle.chip_ledger.proofs.SeatLists.{any_seats}
use Rattle.betting_numbers.proofs.Bridge.{able_is, owed_is, able_count_is, live_count_is}

module _ (b : BettingState) (moves : List Move) (st : Standing b.setup b.street b moves) where
  able_owes_is : has_able_seat_to_call_seen b ≡ has_able_seat_to_call b.setup moves b.street
  able_owes_is =
      any_seats (λ seat. can_act_seen b seat && nat_lt 0 (to_call_seen b seat)) (λ seat. can_act b.setup moves seat && nat_lt 0 (to_call b.setup moves b.street seat)) b.setup.stacks.seats
      (λ k low high. ap (λ a. a && nat_lt 0 (to_call_seen b k)) (able_is b moves st k (record { first = low; last = high })) ∙ ap (λ o. can_act b.setup moves k && nat_lt 0 o) (owed_is b moves st k (record { first = low; last = high })))

  pub settled_is : is_settled_seen b ≡ is_settled b.setup moves (b.street, b.due)
  settled_is =
      ap (λ l. nat_le 2 l && (is_after_betting b.due || (nat_le (able_count_seen b) 1 && not (has_able_seat_to_call_seen b)))) (live_count_is b moves st)
      ∙ ap (λ a. nat_le 2 (live_count b.setup moves) && (is_after_betting b.due || (nat_le a 1 && not (has_able_seat_to_call_seen b)))) (able_count_is b moves st)
      ∙ ap (λ o. nat_le 2 (live_count b.setup moves) && (is_after_betting b.due || (nat_le (able_count b.setup moves) 1 && not o))) able_owes_is

-- the row of live seats has a seat
pub someone_flagged : (b : BettingState) (past : Past) → StandsFor b past → flagged b.live ≢ []
someone_flagged b past stands none =
    let some : 1 ≤ live_count_seen b = omega (arith, live_count_is b (moves_of past) stands.standing, stands.someone) in
    let found : list_any (flag_of b.live) (seats_of b.live.seats) ≡ true = ap (λ (n : ℕ). list_any (flag_of b.live) (seats_of n)) b.live_seats ∙ counted_some (flag_of b.live) (all_seats b.setup) some in
    true≢false (sym found ∙ list_any-from_nothing (flag_of b.live) (seats_of b.live.seats) none)
