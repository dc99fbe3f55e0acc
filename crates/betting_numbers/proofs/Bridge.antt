-- What the running numbers say is what the rules say of the moves that they stand for.
use Rattle.std.proofs.Common.{◌≡◌, ℕ, ◌+◌, ◌-◌, ◌≤◌, Bool, false, ◌&&◌, ◌||◌, ◌==◌, not, nat_lt, nat_le, if◌then◌else◌, List, [], ◌∷◌, refl, sym, ap, ◌∙◌, arith, find}
use Rattle.std.specs.List.{range_with_len}
use Rattle.std.specs.Option.{option_or}
use Rattle.std.proofs.lemmas.List.Folds.{find-append}
use Rattle.chip_ledger.specs.LiveRow.{flag_of}
use Rattle.chip_ledger.specs.SeatRow.{amount_of}
use Rattle.chip_ledger.proofs.Seats.{map-seats}
use Rattle.play_event.specs.declared.setup.Setup.{Setup}
use Rattle.play_event.specs.Past.{Move, moves_on}
use Rattle.play_event.specs.Chips.{chips_left, street_chips, all_in}
use Rattle.play_event.specs.Seats.{is_live, can_act, live_count, able_count}
use Rattle.play_event.specs.CurrentBet.{current_bet, to_call}
use Rattle.chip_ledger.specs.Greatest.{greatest}
use Rattle.play_event.specs.Due.{has_to_move, has_acted_since_raise, is_move_due, is_bring_in_due}
use Rattle.play_event.specs.Streets.{is_stud_game}
use Rattle.play_event.specs.Openers.{InTurn, NoSeat, TheSeat, Undecided, in_turn, seat_after}
use Rattle.play_event.specs.PlayerToAct.{player_to_act_after, first_in_turn, next_in_turn}
use Rattle.play_event.specs.Raising.{has_able_opponent}
use Rattle.betting_numbers.specs.declared.betting_state.BettingState.{BettingState}
use Rattle.betting_numbers.specs.Seen.{left_seen, can_act_seen, current_bet_seen, to_call_seen, all_in_seen, live_count_seen, able_count_seen, has_to_move_seen, is_move_due_seen, is_bring_in_due_seen, has_opponent_seen, after_last, last_seen, player_to_act_seen}
use Rattle.betting_numbers.specs.Standing.{Standing, newest_seat}
use Rattle.chip_ledger.proofs.SeatLists.{any_seats, count_seats}
use Rattle.card_set.proofs.Finding.{find_agree}
use Rattle.chip_ledger.specs.Seat.{IsSeatOf}

-- a seat to which the turn may be passed
abbrev pub StartsIn : Setup → InTurn → Type 0
StartsIn setup NoSeat = Unit {0}
StartsIn setup Undecided = Unit {0}
StartsIn setup (TheSeat seat) = IsSeatOf setup.stacks.seats seat

-- tests that agree at each seat find the same first seat
pub first_same : (setup : Setup) (p q : ℕ → Bool) → ((k : ℕ) → IsSeatOf setup.stacks.seats k → p k ≡ q k) → (from : InTurn) → StartsIn setup from → first_in_turn setup p from ≡ first_in_turn setup q from
first_same setup p q h NoSeat starts = refl
first_same setup p q h Undecided starts = refl
first_same setup p q h (TheSeat seat) starts =
    let n = setup.stacks.seats in
    let low : 1 ≤ seat = starts.first in
    let high : seat ≤ n = starts.last in
    let up : find p (range_with_len seat (n + 1 - seat)) ≡ find q (range_with_len seat (n + 1 - seat)) = find_agree p q seat (n + 1 - seat) (λ k least most. h k (record { first = omega (arith, least, low); last = omega (arith, most, high) })) in
    let round : find p (range_with_len 1 (seat - 1)) ≡ find q (range_with_len 1 (seat - 1)) = find_agree p q 1 (seat - 1) (λ k least most. h k (record { first = least; last = omega (arith, most, high) })) in
    ap in_turn (
    find-append p (range_with_len seat (n + 1 - seat)) (range_with_len 1 (seat - 1))
    ∙ ap (λ o. option_or o (find p (range_with_len 1 (seat - 1)))) up
    ∙ ap (λ o. option_or (find q (range_with_len seat (n + 1 - seat))) o) round
    ∙ sym (find-append q (range_with_len seat (n + 1 - seat)) (range_with_len 1 (seat - 1)))
    )

-- the turn is passed on from the newest move
passed_on : (setup : Setup) (opener : InTurn) (moves : List Move) → after_last (newest_seat moves) (seat_after setup) opener ≡ next_in_turn setup opener moves
passed_on setup opener [] = refl
passed_on setup opener (move ∷ before) = refl

abbrev to_move_by : Bool → Bool → ℕ → ℕ → Bool
to_move_by able since owes count = able && (if since then false else (nat_lt 0 owes || nat_le 2 count))

module _ (b : BettingState) (moves : List Move) (st : Standing b.setup b.street b moves) where
  pub left_is : (seat : ℕ) → IsSeatOf b.setup.stacks.seats seat → left_seen b seat ≡ chips_left b.setup moves seat
  left_is seat in_hand = ap (λ n. amount_of b.setup.stacks seat - n) (st.puts seat in_hand)

  pub able_is : (seat : ℕ) → IsSeatOf b.setup.stacks.seats seat → can_act_seen b seat ≡ can_act b.setup moves seat
  able_is seat in_hand =
      ap (λ l. l && nat_lt 0 (left_seen b seat)) (st.live seat in_hand)
      ∙ ap (λ n. is_live moves seat && nat_lt 0 n) (left_is seat in_hand)

  pub current_bet_is : current_bet_seen b ≡ current_bet b.setup moves b.street
  current_bet_is = ap greatest (map-seats (amount_of b.bets) (street_chips b.setup moves b.street) b.setup.stacks.seats (λ k low high. st.bets k (record { first = low; last = high })))

  pub owed_is : (seat : ℕ) → IsSeatOf b.setup.stacks.seats seat → to_call_seen b seat ≡ to_call b.setup moves b.street seat
  owed_is seat in_hand =
      ap (λ n. n - amount_of b.bets seat) current_bet_is ∙ ap (λ n. current_bet b.setup moves b.street - n) (st.bets seat in_hand)

  pub all_in_is : (seat : ℕ) → IsSeatOf b.setup.stacks.seats seat → all_in_seen b seat ≡ all_in b.setup moves b.street seat
  all_in_is seat in_hand =
      ap (λ n. n + left_seen b seat) (st.bets seat in_hand) ∙ ap (λ n. street_chips b.setup moves b.street seat + n) (left_is seat in_hand)

  pub live_count_is : live_count_seen b ≡ live_count b.setup moves
  live_count_is = count_seats (flag_of b.live) (is_live moves) b.setup.stacks.seats (λ k low high. st.live k (record { first = low; last = high }))

  pub able_count_is : able_count_seen b ≡ able_count b.setup moves
  able_count_is = count_seats (can_act_seen b) (can_act b.setup moves) b.setup.stacks.seats (λ k low high. able_is k (record { first = low; last = high }))

  pub to_move_is : (seat : ℕ) → IsSeatOf b.setup.stacks.seats seat → has_to_move_seen b seat ≡ has_to_move b.setup moves b.street seat
  to_move_is seat in_hand =
      ap (λ a. to_move_by a (flag_of b.acted_since_raise seat) (to_call_seen b seat) (able_count_seen b)) (able_is seat in_hand)
      ∙ ap (λ s. to_move_by (can_act b.setup moves seat) s (to_call_seen b seat) (able_count_seen b)) (st.acted_since_raise seat in_hand)
      ∙ ap (λ o. to_move_by (can_act b.setup moves seat) (has_acted_since_raise b.setup moves b.street seat) o (able_count_seen b)) (owed_is seat in_hand)
      ∙ ap (λ c. to_move_by (can_act b.setup moves seat) (has_acted_since_raise b.setup moves b.street seat) (to_call b.setup moves b.street seat) c) able_count_is

  pub move_due_is : is_move_due_seen b ≡ is_move_due b.setup moves b.street
  move_due_is = any_seats (has_to_move_seen b) (has_to_move b.setup moves b.street) b.setup.stacks.seats (λ k low high. to_move_is k (record { first = low; last = high }))

  pub bring_in_due_is : is_bring_in_due_seen b ≡ is_bring_in_due b.setup moves b.street
  bring_in_due_is =
      ap (λ c. is_stud_game b.setup.code && (b.street == 1) && nat_le 2 c && not b.bet_or_bring_in_made) able_count_is
      ∙ ap (λ o. is_stud_game b.setup.code && (b.street == 1) && nat_le 2 (able_count b.setup moves) && not o) st.bet_or_bring_in_made

  pub opponent_is : (seat : ℕ) → has_opponent_seen b seat ≡ has_able_opponent b.setup moves seat
  opponent_is seat =
      any_seats (λ other. can_act_seen b other && not (other == seat)) (λ other. can_act b.setup moves other && not (other == seat)) b.setup.stacks.seats
      (λ k low high. ap (λ a. a && not (k == seat)) (able_is k (record { first = low; last = high })))

  pub next_is : (opener : InTurn) → after_last (last_seen b) (seat_after b.setup) opener ≡ next_in_turn b.setup opener (moves_on b.street moves)
  next_is opener = ap (λ o. after_last o (seat_after b.setup) opener) st.last ∙ passed_on b.setup opener (moves_on b.street moves)

  pub player_to_act_is : (opener : InTurn) → StartsIn b.setup (after_last (last_seen b) (seat_after b.setup) opener) → player_to_act_seen b opener ≡ player_to_act_after b.setup opener moves b.street
  player_to_act_is opener starts =
      first_same b.setup (has_to_move_seen b) (has_to_move b.setup moves b.street) to_move_is (after_last (last_seen b) (seat_after b.setup) opener) starts
      ∙ ap (first_in_turn b.setup (has_to_move b.setup moves b.street)) (next_is opener)
