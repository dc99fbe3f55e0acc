-- After the first move of a street it is the turn of the first seat after it that can act, or
-- nobody's.
use Rattle.std.proofs.Common.{◌≡◌, ◌≢◌, ℕ, ◌+◌, ◌-◌, ◌<◌, ◌≤◌, Bool, true, false, ◌&&◌, ◌||◌, ◌==◌, nat_lt, nat_le, if◌then◌else◌, cond, List, ◌++◌, [], ◌⊎◌, Option, Some, None, is_some, find, zero, suc, inl, inr, refl, sym, ap, subst, ◌∙◌, arith}
use Rattle.std.specs.List.{range_with_len}
use Rattle.std.proofs.lemmas.Bool.{true≢false, and_parts, cases_eq, cases_order, eqb-true, false_from_ne_true, or_parts, and_right}
use Rattle.std.proofs.lemmas.List.{append-nil}
use Rattle.std.proofs.lemmas.Option.{same_Some}
use Rattle.chip_ledger.specs.declared.numbers.Seat.{Seat}
use Rattle.chip_ledger.specs.LiveRow.{flag_of}
use Rattle.chip_ledger.specs.SeatRow.{amount_of}
use Rattle.card_set.proofs.Any.{none_passes}
use Rattle.card_set.proofs.Finding.{found_passes}
use Rattle.chip_ledger.proofs.SeatLists.{any_seats}
use Rattle.play_event.specs.declared.setup.Setup.{Setup}
use Rattle.play_event.specs.Past.{Act}
use Rattle.play_event.specs.Seats.{all_seats}
use Rattle.play_event.specs.PlayerToAct.{first_in_turn, seats_from}
use Rattle.play_event.specs.Openers.{InTurn, TheSeat, in_turn, seat_after}
use Rattle.betting_numbers.specs.declared.betting_state.BettingState.{BettingState}
use Rattle.betting_numbers.specs.Seen.{can_act_seen, to_call_seen, current_bet_seen, able_count_seen, has_to_move_seen, after_last, player_to_act_seen, first_behind_seen}
use Rattle.betting_numbers.specs.Moving.{IsMoved}
use Rattle.betting_numbers.specs.Turn.{IsFirstBehind, IsNextUp, StartsFresh}
use Rattle.betting_numbers.proofs.FirstMoves.{only_able}
use Rattle.betting_numbers.proofs.InTurn.{after_in_by, found_some}
use Rattle.betting_numbers.proofs.TargetEnds.{same_turn}
use Rattle.chip_ledger.specs.Seat.{IsSeatOf}

-- the number found among numbers in a row, and others after them, is not after one that passes
low_by : (p : ℕ → Bool) (first n k m : ℕ) (rest : List ℕ) (here : Bool) → p first ≡ here → first ≤ k → p k ≡ true → (first + 1 ≤ k → find p (range_with_len (first + 1) n ++ rest) ≡ Some m → (first + 1 ≤ m) × (m ≤ k)) → (if here then Some first else find p (range_with_len (first + 1) n ++ rest)) ≡ Some m → (first ≤ m) × (m ≤ k)
low_by p first n k m rest true is low passes later found =
    let same : first ≡ m = same_Some first m found in
    (omega (arith, same), omega (arith, same, low))
low_by p first n k m rest false is low passes later found = elim (cases_eq first k) [
  | inl same ↦ absurd (true≢false (sym passes ∙ ap p (sym same) ∙ is))
  | inr other ↦ let above = later (omega (arith, low, other)) found in (omega (arith, above.0), above.1)
]

found_low : (p : ℕ → Bool) (first n k m : ℕ) (rest : List ℕ) → first ≤ k → k < first + n → p k ≡ true → find p (range_with_len first n ++ rest) ≡ Some m → (first ≤ m) × (m ≤ k)
found_low p first zero k m rest low high passes found = absurd (omega (arith, low, high))
found_low p first (suc n) k m rest low high passes found =
    low_by p first n k m rest (p first) refl low passes (λ above later. found_low p (first + 1) n k m rest above (omega (arith, high)) passes later) found

-- a number that is found and is below those numbers is found among the others
rest_by : (p : ℕ → Bool) (first n m : ℕ) (rest : List ℕ) (here : Bool) → (find p (range_with_len (first + 1) n ++ rest) ≡ Some m → find p rest ≡ Some m) → m < first → (if here then Some first else find p (range_with_len (first + 1) n ++ rest)) ≡ Some m → find p rest ≡ Some m
rest_by p first n m rest true later below found = let same : first ≡ m = same_Some first m found in absurd (omega (arith, same, below))
rest_by p first n m rest false later below found = later found

found_rest : (p : ℕ → Bool) (first n m : ℕ) (rest : List ℕ) → m < first → find p (range_with_len first n ++ rest) ≡ Some m → find p rest ≡ Some m
found_rest p first zero m rest below found = found
found_rest p first (suc n) m rest below found =
    rest_by p first n m rest (p first) (found_rest p (first + 1) n m rest (omega (arith, below))) below found

-- no other seat passes if going round from the seat after it finds that seat
alone_by : (setup : Setup) (p : ℕ → Bool) (seat k : ℕ) (last : Bool) → (seat == setup.stacks.seats) ≡ last → IsSeatOf setup.stacks.seats seat → IsSeatOf setup.stacks.seats k → k ≢ seat → p k ≡ true → find p (seats_from setup (if last then 1 else seat + 1)) ≡ Some seat → ⊥
alone_by setup p seat k true is in_hand in_k other passes found =
    let n = setup.stacks.seats in
    let same : seat ≡ n = eqb-true seat n is in
    let low = found_low p 1 (n + 1 - 1) k seat (range_with_len 1 (1 - 1)) in_k.first (omega (arith, in_k.last)) passes found in
    other (omega (arith, low.1, same, in_k.last))
alone_by setup p seat k false is in_hand in_k other passes found =
    let n = setup.stacks.seats in
    elim (cases_order k seat) [
      | inl same ↦ other same
      | inr apart ↦ elim apart [
        | inl below ↦
            let later : find p (range_with_len 1 (seat + 1 - 1)) ≡ Some seat = found_rest p (seat + 1) (n + 1 - (seat + 1)) seat (range_with_len 1 (seat + 1 - 1)) (omega arith) found in
            let low = found_low p 1 (seat + 1 - 1) k seat [] in_k.first (omega (arith, below)) passes (ap (find p) (append-nil (range_with_len 1 (seat + 1 - 1))) ∙ later) in
            absurd (omega (arith, below, low.1))
        | inr above ↦
            let low = found_low p (seat + 1) (n + 1 - (seat + 1)) k seat (range_with_len 1 (seat + 1 - 1)) (omega (arith, above)) (omega (arith, in_k.last, above)) passes found in
            absurd (omega (arith, low.0))
      ]
    ]

-- the number found among numbers in a row, and others after them, is also found by another test
-- that passes there and that passes nowhere that the first does not
still_by : (p q : ℕ → Bool) (first n m : ℕ) (rest : List ℕ) (here : Bool) → p first ≡ here → (q first ≡ true → p first ≡ true) → q m ≡ true → (find p (range_with_len (first + 1) n ++ rest) ≡ Some m → find q (range_with_len (first + 1) n ++ rest) ≡ Some m) → (if here then Some first else find p (range_with_len (first + 1) n ++ rest)) ≡ Some m → find q (range_with_len first (suc n) ++ rest) ≡ Some m
still_by p q first n m rest true is weaker passes later found =
    let same : first ≡ m = same_Some first m found in
    ap (λ b. cond b (Some first) (find q (range_with_len (first + 1) n ++ rest))) (ap q same ∙ passes) ∙ ap Some same
still_by p q first n m rest false is weaker passes later found =
    ap (λ b. cond b (Some first) (find q (range_with_len (first + 1) n ++ rest))) (false_from_ne_true (q first) (λ some. true≢false (sym (weaker some) ∙ is))) ∙ later found

found_still : (p q : ℕ → Bool) (first n m : ℕ) (rest : List ℕ) → ((k : ℕ) → first ≤ k → k < first + n → q k ≡ true → p k ≡ true) → q m ≡ true → (find p rest ≡ Some m → find q rest ≡ Some m) → find p (range_with_len first n ++ rest) ≡ Some m → find q (range_with_len first n ++ rest) ≡ Some m
found_still p q first zero m rest weaker passes later found = later found
found_still p q first (suc n) m rest weaker passes later found =
    still_by p q first n m rest (p first) refl (weaker first (omega arith) (omega arith)) passes
    (found_still p q (first + 1) n m rest (λ k low high. weaker k (omega (arith, low)) (omega (arith, high))) passes later) found

round_still : (setup : Setup) (p q : ℕ → Bool) (start m : ℕ) → IsSeatOf setup.stacks.seats start → ((k : ℕ) → IsSeatOf setup.stacks.seats k → q k ≡ true → p k ≡ true) → q m ≡ true → find p (seats_from setup start) ≡ Some m → find q (seats_from setup start) ≡ Some m
round_still setup p q start m in_hand weaker passes found =
    let n = setup.stacks.seats in
    let before = range_with_len 1 (start - 1) in
    found_still p q start (n + 1 - start) m before (λ k low high. weaker k (record { first = omega (arith, low, in_hand.first); last = omega (arith, low, high) })) passes
    (λ later. sym (ap (find q) (append-nil before)) ∙ found_still p q 1 (start - 1) m [] (λ k low high. weaker k (record { first = low; last = omega (arith, high, in_hand.last, in_hand.first) })) passes (λ none. absurd cc) (ap (find p) (append-nil before) ∙ later))
    found

none_is : (found : Option ℕ) → is_some found ≡ false → found ≡ None
none_is None is = refl
none_is (Some seat) is = absurd (true≢false is)

the_same : (found : Option ℕ) (seat : ℕ) → TheSeat seat ≡ in_turn found → found ≡ Some seat
the_same None seat is = absurd cc
the_same (Some other) seat is = ap Some (same_turn other seat (sym is))

-- a seat that can act and is not flagged has a move to make if several can act
few_by : (able flagged owes many : Bool) → able ≡ true → flagged ≡ false → (able && (if flagged then false else (owes || many))) ≡ false → many ≡ false
few_by able true owes many able_is unflagged is = absurd (true≢false unflagged)
few_by false false owes many able_is unflagged is = absurd (true≢false (sym able_is))
few_by true false owes many able_is unflagged is = (or_parts owes many is).1

flagged_by : (able flagged more : Bool) → flagged ≡ true → (able && (if flagged then false else more)) ≡ true → ⊥
flagged_by able false more flag is = true≢false (sym flag)
flagged_by true true more flag is = true≢false (sym is)
flagged_by false true more flag is = true≢false (sym is)

module _ (b next : BettingState) (seat : ℕ) (act : Act) (target unit : ℕ) (moved : IsMoved b next seat act target unit) (in_hand : IsSeatOf b.setup.stacks.seats seat)
    (fresh : (k : ℕ) → IsSeatOf b.setup.stacks.seats k → flag_of b.acted_since_raise k ≡ false) (behind : ℕ) (in_behind : IsSeatOf b.setup.stacks.seats behind) (first : TheSeat behind ≡ first_behind_seen b seat) where
  abbrev moves : ℕ → Bool
  moves = has_to_move_seen next

  abbrev able : ℕ → Bool
  able = can_act_seen b

  -- where the search for the next seat starts
  abbrev start : ℕ
  start = seat_after b.setup seat

  start_in : IsSeatOf b.setup.stacks.seats start
  start_in = after_in_by b.setup seat (seat == b.setup.stacks.seats) refl in_hand

  found : find able (seats_from b.setup start) ≡ Some behind
  found = the_same (find able (seats_from b.setup start)) behind first

  -- the other seats can act if they could before
  able_still : (k : ℕ) → IsSeatOf b.setup.stacks.seats k → k ≢ seat → can_act_seen next k ≡ able k
  able_still k in_k other =
      ap (λ live. live && nat_lt 0 (amount_of next.setup.stacks k - amount_of next.puts k)) (moved.other_live k in_k.first other)
      ∙ ap (λ put. flag_of b.live k && nat_lt 0 (amount_of next.setup.stacks k - put)) (moved.other_puts k in_k.first other)
      ∙ ap (λ (setup : Setup). flag_of b.live k && nat_lt 0 (amount_of setup.stacks k - amount_of b.puts k)) moved.setup

  -- the seat that moved has no move to make
  not_again : moves seat ≡ true → ⊥
  not_again again = flagged_by (can_act_seen next seat) (flag_of next.acted_since_raise seat) (nat_lt 0 (to_call_seen next seat) || nat_le 2 (able_count_seen next)) moved.acted_since_raise again

  another : (k : ℕ) → moves k ≡ true → k ≢ seat
  another k moves_k same = not_again (ap moves (sym same) ∙ moves_k)

  able_then : (k : ℕ) → moves k ≡ true → can_act_seen next k ≡ true
  able_then k moves_k = (and_parts (can_act_seen next k) (if flag_of next.acted_since_raise k then false else (nat_lt 0 (to_call_seen next k) || nat_le 2 (able_count_seen next))) moves_k).0

  was_able : (k : ℕ) → IsSeatOf b.setup.stacks.seats k → moves k ≡ true → able k ≡ true
  was_able k in_k moves_k = sym (able_still k in_k (another k moves_k)) ∙ able_then k moves_k

  in_next : (k : ℕ) → IsSeatOf b.setup.stacks.seats k → IsSeatOf next.setup.stacks.seats k
  in_next k in_k = subst (λ (setup : Setup). IsSeatOf setup.stacks.seats k) (sym moved.setup) in_k

  -- if the next seat has no move to make, only it and the seat that moved can act
  none_by : moves behind ≡ false → (k : ℕ) → IsSeatOf b.setup.stacks.seats k → moves k ≡ true → (behind ≡ seat) ⊎ (behind ≡ seat → ⊥) → ⊥
  none_by stays k in_k moves_k (inl same) =
      alone_by b.setup able seat k (seat == b.setup.stacks.seats) refl in_hand in_k (another k moves_k) (was_able k in_k moves_k) (found ∙ ap Some same)
  none_by stays k in_k moves_k (inr other) =
      let able_behind : can_act_seen next behind ≡ true = able_still behind in_behind other ∙ found_passes able (seats_from b.setup start) behind found in
      let unflagged : flag_of next.acted_since_raise behind ≡ false =
      moved.other_since behind in_behind.first other ∙ and_right (nat_le target (current_bet_seen b)) (flag_of b.acted_since_raise behind) (fresh behind in_behind) in
      let few : nat_le 2 (able_count_seen next) ≡ false = few_by (can_act_seen next behind) (flag_of next.acted_since_raise behind) (nat_lt 0 (to_call_seen next behind)) (nat_le 2 (able_count_seen next)) able_behind unflagged stays in
      let at = in_next k in_k in
      let same : k ≡ behind = only_able next behind (in_next behind in_behind) able_behind few k at.first at.last (able_then k moves_k) in
      true≢false (sym moves_k ∙ ap moves same ∙ stays)

  nobody : moves behind ≡ false → find moves (seats_from b.setup start) ≡ None
  nobody stays =
      none_is (find moves (seats_from b.setup start)) (
      found_some b.setup moves start start_in
      ∙ any_seats moves (λ k. false) b.setup.stacks.seats (λ k low high. false_from_ne_true (moves k) (λ moves_k. none_by stays k (record { first = low; last = high }) moves_k (cases_eq behind seat)))
      ∙ none_passes (λ k. false) (all_seats b.setup) (λ k. refl)
      )

  found_by : (goes : Bool) → moves behind ≡ goes → (if goes then Some behind else None) ≡ find moves (seats_from b.setup start)
  found_by true goes = sym (round_still b.setup able moves start behind start_in was_able goes found)
  found_by false stays = sym (nobody stays)

  turn_next : (opener : InTurn) → in_turn (if moves behind then Some behind else None) ≡ player_to_act_seen next opener
  turn_next opener =
      ap in_turn (found_by (moves behind) refl)
      ∙ ap (λ (setup : Setup). in_turn (find moves (seats_from setup (seat_after setup seat)))) (sym moved.setup)
      ∙ ap (λ (o : Option ℕ). first_in_turn next.setup moves (after_last o (seat_after next.setup) opener)) (sym moved.last)

-- after the first move of the street
pub next_up : (b next : BettingState) (seat : ℕ) (act : Act) (target unit : ℕ) → IsMoved b next seat act target unit → IsSeatOf b.setup.stacks.seats seat → StartsFresh b → (behind : Seat) → IsFirstBehind b seat behind → IsNextUp next behind
next_up b next seat act target unit moved in_hand fresh behind is = record {
  turn = turn_next b next seat act target unit moved in_hand (fresh is.before_moves) behind.number (record { first = behind.first; last = is.in_hand }) is.first;
  in_hand = subst (λ (setup : Setup). behind.number ≤ setup.stacks.seats) (sym moved.setup) is.in_hand;
}
