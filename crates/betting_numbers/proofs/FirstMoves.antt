-- The opener of a street on which nobody has moved has to move if anybody has.
use Rattle.std.proofs.Common.{◌≡◌, ℕ, ◌+◌, ◌-◌, ◌≤◌, Bool, true, false, ◌&&◌, ◌||◌, ◌==◌, not, nat_lt, nat_le, cond, if◌then◌else◌, List, [], ◌∷◌, Option, Some, None, find, refl, sym, ap, ◌∙◌, arith}
use Rattle.std.specs.List.{list_any, range_with_len}
use Rattle.std.specs.Option.{option_or}
use Rattle.std.proofs.lemmas.Bool.{true≢false, and_parts, eqb-true, false_from_ne_true, le-ltb, leb-false, not-false, true_from_ne_false}
use Rattle.std.proofs.lemmas.List.Folds.{find-append}
use Rattle.chip_ledger.specs.declared.numbers.Seat.{Seat}
use Rattle.chip_ledger.specs.LiveRow.{flag_of}
use Rattle.chip_ledger.proofs.SeatLists.{any_seats, none_at}
use Rattle.card_set.proofs.Any.{none_passes}
use Rattle.card_set.proofs.Ranges.{find_here}
use Rattle.card_set.proofs.Tests.{second_fails}
use Rattle.play_event.specs.declared.setup.Setup.{Setup}
use Rattle.play_event.specs.Past.{Past, Move, moves_of, moves_on}
use Rattle.play_event.specs.CurrentBet.{current_bet}
use Rattle.play_event.specs.Due.{has_acted_since_raise}
use Rattle.play_event.specs.Seats.{all_seats}
use Rattle.play_event.specs.Openers.{TheSeat, in_turn, seat_after}
use Rattle.play_event.specs.PlayerToAct.{first_in_turn}
use Rattle.betting_numbers.specs.declared.betting_state.BettingState.{BettingState}
use Rattle.chip_ledger.specs.SeatsSaid.{seat_said}
use Rattle.betting_numbers.specs.Seen.{can_act_seen, to_call_seen, able_count_seen, has_to_move_seen, is_move_due_seen, after_last, last_seen, player_to_act_seen}
use Rattle.betting_numbers.specs.Standing.{StandsFor, newest_seat}
use Rattle.betting_numbers.proofs.OneChanged.{another_passes}
use Rattle.chip_ledger.specs.Seat.{IsSeatOf}

-- nobody has moved on the street if there is no last move
pub no_moves : (moves : List Move) → newest_seat moves ≡ None → moves ≡ []
no_moves [] is = refl
no_moves (move ∷ before) is = absurd cc

none_since_by : (setup : Setup) (move : Move) (before : List Move) (street seat : ℕ) (here : Bool) → (moves_on street before ≡ [] → has_acted_since_raise setup before street seat ≡ false) → cond here (move ∷ moves_on street before) (moves_on street before) ≡ [] → (if here then ((move.seat == seat) || (nat_le move.to (current_bet setup before street) && has_acted_since_raise setup before street seat)) else has_acted_since_raise setup before street seat) ≡ false
none_since_by setup move before street seat true later is = absurd cc
none_since_by setup move before street seat false later is = later is

pub none_since_start : (setup : Setup) (moves : List Move) (street seat : ℕ) → moves_on street moves ≡ [] → has_acted_since_raise setup moves street seat ≡ false
none_since_start setup [] street seat none = refl
none_since_start setup (move ∷ before) street seat none =
    none_since_by setup move before street seat (move.street == street) (none_since_start setup before street seat) none

pub all_true : (a x : Bool) → (a && (x || true)) ≡ a
all_true true true = refl
all_true true false = refl
all_true false x = refl

-- if fewer than two seats can act, each that can is this one
pub only_able : (b : BettingState) (first : ℕ) → IsSeatOf b.setup.stacks.seats first → can_act_seen b first ≡ true → nat_le 2 (able_count_seen b) ≡ false → (k : ℕ) → 1 ≤ k → k ≤ b.setup.stacks.seats → can_act_seen b k ≡ true → k ≡ first
only_able b first in_hand able few k low high able_k =
    let none : list_any (λ j. can_act_seen b j && not (j == first)) (all_seats b.setup) ≡ false =
    another_passes (can_act_seen b) 1 b.setup.stacks.seats first in_hand.first (omega (arith, in_hand.last))
    ∙ ap (λ (own : Bool). nat_lt (cond own 1 0) (able_count_seen b)) able
    ∙ le-ltb 1 (able_count_seen b) (omega (arith, leb-false 2 (able_count_seen b) few)) in
    eqb-true k first (not-false (k == first) (second_fails (can_act_seen b k) (not (k == first)) able_k (none_at (λ j. can_act_seen b j && not (j == first)) b.setup.stacks.seats k low high none)))

module _ (b : BettingState) (past : Past) (stands : StandsFor b past) (last : b.last ≡ None) (first : ℕ) (in_hand : IsSeatOf b.setup.stacks.seats first) (able : can_act_seen b first ≡ true) (some : is_move_due_seen b ≡ true) where
  fresh : flag_of b.acted_since_raise first ≡ false
  fresh =
      stands.standing.acted_since_raise first in_hand
      ∙ none_since_start b.setup (moves_of past) b.street first (no_moves (moves_on b.street (moves_of past)) (sym stands.standing.last ∙ ap (λ (o : Option Seat). seat_said o) last))

  moves_by : (many : Bool) → nat_le 2 (able_count_seen b) ≡ many → has_to_move_seen b first ≡ true
  moves_by true is =
      ap (λ (since : Bool). can_act_seen b first && (if since then false else (nat_lt 0 (to_call_seen b first) || nat_le 2 (able_count_seen b)))) fresh
      ∙ ap (λ (many : Bool). can_act_seen b first && (nat_lt 0 (to_call_seen b first) || many)) is
      ∙ all_true (can_act_seen b first) (nat_lt 0 (to_call_seen b first))
      ∙ able
  moves_by false is =
      true_from_ne_false (has_to_move_seen b first) (λ fails.
      let none : list_any (has_to_move_seen b) (all_seats b.setup) ≡ false =
      any_seats (has_to_move_seen b) (λ k. false) b.setup.stacks.seats (λ k low high. false_from_ne_true (has_to_move_seen b k) (λ moves.
      let able_k : can_act_seen b k ≡ true = (and_parts (can_act_seen b k) (if flag_of b.acted_since_raise k then false else (nat_lt 0 (to_call_seen b k) || nat_le 2 (able_count_seen b))) moves).0 in
      true≢false (sym moves ∙ ap (has_to_move_seen b) (only_able b first in_hand able is k low high able_k) ∙ fails)))
      ∙ none_passes (λ k. false) (all_seats b.setup) (λ k. refl) in
      true≢false (sym some ∙ none))

  -- so it is its turn
  pub opener_turn : in_turn (Some first) ≡ player_to_act_seen b (TheSeat first)
  opener_turn =
      let n = b.setup.stacks.seats in
      let said : last_seen b ≡ None = ap (λ (o : Option Seat). seat_said o) last in
      sym (
      ap (λ (o : Option ℕ). first_in_turn b.setup (has_to_move_seen b) (after_last o (seat_after b.setup) (TheSeat first))) said
      ∙ ap in_turn (
      find-append (has_to_move_seen b) (range_with_len first (n + 1 - first)) (range_with_len 1 (first - 1))
      ∙ ap (λ (o : Option ℕ). option_or o (find (has_to_move_seen b) (range_with_len 1 (first - 1)))) (find_here (has_to_move_seen b) first (n + 1 - first) (omega (arith, in_hand.last)) (moves_by (nat_le 2 (able_count_seen b)) refl))
      )
      )
