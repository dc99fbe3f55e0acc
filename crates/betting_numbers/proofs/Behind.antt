-- The first seat after the opener that can act is found as the seats are walked.
use Rattle.std.proofs.Common.{◌≡◌, ℕ, ◌+◌, ◌-◌, ◌<◌, ◌≤◌, Bool, true, false, ◌==◌, if◌then◌else◌, cond, Option, Some, None, IfSome, find, suc, refl, sym, ap, ◌∙◌, arith}
use Rattle.std.specs.List.{range_with_len}
use Rattle.std.specs.Option.{option_or}
use Rattle.std.proofs.lemmas.Bool.{eqb-true}
use Rattle.std.proofs.lemmas.List.Folds.{find-append}
use Rattle.chip_ledger.specs.declared.numbers.Seat.{Seat}
use Rattle.chip_ledger.specs.SeatsSaid.{seat_said}
use Rattle.card_set.proofs.Finding.{range_split}
use Rattle.card_set.proofs.Options.{or_nothing}
use Rattle.play_event.specs.PlayerToAct.{seats_from}
use Rattle.play_event.specs.Openers.{in_turn}
use Rattle.betting_numbers.specs.declared.betting_state.BettingState.{BettingState}
use Rattle.betting_numbers.specs.Seen.{first_behind_seen, can_act_seen}

-- the first of `count` seats, from seat `first` on, that can act
abbrev pub able_from : BettingState → (first count : ℕ) → Option ℕ
able_from b first count = find (can_act_seen b) (range_with_len first count)

-- the first seat above this one that can act
abbrev pub able_above : BettingState → ℕ → Option ℕ
able_above b seat = able_from b (seat + 1) (b.setup.stacks.seats - seat)

module _ (b : BettingState) where
  abbrev seats : ℕ
  seats = b.setup.stacks.seats

  nearest_by : (first count : ℕ) (nearest : Option ℕ) (able : Bool) → able ≡ can_act_seen b first → nearest ≡ able_from b (first + 1) count → (if able then Some first else nearest) ≡ able_from b first (suc count)
  nearest_by first count nearest able able_is is =
      ap (λ o. cond able (Some first) o) is
      ∙ ap (λ a. cond a (Some first) (able_from b (first + 1) count)) able_is

  -- one more seat, of all, of which some were walked
  pub nearest_more : (index seat : ℕ) (nearest : Option ℕ) (able : Bool) → index < seats → seat ≡ seats - index → able ≡ can_act_seen b seat → nearest ≡ able_from b (seats + 1 - index) index → (if able then Some seat else nearest) ≡ able_from b (seats + 1 - (index + 1)) (index + 1)
  nearest_more index seat nearest able less is able_is found =
      let from : seats + 1 - index ≡ seat + 1 = omega (arith, less, is) in
      let to : seat ≡ seats + 1 - (index + 1) = omega (arith, less, is) in
      let more : suc index ≡ index + 1 = omega arith in
      nearest_by seat index nearest able able_is (found ∙ ap (λ f. able_from b f index) from)
      ∙ ap (able_from b seat) more
      ∙ ap (λ f. able_from b f (index + 1)) to

  -- the nearest of the seats that were walked is the first above the next one
  pub nearest_above : (index seat : ℕ) (nearest : Option ℕ) → index < seats → seat ≡ seats - index → nearest ≡ able_from b (seats + 1 - index) index → nearest ≡ able_above b seat
  nearest_above index seat nearest less is found =
      let from : seats + 1 - index ≡ seat + 1 = omega (arith, less, is) in
      let left : index ≡ seats - seat = omega (arith, less, is) in
      found ∙ ap (λ f. able_from b f index) from ∙ ap (able_from b (seat + 1)) left

  either_way : (above below : Option ℕ) → option_or above (option_or below above) ≡ option_or above below
  either_way (Some seat) below = refl
  either_way None below = or_nothing below

  round_by : (seat : ℕ) (last : Bool) → (seat == seats) ≡ last → seat ≤ seats → option_or (able_above b seat) (able_from b 1 seats) ≡ find (can_act_seen b) (seats_from b.setup (if last then 1 else seat + 1))
  round_by seat true is high =
      let same : seat ≡ seats = eqb-true seat seats is in
      let none : seats - seat ≡ 0 = omega (arith, same) in
      let all : seats ≡ seats + 1 - 1 = omega arith in
      ap (λ n. option_or (able_from b (seat + 1) n) (able_from b 1 seats)) none
      ∙ ap (able_from b 1) all
      ∙ sym (find-append (can_act_seen b) (range_with_len 1 (seats + 1 - 1)) (range_with_len 1 (1 - 1)) ∙ or_nothing (able_from b 1 (seats + 1 - 1)))
  round_by seat false is high =
      let whole : seats ≡ seat + (seats - seat) = omega (arith, high) in
      let after : 1 + seat ≡ seat + 1 = omega arith in
      let above : seats - seat ≡ seats + 1 - (seat + 1) = omega arith in
      let below : seat ≡ seat + 1 - 1 = omega arith in
      ap (λ o. option_or (able_above b seat) o) (
      ap (able_from b 1) whole
      ∙ ap (find (can_act_seen b)) (range_split 1 seat (seats - seat))
      ∙ find-append (can_act_seen b) (range_with_len 1 seat) (range_with_len (1 + seat) (seats - seat))
      ∙ ap (λ f. option_or (able_from b 1 seat) (able_from b f (seats - seat))) after
      )
      ∙ either_way (able_above b seat) (able_from b 1 seat)
      ∙ ap (λ n. option_or (able_from b (seat + 1) n) (able_from b 1 seat)) above
      ∙ ap (λ n. option_or (able_from b (seat + 1) (seats + 1 - (seat + 1))) (able_from b 1 n)) below
      ∙ sym (find-append (can_act_seen b) (range_with_len (seat + 1) (seats + 1 - (seat + 1))) (range_with_len 1 (seat + 1 - 1)))

  -- all seats were walked
  behind_all : (seat : ℕ) (behind nearest : Option ℕ) → seat ≤ seats → behind ≡ able_above b seat → nearest ≡ able_from b (seats + 1 - seats) seats → in_turn (option_or behind nearest) ≡ first_behind_seen b seat
  behind_all seat behind nearest high behind_is nearest_is =
      let one : seats + 1 - seats ≡ 1 = omega arith in
      ap in_turn (
      ap (λ o. option_or o nearest) behind_is
      ∙ ap (λ o. option_or (able_above b seat) o) (nearest_is ∙ ap (λ f. able_from b f seats) one)
      ∙ round_by seat (seat == seats) refl high
      )

-- the number of the one seat or the other
either_said : (one other : Option Seat) → seat_said (option_or one other) ≡ option_or (seat_said one) (seat_said other)
either_said None other = refl
either_said (Some seat) other = refl

-- what holds of both
pub either_in : (one other : Option Seat) (P : Seat → Type 0) → IfSome one P → IfSome other P → IfSome (option_or one other) P
either_in None other P first second = second
either_in (Some seat) other P first second = first

-- the seat after the opener that is found
pub behind_found : (b : BettingState) (first behind nearest : Option Seat) → IfSome first (λ seat. seat.number ≤ b.setup.stacks.seats) → IfSome first (λ seat. seat_said behind ≡ able_above b seat.number) → seat_said nearest ≡ able_from b (b.setup.stacks.seats + 1 - b.setup.stacks.seats) b.setup.stacks.seats → IfSome first (λ seat. in_turn (seat_said (option_or behind nearest)) ≡ first_behind_seen b seat.number)
behind_found b None behind nearest in_hand behind_is nearest_is = tt
behind_found b (Some seat) behind nearest in_hand behind_is nearest_is =
    ap in_turn (either_said behind nearest) ∙ behind_all b seat.number (seat_said behind) (seat_said nearest) in_hand behind_is nearest_is
