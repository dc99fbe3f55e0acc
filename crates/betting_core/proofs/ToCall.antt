-- What a seat owes, may fold, calls and brings in, after a past for which the numbers stand.
use Rattle.std.proofs.Common.{◌≡◌, ℕ, ◌-◌, min, true, false, Option, None, Some, is_none, refl, sym, ap, ◌∙◌}
use Rattle.std.specs.Option.{option_map}
use Rattle.chip_ledger.specs.declared.numbers.Seat.{Seat}
use Rattle.chip_ledger.specs.Seat.{IsSeatOf}
use Rattle.chip_ledger.specs.SeatRow.{amount_of}
use Rattle.play_event.specs.declared.reason.Due.{Due}
use Rattle.play_event.specs.declared.reason.Due.TheVariants as dues
use Rattle.play_event.specs.Amounts.{bring_in_target}
use Rattle.play_event.specs.Chips.{all_in}
use Rattle.play_event.specs.MoveReasons.{chips_to_call}
use Rattle.play_event.specs.Openers.{TheSeat}
use Rattle.play_event.specs.Past.{Past, moves_of}
use Rattle.play_event.specs.CurrentBet.{to_call, current_bet}
use Rattle.play_event.specs.Reasons.{why}
use Rattle.play_event.specs.Said.{Fold}
use Rattle.betting_numbers.specs.declared.betting_state.BettingState.{BettingState}
use Rattle.betting_core.specs.Seen.{moved_last}
use Rattle.betting_numbers.specs.LegalMoves.{IsTurn}
use Rattle.betting_numbers.specs.Seen.{all_in_seen, to_call_seen}
use Rattle.betting_numbers.specs.Standing.{StandsFor}
use Rattle.betting_numbers.specs.Why.{bring_in_seen, call_seen, fold_reason, now_reason}
use Rattle.betting_numbers.proofs.Bridge.{all_in_is, owed_is, current_bet_is}
use Rattle.betting_numbers.proofs.InTurn.{fold_moves}

module _ (b : BettingState) (seat : ℕ) (past : Past) (stands : StandsFor b past) (in_hand : IsSeatOf b.setup.stacks.seats seat) where
  pub owed_after : to_call_seen b seat ≡ to_call b.setup (moves_of past) b.street seat
  owed_after = owed_is b (moves_of past) stands.standing seat in_hand

  pub fold_after : b.due ≡ dues.Move → IsTurn b past (TheSeat seat) → is_none (fold_reason b (Some seat) seat) ≡ is_none (why b.setup b.rules past (Fold (Some seat)))
  fold_after due turned = sym (ap is_none (fold_moves b past stands (Some seat) seat (ap (now_reason true false) due) in_hand turned))

  pub call_after : call_seen b seat - amount_of b.bets seat ≡ chips_to_call b.setup (moves_of past) b.street seat
  call_after =
      ap (λ p. min p (all_in_seen b seat) - amount_of b.bets seat) (current_bet_is b (moves_of past) stands.standing)
      ∙ ap (λ a. min (current_bet b.setup (moves_of past) b.street) a - amount_of b.bets seat) (all_in_is b (moves_of past) stands.standing seat in_hand)
      ∙ ap (λ c. min (current_bet b.setup (moves_of past) b.street) (all_in b.setup (moves_of past) b.street seat) - c) (stands.standing.bets seat in_hand)

  pub bring_in_after : bring_in_seen b seat ≡ bring_in_target b.setup (moves_of past) b.street seat
  bring_in_after = ap (λ n. min b.setup.bring_in n) (all_in_is b (moves_of past) stands.standing seat in_hand)

-- nobody moved yet, by the seat that is kept as the last one
none_moved : (last : Option Seat) → is_none last ≡ is_none (option_map (λ (s : Seat). s.number) last)
none_moved None = refl
none_moved (Some seat) = refl

pub unmoved_after : (b : BettingState) (past : Past) → StandsFor b past → is_none b.last ≡ is_none (moved_last (moves_of past) b.street)
unmoved_after b past stands = none_moved b.last ∙ ap is_none stands.standing.last
