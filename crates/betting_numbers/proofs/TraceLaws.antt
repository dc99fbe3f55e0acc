-- The move by the running numbers is the move of the trace.
use Rattle.std.proofs.Common.{◌≡◌, ℕ, Bool, ◌&&◌, ◌||◌, not, List, ◌∷◌, [], refl, sym, ap, ◌∙◌}
use Rattle.play_event.specs.declared.event.Spelled.TheVariants as spelled
use Rattle.play_event.specs.declared.setup.Reopen.TheVariants as reopen
use Rattle.play_event.specs.declared.limit.Limit.{Limit}
use Rattle.play_event.specs.declared.limit.Limit.TheVariants as limits
use Rattle.play_event.specs.Past.{Past, Move, Moved, Act, is_raising}
use Rattle.play_event.specs.Streets.{limit_of}
use Rattle.play_event.specs.Chips.{street_chips}
use Rattle.play_event.specs.CurrentBet.{current_bet}
use Rattle.play_event.specs.Raising.{is_closed, is_reopened}
use Rattle.play_event.specs.Trace.{TracedMove, traced_move, unit_target_in}
use Rattle.betting_numbers.specs.declared.betting_state.BettingState.{BettingState}
use Rattle.betting_numbers.specs.Seen.{current_bet_seen}
use Rattle.betting_numbers.specs.Standing.{Standing}
use Rattle.betting_numbers.specs.LegalMoves.{move_of}
use Rattle.betting_numbers.specs.Traced.{is_closed_seen, unit_seen, traced_seen}
use Rattle.betting_numbers.specs.Why.{is_legal_seen, floor_by}
use Rattle.betting_numbers.proofs.Bridge.{current_bet_is}
use Rattle.betting_numbers.proofs.WhyRaise.{target_is, open_is, legal_is}
use Rattle.chip_ledger.specs.Seat.{IsSeatOf}

abbrev traced_by : ℕ → ℕ → Act → (from to the_current_bet : ℕ) → Bool → ℕ → TracedMove
traced_by street seat act from to the_current_bet closed unit_to = record { street = street; seat = seat; act = act; from = from; to = to; price = the_current_bet; closed = closed; unit_to = unit_to }

module _ (b : BettingState) (moves : List Move) (st : Standing b.setup b.street b moves) (m : ℕ) (in_hand : IsSeatOf b.setup.stacks.seats m) (limit : Limit) (limit_is : limit_of b.setup.code ≡ limit) where
  closed_is : (target : ℕ) → is_closed_seen limit b m target ≡ is_closed b.setup moves b.street m target
  closed_is target =
      ap (λ o. not o || not (is_legal_seen limit b (floor_by reopen.Full 0 b) m target)) (sym (open_is b moves st m in_hand limit limit_is reopen.Full))
      ∙ ap (λ l. not (is_reopened reopen.Full b.setup moves b.street m) || not l) (sym (legal_is b moves st m in_hand limit limit_is reopen.Full target))

  unit_by : (l : Limit) → unit_seen l b m ≡ unit_target_in l b.setup moves b.street m
  unit_by limits.Fixed = sym (target_is b moves st m in_hand spelled.Unit)
  unit_by limits.Pot = refl
  unit_by limits.No = refl

  pub traced_is : (act : Act) (target : ℕ) → traced_seen limit b m act target ≡ traced_move b.setup (move_of b moves m act target) moves
  traced_is act target =
      ap (λ f. traced_by b.street m act f target (current_bet_seen b) (is_raising act && is_closed_seen limit b m target) (unit_seen limit b m)) (st.bets m in_hand)
      ∙ ap (λ p. traced_by b.street m act (street_chips b.setup moves b.street m) target p (is_raising act && is_closed_seen limit b m target) (unit_seen limit b m)) (current_bet_is b moves st)
      ∙ ap (λ c. traced_by b.street m act (street_chips b.setup moves b.street m) target (current_bet b.setup moves b.street) (is_raising act && c) (unit_seen limit b m)) (closed_is target)
      ∙ ap (λ u. traced_by b.street m act (street_chips b.setup moves b.street m) target (current_bet b.setup moves b.street) (is_raising act && is_closed b.setup moves b.street m target) u) (unit_by limit)
      ∙ ap (λ l. traced_by b.street m act (street_chips b.setup moves b.street m) target (current_bet b.setup moves b.street) (is_raising act && is_closed b.setup moves b.street m target) (unit_target_in l b.setup moves b.street m)) (sym limit_is)

-- the move that ends a past, or this one
newest_move : Move → Past → Move
newest_move other [] = other
newest_move other (Moved move ∷ before) = move
newest_move other (_ ∷ before) = other

pub same_move : (one other : Move) (past : Past) → ◌≡◌ {A = Past} (Moved one ∷ past) (Moved other ∷ past) → one ≡ other
unfolding newest_move
same_move one other past is = ap (newest_move one) is
