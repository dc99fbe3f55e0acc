-- What betting and cards need of each other, by what the other gives.
use Rattle.std.proofs.Common.{◌≡◌, ℕ, ◌≤◌, Bool, true, false, None, refl, sym, ap, subst, ◌∙◌}
use Rattle.chip_ledger.specs.declared.live_row.LiveRow.{LiveRow}
use Rattle.chip_ledger.specs.LiveRow.{flag_of}
use Rattle.play_event.specs.declared.reason.Due.{Due}
use Rattle.play_event.specs.declared.reason.Due.TheVariants as dues
use Rattle.play_event.specs.Due.{turn}
use Rattle.play_event.specs.Games.{street_count}
use Rattle.play_event.specs.Past.{Past, moves_of}
use Rattle.play_event.specs.Reasons.{why}
use Rattle.play_event.specs.Said.{Said}
use Rattle.play_event.specs.Scripts.{with_event}
use Rattle.play_event.specs.Seats.{is_live}
use Rattle.betting_numbers.specs.declared.betting_state.BettingState.{BettingState}
use Rattle.betting_numbers.specs.UpSeen.{HoldsUps}
use Rattle.play_event.specs.declared.up_cards.UpRow.{UpRow}
use Rattle.play_event.specs.declared.code.Code.{Code}
use Rattle.play_event.specs.SeatSlots.{ups_of}
use Rattle.play_event.specs.Table.{up_cards}
use Rattle.betting_numbers.specs.Standing.{StandsFor}
use Rattle.betting_numbers.specs.UpTo.{StandsUpTo}
use Rattle.betting_numbers.proofs.LegalCards.{card_kept, card_ended}
use Rattle.card_places.specs.declared.card_state.CardState.{CardState}
use Rattle.deal_core.specs.Standing.{IsNow}
use Rattle.deal_core.specs.Standing as cards
use Rattle.play_laws.specs.CardEvents.{is_card_said}
use Rattle.play_laws.specs.Done.{is_done}
use Rattle.replay_core.specs.Together.{StandTogether, StandUpToDue}
use Rattle.chip_ledger.specs.Seat.{IsSeatOf}

-- what the cards need of a past, by the views of the betting
pub now_of : (b : BettingState) (t : CardState) (live : LiveRow) (past : Past) → StandTogether b t past → ((seat : ℕ) → IsSeatOf b.setup.stacks.seats seat → flag_of live seat ≡ is_live (moves_of past) seat) → IsNow t b.due live b.setup past
now_of b t live past both lives = record {
  code_is = both.code_is;
  seats = both.seats;
  stands = both.cards;
  due_is = ap (λ (p : ℕ × Due). p.1) both.betting.turn_is;
  lives = λ seat in_hand. lives seat (record { first = in_hand.first; last = subst (λ (n : ℕ). seat ≤ n) (sym both.seats) in_hand.last });
}

-- the row of up-cards is that of the past
pub ups_of_past : (code : Code) (b : BettingState) (t : CardState) (up : UpRow) (past : Past) → b.setup.code ≡ code → StandTogether b t past
    → ((seat : ℕ) → IsSeatOf t.seats seat → ups_of up seat ≡ up_cards code past seat) → HoldsUps b.setup up past
ups_of_past code b t up past code_is both row = λ seat low high.
    row seat (record { first = low; last = subst (λ (n : ℕ). seat ≤ n) both.seats high })
    ∙ ap (λ game. up_cards game past seat) (sym code_is)

-- the same, if this is the due of the betting
pub now_at : (b : BettingState) (t : CardState) (due : Due) (live : LiveRow) (past : Past) → StandTogether b t past → due ≡ b.due → ((seat : ℕ) → IsSeatOf b.setup.stacks.seats seat → flag_of live seat ≡ is_live (moves_of past) seat) → IsNow t due live b.setup past
now_at b t due live past both is lives = subst (λ (d : Due). IsNow t d live b.setup past) (sym is) (now_of b t live past both lives)

-- which seats are live, whether what is due is complete or not
lives_by : (b : BettingState) (t : CardState) (live : LiveRow) (past : Past) → StandUpToDue b t past
    → (StandsFor b past → (seat : ℕ) → IsSeatOf b.setup.stacks.seats seat → flag_of live seat ≡ is_live (moves_of past) seat)
    → (StandsUpTo b past → (seat : ℕ) → IsSeatOf b.setup.stacks.seats seat → flag_of live seat ≡ is_live (moves_of past) seat)
    → (done : Bool) → is_done b.setup past b.due ≡ done → (seat : ℕ) → IsSeatOf b.setup.stacks.seats seat → flag_of live seat ≡ is_live (moves_of past) seat
lives_by b t live past half stands up_to true is = up_to (half.ended is)
lives_by b t live past half stands up_to false is = stands (half.kept is)

-- what the cards need of a past if what is due may be complete
pub now_up_to : (b : BettingState) (t : CardState) (live : LiveRow) (past : Past) → StandUpToDue b t past
    → (StandsFor b past → (seat : ℕ) → IsSeatOf b.setup.stacks.seats seat → flag_of live seat ≡ is_live (moves_of past) seat)
    → (StandsUpTo b past → (seat : ℕ) → IsSeatOf b.setup.stacks.seats seat → flag_of live seat ≡ is_live (moves_of past) seat)
    → IsNow t (turn b.setup past).1 live b.setup past
now_up_to b t live past half stands up_to = record {
  code_is = half.code_is;
  seats = half.seats;
  stands = half.cards;
  due_is = refl;
  lives = λ seat in_hand. lives_by b t live past half stands up_to (is_done b.setup past b.due) refl seat (record { first = in_hand.first; last = subst (λ (n : ℕ). seat ≤ n) (sym half.seats) in_hand.last });
}

-- after a legal event of cards both describe the past, except for the end of what is due
pub up_to_after : (b : BettingState) (past : Past) (event : Said) (t next : CardState) → StandTogether b t past → is_card_said event ≡ true → why b.setup b.rules past event ≡ None
    → 1 ≤ b.street → b.street ≤ street_count b.setup.code → next.table.code ≡ t.table.code → next.seats ≡ t.seats → cards.StandsFor next (with_event b.setup event past) → StandUpToDue b next (with_event b.setup event past)
up_to_after b past event t next both card legal from_one within same_code same_seats after = record {
  code_is = both.code_is ∙ sym same_code;
  seats = both.seats ∙ sym same_seats;
  cards = after;
  kept = card_kept b b.rules past event both.betting card legal from_one within;
  ended = card_ended b b.rules past event both.betting card legal from_one within;
}

-- if the hand is over, both describe the past
both_over : (b : BettingState) (t : CardState) (past : Past) → StandUpToDue b t past → b.due ≡ dues.Over → StandTogether b t past
both_over b t past half is = record { code_is = half.code_is; seats = half.seats; betting = half.kept (ap (is_done b.setup past) is); cards = half.cards }

-- after a second end both describe the past: what is complete after what was ended is the showdown,
-- and after that nothing is due
pub end_by : (b next : BettingState) (t after : CardState) (past : Past) (more : Bool) → (more ≡ false → StandTogether next after past) → (more ≡ true → is_done b.setup past b.due ≡ true) → (is_done b.setup past b.due ≡ true → b.due ≡ dues.Show)
    → (more ≡ true → b.due ≡ dues.Show → next.due ≡ dues.Over) → StandUpToDue next after past → StandTogether next after past
end_by b next t after past false undone done shows over half = undone refl
end_by b next t after past true undone done shows over half = both_over next after past half (over refl (shows (done refl)))
