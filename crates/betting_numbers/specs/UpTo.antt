-- A state that stands for a past up to its due: its deal, draw or show is complete in the past, but
-- not yet ended in the state.
use Rattle.std.specs.Prelude.{◌≡◌, ℕ, ◌≤◌, ◌<◌, true, false, nat_le, None}
use Rattle.play_event.specs.Past.{Past, moves_of, newest_street}
use Rattle.play_event.specs.Seats.{is_live, live_count}
use Rattle.play_event.specs.Showing.{has_to_show}
use Rattle.play_event.specs.Due.{due_on, is_settled}
use Rattle.play_event.specs.ValidSetup.{IsValid}
use Rattle.betting_numbers.specs.declared.betting_state.BettingState.{BettingState}
use Rattle.betting_numbers.specs.Standing.{Standing}
use Rattle.play_laws.specs.Walk.{has_nothing_later}
use Rattle.play_laws.specs.Done.{is_done, HasCome}

-- The deal, the draw or the show that is due is complete in the past, but not yet ended in the
-- state.
pub record StandsUpTo (b : BettingState) (past : Past) : Type 0 where
  -- the setup is valid
  pub valid : IsValid b.setup
  -- the running numbers are those of the moves of the past
  pub standing : Standing b.setup b.street b (moves_of past)
  -- no event of the past is on a later street
  pub early : has_nothing_later past b.street ≡ true
  -- two or more seats are live
  pub more : nat_le (live_count b.setup (moves_of past)) 1 ≡ false
  -- the newest event is not on a later street
  pub reached : newest_street past ≤ b.street
  -- nothing is due on the streets between that of the newest event and that of the state
  pub quiet : (between : ℕ) → newest_street past ≤ between → between < b.street
      → due_on b.setup past between ≡ None
  -- what is due in the state is due on its street, and nothing is due before it
  pub come : HasCome b.setup past b.street b.due
  -- and it is complete
  pub done : is_done b.setup past b.due ≡ true
  -- nobody has shown or mucked while betting is possible: each live seat still has to
  pub unshown : is_settled b.setup (moves_of past) (b.street, b.due) ≡ false
      → (seat : ℕ) → is_live (moves_of past) seat ≡ true → has_to_show past seat ≡ true
