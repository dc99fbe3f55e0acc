-- The betting and the cards of a hand describe the same past.
use Rattle.std.specs.Prelude.{◌≡◌, true, false}
use Rattle.betting_numbers.specs.declared.betting_state.BettingState.{BettingState}
use Rattle.betting_numbers.specs.Standing as betting
use Rattle.betting_numbers.specs.UpTo.{StandsUpTo}
use Rattle.card_places.specs.declared.card_state.CardState.{CardState}
use Rattle.deal_core.specs.Standing as cards
use Rattle.play_event.specs.Past.{Past}
use Rattle.play_laws.specs.Done.{is_done}

-- Both describe the past, in one game and with the same seats.
pub record StandTogether (b : BettingState) (t : CardState) (past : Past) : Type 0 where
  -- the cards are of the game of the betting
  pub code_is : b.setup.code ≡ t.table.code
  -- and have its seats
  pub seats : b.setup.stacks.seats ≡ t.seats
  -- the betting describes the past
  pub betting : betting.StandsFor b past
  -- and so do the cards
  pub cards : cards.StandsFor t past

-- The cards describe the past; the betting does so only up to what is due, if that is complete.
pub record StandUpToDue (b : BettingState) (t : CardState) (past : Past) : Type 0 where
  -- the cards are of the game of the betting
  pub code_is : b.setup.code ≡ t.table.code
  -- and have its seats
  pub seats : b.setup.stacks.seats ≡ t.seats
  -- the cards describe the past
  pub cards : cards.StandsFor t past
  -- if the deal, draw or show that is due is not complete, the betting describes the past
  pub kept : is_done b.setup past b.due ≡ false → betting.StandsFor b past
  -- if it is complete, the betting describes the past up to it
  pub ended : is_done b.setup past b.due ≡ true → StandsUpTo b past
