-- How many hands are read, in any notation.
use Rattle.std.specs.Prelude.{◌≡◌, ℕ, List, length, Result, Ok}

-- this number of hands is read
pub record GivesHands {Hand Wrong : Type 0} (found : Result (List Hand) Wrong) (count : ℕ)
    : Type 0 where
  pub hands : List Hand
  pub reads : found ≡ Ok hands
  pub counted : length hands ≡ count
