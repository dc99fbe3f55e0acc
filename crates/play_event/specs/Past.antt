-- The past of a hand is the list of its events as they took place, the newest first. The hand has
-- no other state.
use Rattle.std.specs.Prelude.{ℕ, Bool, true, false, ◌==◌, nat_lt, List, [], ◌∷◌, filter}
use Rattle.card_set.specs.declared.card.Card.{Card}
use Rattle.card_set.specs.declared.card.Slot.{Slot}

-- what a player did when it was his turn
pub data Act : Type 0 where
  Folded : Act
  Called : Act
  Raised : Act
  BroughtIn : Act

-- a move, with the chips that its seat had put in on the street before it and after it
pub record Move : Type 0 where
  pub street : ℕ
  pub seat : ℕ
  pub act : Act
  pub from : ℕ
  pub to : ℕ

-- an event as it took place: on a street, and by a seat or on the board
pub data Resolved : Type 0 where
  Dealt : (street seat : ℕ) → List Slot → Resolved
  Boarded : (street : ℕ) → List Card → Resolved
  Moved : Move → Resolved
  Discarded : (street seat : ℕ) → List Slot → Resolved
  Shown : (street seat : ℕ) → List Card → Resolved
  Mucked : (street seat : ℕ) → Resolved

-- the newest event first
abbrev pub Past : Type 0
Past = List Resolved

-- the street of an event
abbrev pub street_of : Resolved → ℕ
street_of (Dealt street seat cards) = street
street_of (Boarded street cards) = street
street_of (Moved move) = move.street
street_of (Discarded street seat cards) = street
street_of (Shown street seat cards) = street
street_of (Mucked street seat) = street

-- the street of the newest event, or the first street before any event
abbrev pub newest_street : Past → ℕ
newest_street [] = 1
newest_street (event ∷ before) = street_of event

-- the moves of a past
abbrev pub moves_of : Past → List Move
moves_of [] = []
moves_of (Moved move ∷ before) = move ∷ moves_of before
moves_of (Dealt street seat cards ∷ before) = moves_of before
moves_of (Boarded street cards ∷ before) = moves_of before
moves_of (Discarded street seat cards ∷ before) = moves_of before
moves_of (Shown street seat cards ∷ before) = moves_of before
moves_of (Mucked street seat ∷ before) = moves_of before

-- the moves of one street
abbrev pub moves_on : ℕ → List Move → List Move
moves_on street moves = filter (λ move. move.street == street) moves

-- the moves before a street
abbrev pub moves_before : ℕ → List Move → List Move
moves_before street moves = filter (λ move. nat_lt move.street street) moves

-- the move is a fold
abbrev pub is_folding : Act → Bool
is_folding Folded = true
is_folding Called = false
is_folding Raised = false
is_folding BroughtIn = false

-- the move is a bet or raise
abbrev pub is_raising : Act → Bool
is_raising Raised = true
is_raising Folded = false
is_raising Called = false
is_raising BroughtIn = false

-- the move is a bring-in
abbrev pub is_bringing_in : Act → Bool
is_bringing_in BroughtIn = true
is_bringing_in Folded = false
is_bringing_in Called = false
is_bringing_in Raised = false
