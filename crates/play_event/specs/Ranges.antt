-- The ranges of the events of a canonical script: seats of the hand, numbers of cards, and chips.
use Rattle.std.specs.Prelude.{ℕ, ◌≤◌, length, Some, None}
use Rattle.chip_ledger.specs.declared.numbers.TheConstants.{MOST_CHIPS}
use Rattle.play_event.specs.declared.event.Spelled.TheVariants as spelled
use Rattle.play_event.specs.Said as said
use Rattle.play_event.specs.Said.{Said}
use Rattle.chip_ledger.specs.Seat.{IsSeatOf}

-- An event of a canonical script in a hand with this number of seats. Its seat is one of the hand.
-- A deal to a seat has one to seven cards, a deal to the board one to five; a discard has at most
-- five, and none if the seat stands pat; a show has one to seven. A call states no chips, and a
-- raise names its target, which is at most the greatest amount that a hand may have.
abbrev pub IsInRange : ℕ → Said → Type 0
IsInRange seats (said.Hole seat slots) =
    IsSeatOf seats seat × (1 ≤ length slots) × (length slots ≤ 7)
IsInRange seats (said.Board cards) = (1 ≤ length cards) × (length cards ≤ 5)
IsInRange seats (said.Fold (Some seat)) = IsSeatOf seats seat
IsInRange seats (said.Call (Some seat) None) = IsSeatOf seats seat
IsInRange seats (said.Raise (Some seat) (spelled.To target)) =
    IsSeatOf seats seat × (target ≤ MOST_CHIPS)
IsInRange seats (said.BringIn (Some seat)) = IsSeatOf seats seat
IsInRange seats (said.Discard seat slots) = IsSeatOf seats seat × (length slots ≤ 5)
IsInRange seats (said.Show seat cards) =
    IsSeatOf seats seat × (1 ≤ length cards) × (length cards ≤ 7)
IsInRange seats (said.Muck seat) = IsSeatOf seats seat
IsInRange seats _ = ⊥
