-- The first seat that passes a test, found by a walk over the seats.
use Rattle.std.proofs.Common.{◌≡◌, ◌+◌, ◌<◌, ℕ, Bool, true, false, find, is_some, Some, None, sym, ◌∙◌, ap, arith}
use Rattle.std.specs.List.{list_any}
use Rattle.chip_ledger.specs.Seat.{seats_of}
use Rattle.chip_ledger.proofs.SeatLists.{none_at}
use Rattle.card_set.proofs.Finding.{some_found}
use Rattle.card_set.proofs.NumbersOfRange.{find_first}
use Rattle.card_set.proofs.Options.{is_none_none, none_some}

-- no seat before it passes, and it does
pub first_seat : (p : ℕ → Bool) (index seats : ℕ) → index < seats → list_any p (seats_of index) ≡ false → p (index + 1) ≡ true → find p (seats_of seats) ≡ Some (index + 1)
first_seat p index seats within none passes =
    find_first p 1 seats (index + 1) (omega arith) (omega (arith, within)) passes
    (λ other least most. none_at p index other least (omega (arith, most)) none)

-- the same, if a search before it finds none
pub found_first : (p : ℕ → Bool) (index seats : ℕ) → index < seats → find p (seats_of index) ≡ None → p (index + 1) ≡ true → find p (seats_of seats) ≡ Some (index + 1)
found_first p index seats within none passes =
    first_seat p index seats within (sym (some_found p (seats_of index)) ∙ ap is_some none) passes

-- no seat passes
pub no_seat : (p : ℕ → Bool) (seats : ℕ) → list_any p (seats_of seats) ≡ false → find p (seats_of seats) ≡ None
no_seat p seats none =
    is_none_none (find p (seats_of seats)) (none_some (find p (seats_of seats)) (some_found p (seats_of seats) ∙ none))
