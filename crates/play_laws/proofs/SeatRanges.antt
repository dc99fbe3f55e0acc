-- What passes for a seat of the hand passes for some seat.
use Rattle.std.proofs.Common.{◌≡◌, ℕ, ◌≤◌, Bool, true, arith}
use Rattle.std.specs.List.{list_any}
use Rattle.card_set.proofs.NumbersOfRange.{any_in_range}
use Rattle.play_event.specs.declared.setup.Setup.{Setup}
use Rattle.play_event.specs.Seats.{all_seats}

-- a test that passes for a seat of the hand passes somewhere
pub any_seat : (setup : Setup) (p : ℕ → Bool) (seat : ℕ) → 1 ≤ seat → seat ≤ setup.stacks.seats → p seat ≡ true → list_any p (all_seats setup) ≡ true
any_seat setup p seat least most is = any_in_range p 1 setup.stacks.seats seat least (omega (arith, most)) is
