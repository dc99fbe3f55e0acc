-- A search for all cards of a seat applies to what the seat holds.
use Rattle.std.proofs.Common.{◌≡◌, ℕ, Bool, true, false, ◌&&◌, refl}
use Rattle.play_event.specs.declared.code.Code.{Code}
use Rattle.play_event.specs.NameMatching.{can_be_named}
use Rattle.play_event.specs.Places.{is_held_by}

and_true : (b : Bool) → (b && true) ≡ b
and_true true = refl
and_true false = refl

pub all_covered : (code : Code) (seat : ℕ) → can_be_named code seat true ≡ is_held_by seat
all_covered code seat = λ i place. and_true (is_held_by seat place) i
