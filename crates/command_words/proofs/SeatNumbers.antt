-- A seat is the one with its number.
use Rattle.std.proofs.Common.{◌≡◌, ℕ, ◌≤◌, ◌↔◌, Bool, true, false, Option, Some, None, IsSome, IfSome, refl, ap}
use Rattle.std.specs.Prelude.{leb}
use Rattle.std.proofs.lemmas.Bool.{leb-true, le-leb}
use Rattle.chip_ledger.specs.declared.numbers.Seat.{Seat}
use Rattle.chip_ledger.proofs.Same.{seat_same}
use Rattle.command_words.specs.Numbers.{seat_of, seat_where}

-- what is found for a number is the seat with it if it is that of a seat, and nothing if not
pub seat_found : (number : ℕ) (found : Option Seat) → (IsSome found ↔ ((1 ≤ number) × (number ≤ 10)))
    → IfSome found (λ seat. seat.number ≡ number) → found ≡ seat_of number
seat_found number found seated value = go found seated value (leb 1 number) (leb number 10) refl refl
  where
    go : (found : Option Seat) → (IsSome found ↔ ((1 ≤ number) × (number ≤ 10))) → IfSome found (λ seat. seat.number ≡ number)
        → (first last : Bool) (is_first : leb 1 number ≡ first) (is_last : leb number 10 ≡ last)
        → found ≡ seat_where number first last is_first is_last
    go (Some seat) seated value true true is_first is_last = ap Some (seat_same seat _ value)
    go (Some seat) seated value true false is_first is_last =
        let out : leb number 10 ≡ true = le-leb number 10 (seated.0 refl).1 in cc
    go (Some seat) seated value false last is_first is_last =
        let out : leb 1 number ≡ true = le-leb 1 number (seated.0 refl).0 in cc
    go None seated value true true is_first is_last =
        let some : IsSome {T = Seat} None = seated.1 (leb-true 1 number is_first, leb-true number 10 is_last) in cc
    go None seated value true false is_first is_last = refl
    go None seated value false last is_first is_last = refl
