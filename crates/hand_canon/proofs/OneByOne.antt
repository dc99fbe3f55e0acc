-- Lists that are made one element after another: of the elements that pass a test, of ranges, and backwards.
use Rattle.std.proofs.Common.{◌≡◌, ℕ, zero, suc, ◌+◌, ◌≤◌, List, [], ◌∷◌, ◌++◌, refl, sym, ap, ◌∙◌, arith}
use Rattle.std.specs.List.{flat_map, range_with_len}
use Rattle.std.proofs.lemmas.List.{append-nil, append_assoc}
use Rattle.std.proofs.lemmas.Grind.{flat_map-append}
use Rattle.chip_ledger.specs.Seat.{seats_of}
use Rattle.chip_ledger.proofs.Seats.{seats_of_more}

-- one more seat
pub flat_more : {X : Type 0} (f : ℕ → List X) (n : ℕ) → flat_map f (seats_of (n + 1)) ≡ flat_map f (seats_of n) ++ f (n + 1)
flat_more f n = ap (flat_map f) (seats_of_more n) ∙ flat_map-append f (seats_of n) ((n + 1) ∷ []) ∙ ap (λ l. flat_map f (seats_of n) ++ l) (append-nil (f (n + 1)))

-- what agrees at each number of a range
pub flat_agree : {X : Type 0} (f g : ℕ → List X) (first count : ℕ) → ((k : ℕ) → first ≤ k → f k ≡ g k) → flat_map f (range_with_len first count) ≡ flat_map g (range_with_len first count)
flat_agree f g first zero same = refl
flat_agree f g first (suc count) same =
    ap (λ l. l ++ flat_map f (range_with_len (first + 1) count)) (same first (omega arith))
    ∙ ap (λ l. g first ++ l) (flat_agree f g (first + 1) count (λ k from. same k (omega (arith, from))))

-- what one more seat says
pub seat_more : {X : Type 0} (f : ℕ → List X) (i : ℕ) (old mid new : List X) → mid ≡ old ++ flat_map f (seats_of i) → new ≡ mid ++ f (i + 1) → new ≡ old ++ flat_map f (seats_of (i + 1))
seat_more f i old mid new before is =
    is ∙ ap (λ l. l ++ f (i + 1)) before ∙ append_assoc old (flat_map f (seats_of i)) (f (i + 1)) ∙ ap (λ l. old ++ l) (sym (flat_more f i))
