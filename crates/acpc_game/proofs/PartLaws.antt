-- The first part of a text that a sign divides.
use Rattle.std.proofs.Common.{◌≡◌, ℕ, not, ◌+◌, ◌<◌, ◌≤◌, eqb, false, List, [], ◌∷◌, length, take, drop, All, arith}
use Rattle.std.specs.List.{position_or_len}
use Rattle.std.proofs.lemmas.List.Sums.{fails_before_first, prefix_len-le-length}
use Rattle.std.proofs.lemmas.List.Splits.{slice_split_first, slice_split_none}
use Rattle.acpc_game.specs.Parts.{parts_of}

pub last_part : (sign : ℕ) (text : List ℕ) → length text ≤ position_or_len (λ b. eqb b sign) text → parts_of sign text ≡ text ∷ []
last_part sign text whole =
    let none : All (λ b. eqb b sign ≡ false) text = λ k d within. fails_before_first (λ b. eqb b sign) text k d (omega (arith, whole, within)) in
    slice_split_none (λ b. eqb b sign) text none

pub first_part : (sign len : ℕ) (text : List ℕ) → len ≡ position_or_len (λ b. eqb b sign) text → len < length text → parts_of sign text ≡ take len text ∷ parts_of sign (drop (len + 1) text)
first_part sign len text is inside = rw is (slice_split_first (λ b. eqb b sign) text 0 (omega (arith, is, inside)))

pub most_place : (sign : ℕ) (text : List ℕ) → position_or_len (λ b. eqb b sign) text ≤ length text
most_place sign text = prefix_len-le-length (λ b. not (eqb b sign)) text
