-- The first line of a text.
use Rattle.std.proofs.Common.{◌≡◌, ℕ, not, ◌+◌, ◌<◌, ◌≤◌, eqb, false, List, [], ◌∷◌, length, take, drop, All, arith}
use Rattle.std.specs.List.{position_or_len}
use Rattle.std.proofs.lemmas.List.Sums.{fails_before_first, prefix_len-le-length}
use Rattle.std.proofs.lemmas.List.Splits.{slice_split_first, slice_split_none}
use Rattle.ohh_reading.specs.Blocks.{lines_of}

-- a text without a line end is one line
pub last_line : (text : List ℕ) → length text ≤ position_or_len (λ sign. eqb sign 10) text → lines_of text ≡ text ∷ []
last_line text whole =
    let none : All (λ sign. eqb sign 10 ≡ false) text = λ k d within. fails_before_first (λ sign. eqb sign 10) text k d (omega (arith, whole, within)) in
    slice_split_none (λ sign. eqb sign 10) text none

-- the first line, and those after its end
pub first_line : (len : ℕ) (text : List ℕ) → len ≡ position_or_len (λ sign. eqb sign 10) text → len < length text → lines_of text ≡ take len text ∷ lines_of (drop (len + 1) text)
first_line len text is inside = rw is (slice_split_first (λ sign. eqb sign 10) text 0 (omega (arith, is, inside)))

pub most_len : (text : List ℕ) → position_or_len (λ sign. eqb sign 10) text ≤ length text
most_len text = prefix_len-le-length (λ sign. not (eqb sign 10)) text
