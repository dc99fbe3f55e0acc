-- Numbers of seats that are not the default.
use Rattle.std.proofs.Common.{◌≡◌, ◌≢◌, ℕ, false, bytes_eq, List, take, sym, ◌∙◌}
use Rattle.std.specs.List.{range_with_len}
use Rattle.std.proofs.lemmas.Slice.Eq.{bytes_eq-Decides}
use Rattle.std.proofs.lemmas.Bool.{false≢true}

-- numbers that a test finds not to begin like the default
pub not_usual : (count : ℕ) (numbers : List ℕ) → bytes_eq (take count numbers) (range_with_len 1 count) ≡ false → take count numbers ≢ range_with_len 1 count
not_usual count numbers other same = false≢true (sym other ∙ (bytes_eq-Decides (take count numbers) (range_with_len 1 count)).1 same)
