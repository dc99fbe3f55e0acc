-- A list with zeros from an index on is its numbers before that index, and zeros after them.
use Rattle.std.proofs.Common.{◌≡◌, ℕ, ◌-◌, ◌≤◌, List, ◌++◌, length, take, replicate, get_or, refl, sym, ◌∙◌, arith}
use Rattle.std.proofs.lemmas.List.{length-take-le}
use Rattle.card_set.proofs.Entries.{cut_zeros}

-- eleven numbers with zeros from an index on
pub with_zeros : (xs : List ℕ) (n : ℕ) → length xs ≡ 11 → n ≤ 11 → ((k : ℕ) → n ≤ k → get_or xs k 0 ≡ 0) → take n xs ++ replicate (11 - length (take n xs)) 0 ≡ xs
with_zeros xs n eleven few none =
    let whole = cut_zeros xs n (omega (arith, eleven, few)) none in
    let kept : length (take n xs) ≡ n = length-take-le n xs (omega (arith, eleven, few)) in
    rw kept (sym (whole ∙ rw eleven refl))
