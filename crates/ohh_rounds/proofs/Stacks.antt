-- The stacks of a table are those of its row.
use Rattle.std.proofs.Common.{◌≡◌, ℕ, ◌≤◌, List, length, take, arith}
use Rattle.std.proofs.lemmas.List.{length-take}

-- the same number of seats
pub seats_in : (amounts : List ℕ) (seats : ℕ) → length amounts ≡ 10 → seats ≤ 10 → length (take seats amounts) ≡ seats
seats_in amounts seats ten few = omega (arith, length-take seats amounts)
