-- The ranks that are taken make a number of at most four digits.
use Rattle.std.proofs.Common.{◌≡◌, ℕ, ◌-◌, ◌^◌, ◌<◌, List, length, ◌∙◌, ap, arith}
use Rattle.hand_order.specs.Digits.{class_above, with_digits}
use Rattle.hand_order.specs.Lowest.{has_height, lowest}
use Rattle.hand_order.proofs.Digits.{number_below}
use Rattle.hand_order.proofs.LowestLaws.{digits_within, few_lowest, lowest_passes}
use Rattle.badugi_rank.specs.Rainbow.{points_of_ranks, ranks_in}

pub ranks_number : (taken : ℕ) → with_digits 0 (ranks_in taken) < 16 ^ 5
unfolding ranks_in
ranks_number taken =
    let few = few_lowest (has_height taken) 13 1 4 in
    number_below (lowest (has_height taken) 13 1 4) (omega (arith, few)) (digits_within 14 (lowest (has_height taken) 13 1 4) (omega arith) (lowest_passes (has_height taken) 13 1 4).0)

-- the ranks that are seen
pub seen_ranks : (taken : ℕ) (row seen : List ℕ) → seen ≡ row → row ≡ lowest (has_height taken) 13 1 4 → seen ≡ ranks_in taken
unfolding ranks_in
seen_ranks taken row seen is_seen is = is_seen ∙ is

pub seen_number : (taken : ℕ) (seen : List ℕ) → seen ≡ ranks_in taken → with_digits 0 seen < 16 ^ 5
seen_number taken seen is = let same = ap (with_digits 0) is in omega (arith, same, ranks_number taken)

pub seen_points : (taken class number : ℕ) (first second : List ℕ) → first ≡ ranks_in taken → second ≡ ranks_in taken → class ≡ 4 - length first → number ≡ class_above class second → 16 ^ 6 - number ≡ points_of_ranks taken
seen_points taken class number first second is_first is_second is_class is =
    let size = ap (length {A = ℕ}) is_first in
    let digits = ap (with_digits 0) is_second in
    omega (arith, size, digits, is_class, is)
