use Rattle.std.proofs.Common.{◌≡◌, ◌+◌, ◌-◌, find, length, max, not}
use Rattle.std.specs.List.{range_with_len}
use Rattle.hand_differences.specs.FirstNumbers.{first_other_number, is_same_at}
use Rattle.hand_differences.specs.SameParts.{is_same_place}
use Rattle.hand_differences.proofs.lists.first_other_place.Given as goal

-- the first number is one of those to come
abbrev pub invariant-loop-index : goal.invariant-loop-index
invariant-loop-index l =
    find (λ number. not (is_same_at is_same_place l.dealt l.others number)) (range_with_len (l.index + 1) (max (length l.dealt) (length l.others) - l.index))
    ≡ first_other_number is_same_place l.dealt l.others
