use Rattle.std.proofs.Common.{◌≡◌, ◌+◌, ◌-◌, find, length, max, not}
use Rattle.std.specs.List.{range_with_len}
use Rattle.hand_differences.specs.FirstNumbers.{first_other_number, is_same_at}
use Rattle.hand_differences.specs.SameParts.{is_same_move}
use Rattle.hand_differences.proofs.lists.first_other_move.Given as goal

-- the first number is one of those to come
abbrev pub invariant-loop-index : goal.invariant-loop-index
invariant-loop-index l =
    find (λ number. not (is_same_at is_same_move l.played l.others number)) (range_with_len (l.index + 1) (max (length l.played) (length l.others) - l.index))
    ≡ first_other_number is_same_move l.played l.others
