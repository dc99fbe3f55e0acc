-- The play of the hand with a number is found at its index.
use Rattle.std.proofs.Common.{◌≡◌, ℕ, ◌-◌, ◌≤◌, List, length, Some, None, subst}
use Rattle.std.specs.List.{slice_get}
use Rattle.std.proofs.lemmas.Option.{slice_get_past}
use Rattle.hand_canon.specs.declared.trace.Play.{Play}
use Rattle.poker_cli.specs.AnswerParts.{hand_numbered}

pub found : (plays : List Play) (number index : ℕ) (play : Play) → index ≡ number - 1 → slice_get plays index ≡ Some play → hand_numbered plays number ≡ Some play
found plays number index play is here = subst (λ (n : ℕ). slice_get plays n ≡ Some play) is here

pub not_found : (plays : List Play) (number index : ℕ) → index ≡ number - 1 → length plays ≤ index → hand_numbered plays number ≡ None
not_found plays number index is beyond = subst (λ (n : ℕ). slice_get plays n ≡ None) is (slice_get_past plays index beyond)
