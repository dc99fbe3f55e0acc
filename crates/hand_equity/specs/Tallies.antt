-- What a tally counts after more boards.
use Rattle.std.specs.Prelude.{◌≡◌, ◌+◌, ◌-◌, ◌≤◌, ℕ, List, length, slice_index}
use Rattle.card_set.specs.declared.card.Card.{Card}
use Rattle.hand_equity.specs.declared.tally.BoardTally.{BoardTally}
use Rattle.hand_equity.specs.Contest.{Contest, HasNobody, IsShared, Ties, Wins}
use Rattle.hand_equity.specs.Counting.{CountsOn, Grows, IsCountOf}

-- the count of seat number n in a row of counts
abbrev pub count_for : List ℕ → ℕ → ℕ
count_for counts seat = slice_index counts (seat - 1)

-- a tally has one more board, with its outcome
pub record HasBoardMore (contest : Contest) (before after : BoardTally) : Type 0 where
  pub boards : after.boards ≡ before.boards + 1
  pub nobody : Grows (HasNobody contest) before.nobody after.nobody
  pub shared : Grows (IsShared contest) before.shared after.shared
  pub wins : (seat : ℕ) → 1 ≤ seat
      → Grows (Wins contest seat) (count_for before.wins seat) (count_for after.wins seat)
  pub ties : (seat : ℕ) → 1 ≤ seat
      → Grows (Ties contest seat) (count_for before.ties seat) (count_for after.ties seat)

-- a tally has these boards more, each with its outcome
pub record HasBoardsMore
    (contest : List Card → Contest)
    (lists : List (List Card))
    (before after : BoardTally) : Type 0 where
  pub boards : after.boards ≡ before.boards + length lists
  pub nobody : CountsOn (λ board. HasNobody (contest board)) lists before.nobody after.nobody
  pub shared : CountsOn (λ board. IsShared (contest board)) lists before.shared after.shared
  pub wins : (seat : ℕ) → 1 ≤ seat → CountsOn
      (λ board. Wins (contest board) seat)
      lists
      (count_for before.wins seat)
      (count_for after.wins seat)
  pub ties : (seat : ℕ) → 1 ≤ seat → CountsOn
      (λ board. Ties (contest board) seat)
      lists
      (count_for before.ties seat)
      (count_for after.ties seat)

-- a tally counts these boards
pub record IsTallyOf
    (contest : List Card → Contest)
    (lists : List (List Card))
    (tally : BoardTally) : Type 0 where
  pub boards : tally.boards ≡ length lists
  pub nobody : IsCountOf (λ board. HasNobody (contest board)) lists tally.nobody
  pub shared : IsCountOf (λ board. IsShared (contest board)) lists tally.shared
  pub wins : (seat : ℕ) → 1 ≤ seat
      → IsCountOf (λ board. Wins (contest board) seat) lists (count_for tally.wins seat)
  pub ties : (seat : ℕ) → 1 ≤ seat
      → IsCountOf (λ board. Ties (contest board) seat) lists (count_for tally.ties seat)

-- a tally of no boards
pub record IsEmptyTally (tally : BoardTally) : Type 0 where
  pub nobody : tally.nobody ≡ 0
  pub shared : tally.shared ≡ 0
  pub wins : (k : ℕ) → slice_index tally.wins k ≡ 0
  pub ties : (k : ℕ) → slice_index tally.ties k ≡ 0
