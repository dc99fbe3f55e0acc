-- The order of eight-or-better: five different ranks of at most eight, with the ace low; straights
-- and flushes do not count.
use Rattle.std.specs.Prelude.{◌≡◌, ◌&&◌, ℕ, Bool, true, List, Option, Some, None, nat_le, if◌then◌else◌}
use Rattle.std.specs.List.{list_all}
use Rattle.card_set.specs.declared.card.Card.{Card}
use Rattle.card_set.specs.Classes.{has_no_pair, IsLower}
use Rattle.card_set.specs.Ranks.{low_ace, ranks_of}
use Rattle.low_rank.specs.Low.{low_points}

-- the ranks are different, and none is above eight
abbrev pub is_qualified : List Card → Bool
is_qualified cards =
    has_no_pair low_ace cards && list_all (λ card. nat_le (low_ace card.rank) 8) cards

-- five cards that qualify are a hand
abbrev pub IsHand : List Card → Type 0
IsHand cards = is_qualified cards ≡ true

-- a hand is weaker than another: from the highest card down, the first that differs is higher
abbrev pub IsWeaker : List Card → List Card → Type 0
IsWeaker a b = IsLower (ranks_of low_ace b) (ranks_of low_ace a)

-- the points of its score
abbrev pub points : List Card → Option ℕ
points cards = if is_qualified cards then Some (low_points cards) else None
