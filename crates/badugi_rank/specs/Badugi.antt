-- The order of badugi: a hand of four cards counts as its best choice of cards whose ranks and
-- suits all differ.
use Rattle.std.specs.Prelude.{◌≡◌, ◌<◌, ◌==◌, ◌&&◌, ◌||◌, not, ℕ, ◌-◌, ◌^◌, Bool, true, ◌⊎◌, List, [], ◌∷◌, ◌++◌, length, Option, Some, None, if◌then◌else◌}
use Rattle.std.specs.List.{list_all}
use Rattle.card_set.specs.declared.card.Card.{Card}
use Rattle.card_set.specs.Classes.{IsLower}
use Rattle.card_set.specs.Deck.{suits_before}
use Rattle.card_set.specs.Ranks.{low_ace, ranks_of}
use Rattle.hand_order.specs.Best.{Beats}
use Rattle.hand_order.specs.Choices.{choices}
use Rattle.hand_order.specs.Digits.{class_above}
use Rattle.hand_order.specs.Points.{greatest}

-- two cards have a rank or a suit in common
abbrev pub has_in_common : Card → Card → Bool
has_in_common card other =
    low_ace other.rank == low_ace card.rank || suits_before other.suit == suits_before card.suit

-- all ranks and suits differ
abbrev pub has_nothing_in_common : List Card → Bool
has_nothing_in_common [] = true
has_nothing_in_common (card ∷ rest) =
    list_all (λ other. not (has_in_common card other)) rest && has_nothing_in_common rest

-- a choice counts: its ranks and suits all differ
abbrev pub IsRainbow : List Card → Type 0
IsRainbow chosen = has_nothing_in_common chosen ≡ true

-- a choice is weaker: it has fewer cards, or as many and, from the top down, the first rank that
-- differs is higher; the ace is low
abbrev pub IsWeakerChoice : List Card → List Card → Type 0
IsWeakerChoice a b =
    (length a < length b)
    ⊎ ((length a ≡ length b) × IsLower (ranks_of low_ace b) (ranks_of low_ace a))

-- the choices of four, three, two cards and one card
unfoldable pub candidates : List Card → List (List Card)
candidates cards = choices 4 cards ++ (choices 3 cards ++ (choices 2 cards ++ choices 1 cards))

-- any four different cards are a hand
abbrev pub IsHand : List Card → Type 0
IsHand cards = Unit {0}

-- a hand is weaker than another if the best choice of the other beats its own best choice
abbrev pub IsWeaker : List Card → List Card → Type 0
IsWeaker a b = Beats IsRainbow IsWeakerChoice (candidates b) (candidates a)

-- the points of a choice whose ranks and suits differ
abbrev pub choice_points : List Card → Option ℕ
choice_points chosen =
    if has_nothing_in_common chosen
    then Some (16 ^ 6 - class_above (4 - length chosen) (ranks_of low_ace chosen))
    else None

-- the points of a hand
abbrev pub points : List Card → Option ℕ
points cards = greatest choice_points (candidates cards)
