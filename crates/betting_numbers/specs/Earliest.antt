-- When up-cards open at least as early as others.
use Rattle.std.specs.Prelude.{ℕ, Bool, true, false, ◌&&◌, ◌||◌, ◌==◌, nat_lt, nat_le, List, [], ◌∷◌}
use Rattle.card_set.specs.declared.card.Card.{Card}
use Rattle.card_set.specs.Deck.{deck_index}
use Rattle.card_set.specs.Ranks.{high_ace, low_ace, ranks_of}
use Rattle.card_set.specs.UpCards.{up_high_class, low_class}
use Rattle.play_event.specs.declared.limit.Opener.{Opener}
use Rattle.play_event.specs.declared.limit.Opener.TheVariants as openers
use Rattle.play_event.specs.Openers.{card_stands, razz_order}

-- at the first place where the lists differ, the left one is higher, or the left list is longer
abbrev pub is_as_high : List ℕ → List ℕ → Bool
is_as_high heights [] = true
is_as_high [] (other ∷ others) = false
is_as_high (height ∷ rest) (other ∷ others) =
    nat_lt other height || ((other == height) && is_as_high rest others)

-- at the first place where the lists differ, the left one is lower, or the left list is longer
abbrev pub is_as_low : List ℕ → List ℕ → Bool
is_as_low heights [] = true
is_as_low [] (other ∷ others) = false
is_as_low (height ∷ rest) (other ∷ others) =
    nat_lt height other || ((height == other) && is_as_low rest others)

-- Up-cards open at least as early as others if they open before all up-cards that those open
-- before. If two rows of up-cards are the same as far as the shorter goes, the longer is earlier:
-- neither opens before the other, but the longer opens before more.
abbrev pub opens_no_later : Opener → Bool → List Card → List Card → Bool
opens_no_later openers.LowUp true a b = nat_le (card_stands deck_index a) (card_stands deck_index b)
opens_no_later openers.HighUp true a b = nat_le (card_stands razz_order b)
    (card_stands razz_order a)
opens_no_later openers.LowUp false a b =
    nat_lt (up_high_class a) (up_high_class b)
    || ((up_high_class b == up_high_class a)
    && is_as_high (ranks_of high_ace a) (ranks_of high_ace b))
opens_no_later openers.HighUp false a b =
    nat_lt (low_class a) (low_class b)
    || ((low_class b == low_class a) && is_as_low (ranks_of low_ace a) (ranks_of low_ace b))
opens_no_later openers.Blinds first a b = true
