-- Which card may not be dealt or named: it is not in the deck, or it clashes with another dealt
-- card.
use Rattle.std.specs.Prelude.{ℕ, Bool, true, false, ◌&&◌, ◌||◌, ◌==◌, nat_le, not, if◌then◌else◌, List, [], ◌∷◌, Option, Some, None, is_some}
use Rattle.std.specs.List.{list_any}
use Rattle.card_set.specs.declared.card.Card.{Card}
use Rattle.card_set.specs.declared.card.Slot.{Slot}
use Rattle.card_set.specs.declared.card.Slot.TheVariants as slots
use Rattle.card_set.specs.Deck.{ranks_below, is_same_card}
use Rattle.play_event.specs.declared.code.Code.{Code}
use Rattle.play_event.specs.Streets.{deck_of}
use Rattle.card_set.specs.Known.{hides_card}
use Rattle.play_event.specs.Places.{Place, is_past_deck}

-- the deck of the game has this card: a deck of 36 begins with the sixes
abbrev pub is_in_deck : Code → Card → Bool
is_in_deck code card = if deck_of code == 36 then nat_le 4 (ranks_below card.rank) else true

-- a slot is this known card
abbrev pub slot_is_card : Card → Slot → Bool
slot_is_card card (slots.Known other) = is_same_card card other
slot_is_card card slots.Unknown = false

-- two slots are the same known card
abbrev pub is_one_card : Slot → Slot → Bool
is_one_card (slots.Known card) other = slot_is_card card other
is_one_card slots.Unknown other = false

-- a card was gone before this number of cards were dealt
abbrev pub is_gone_before : Option ℕ → ℕ → Bool
is_gone_before (Some count) number = nat_le count number
is_gone_before None number = false

-- a dealt card may be the same card as another: that one was gone before it was dealt, and it was
-- dealt past the deck
abbrev pub may_repeat : Place → Place → Bool
may_repeat place other = place.past_deck && is_gone_before other.gone_after place.number

-- two dealt cards clash: they are the same card, and neither may repeat the other
abbrev pub is_clash : Place → Place → Bool
is_clash a b = not (may_repeat a b || may_repeat b a) && is_one_card a.slot b.slot

-- a card may not be dealt now: it is not in the deck, or it is already out. A card that is gone
-- counts as out unless this one is dealt past the deck
abbrev pub is_taken : Code → List Place → Bool → Slot → Bool
is_taken code placed late (slots.Known card) =
    not (is_in_deck code card)
    || list_any (λ place. not (late && is_some place.gone_after) && slot_is_card card place.slot)
    placed
is_taken code placed late slots.Unknown = false

-- the card of a slot appears again among others
abbrev pub is_repeated : Slot → List Slot → Bool
is_repeated (slots.Known card) others = list_any (slot_is_card card) others
is_repeated slots.Unknown others = false

-- two of the slots are the same card
abbrev pub has_repeat : List Slot → Bool
has_repeat [] = false
has_repeat (slot ∷ rest) = is_repeated slot rest || has_repeat rest

-- one of these cards may not be dealt on this street after these dealt cards, or two of them are
-- the same card
abbrev pub has_taken_card : Code → List Place → ℕ → List Slot → Bool
has_taken_card code placed street cards =
    list_any (is_taken code placed (is_past_deck code placed street)) cards || has_repeat cards

-- the dealt cards that have just become known
abbrev pub newly_known : (before after : List Place) → List Place
newly_known [] after = []
newly_known (old ∷ olds) [] = []
newly_known (old ∷ olds) (new ∷ news) =
    if hides_card old.slot && not (hides_card new.slot)
    then (new ∷ newly_known olds news)
    else newly_known olds news

-- the card of a slot is not in the deck
abbrev pub is_not_in_deck : Code → Slot → Bool
is_not_in_deck code (slots.Known card) = not (is_in_deck code card)
is_not_in_deck code slots.Unknown = false

-- a dealt card is not in the deck, or clashes with another of these dealt cards
abbrev pub is_misplaced : Code → List Place → Place → Bool
is_misplaced code placed place =
    is_not_in_deck code place.slot
    || list_any (λ other. not (other.number == place.number) && is_clash place other) placed

-- a card that has just become known is not in the deck, or clashes with another
abbrev pub has_misplaced_card : Code → (before after : List Place) → Bool
has_misplaced_card code before after = list_any (is_misplaced code after) (newly_known before after)
