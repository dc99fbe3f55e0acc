-- What a legal past guarantees about the places of its cards.
use Rattle.std.specs.Prelude.{◌≡◌, ◌⊎◌, ℕ, ◌+◌, ◌<◌, ◌≤◌, Bool, true, false, ◌&&◌, ◌||◌, ◌==◌, not, nat_lt, nat_le, List, [], ◌∷◌, length, count_by, Option, Some, None, is_some}
use Rattle.play_event.specs.declared.code.Code.{Code}
use Rattle.play_event.specs.Streets.{deck_of, has_draw}
use Rattle.play_event.specs.Past.{Move, moves_before}
use Rattle.play_event.specs.Seats.{is_live}
use Rattle.card_set.specs.Known.{hides_card}
use Rattle.play_event.specs.Places.{Place}
use Rattle.play_event.specs.Taken.{is_gone_before}
use Rattle.play_event.specs.Laws.{IsAmong, NoneClash}
use Rattle.play_event.specs.Said.{Said}
use Rattle.play_event.specs.Scripts.{past_of}
use Rattle.play_event.specs.Table.{places_of}
use Rattle.play_event.specs.declared.setup.Setup.{Setup}

-- the places of the cards after these events, newest first
abbrev pub places_by : Setup → List Said → List Place
places_by setup events = places_of setup.code (past_of setup events)

-- the owner of a card has folded; the board never does
abbrev pub has_owner_folded : List Move → Option ℕ → Bool
has_owner_folded moves (Some seat) = not (is_live moves seat)
has_owner_folded moves None = false

-- a card is gone when a street deals: it was discarded on that street or before, or its seat folded
-- before
abbrev pub is_gone_by : List Move → ℕ → Place → Bool
is_gone_by moves street place =
    (nat_lt 0 place.discarded && nat_le place.discarded street)
    || has_owner_folded (moves_before street moves) place.owner

-- the number of cards that a draw needs: those dealt on earlier streets plus those discarded in it
abbrev pub cards_needed : List Place → ℕ → ℕ
cards_needed placed street =
    count_by (λ other. nat_lt other.street street) placed
    + count_by (λ other. other.discarded == street) placed

-- a street has a draw, and needs more cards than the deck has
abbrev pub NeedsMoreThanDeck : Code → List Place → ℕ → Type 0
NeedsMoreThanDeck code placed street =
    (has_draw code street ≡ true) × (deck_of code < cards_needed placed street)

-- what was gone before a deal was gone by the deal's street
abbrev pub AreGoneByStreet : List Move → List Place → Type 0
AreGoneByStreet moves placed =
    (a b : Place) → IsAmong placed a → IsAmong placed b
    → is_gone_before a.gone_after b.number ≡ true → is_gone_by moves b.street a ≡ true

-- the places of a legal past: no two clash; what was gone before a deal was gone by its street;
-- what is gone by a street was dealt before it; and a card was dealt after the deck ran out only if
-- the whole draw needs more cards than the deck has
pub record AreLawful (code : Code) (moves : List Move) (placed : List Place) : Type 0 where
  pub apart : NoneClash placed
  pub gone_when : AreGoneByStreet moves placed
  pub gone_after : (place : Place) (street : ℕ) → IsAmong placed place
      → is_gone_by moves street place ≡ true → place.street < street
  pub late : (place : Place) → IsAmong placed place → place.past_deck ≡ true
      → NeedsMoreThanDeck code placed place.street

-- Of two unknown cards of one seat, the one dealt first is discarded with the other if it was held
-- at that draw.
abbrev pub OutFirst : Place → Place → Type 0
OutFirst first second =
    first.owner ≡ second.owner → hides_card first.slot ≡ true → hides_card second.slot ≡ true
    → 0 < second.discarded → first.street < second.discarded
    → (first.discarded ≡ 0) ⊎ (second.discarded ≤ first.discarded)
    → first.discarded ≡ second.discarded

-- this holds for all pairs of places of a list
abbrev pub UnknownsFirst : List Place → Type 0
UnknownsFirst [] = Unit {0}
UnknownsFirst (first ∷ rest) =
    ((second : Place) → IsAmong rest second → OutFirst first second) × UnknownsFirst rest

-- What holds of the places of a legal past with these moves, up to its newest street: each number
-- is below the number of places; a card is gone if and only if it was discarded or its seat folded,
-- which was on a street later than its own; and the rest as for lawful places.
pub record PlacesLaw (code : Code) (moves : List Move) (newest : ℕ) (placed : List Place) : Type 0
  where
    pub number_within : (place : Place) → IsAmong placed place → place.number < length placed
    pub gone_within : (place : Place) (count : ℕ) → IsAmong placed place
        → place.gone_after ≡ Some count → count ≤ length placed
    pub since : (place : Place) → IsAmong placed place → 1 ≤ place.street
    pub reached : (place : Place) → IsAmong placed place → place.street ≤ newest
    pub out_reached : (place : Place) → IsAmong placed place → place.discarded ≤ newest
    pub gone_is : (place : Place) → IsAmong placed place
        → is_some place.gone_after
        ≡ (nat_lt 0 place.discarded || has_owner_folded moves place.owner)
    pub out_after : (place : Place) → IsAmong placed place → 0 < place.discarded
        → place.street < place.discarded
    pub folded_after : (place : Place) (street : ℕ) → IsAmong placed place
        → has_owner_folded (moves_before street moves) place.owner ≡ true → place.street < street
    pub gone_when : AreGoneByStreet moves placed
    pub late : (place : Place) → IsAmong placed place → place.past_deck ≡ true
        → NeedsMoreThanDeck code placed place.street
