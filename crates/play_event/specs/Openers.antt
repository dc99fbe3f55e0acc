-- Who acts first on a street: by the blinds, or by the up-cards of the live seats with chips left.
use Rattle.std.specs.Prelude.{ℕ, ◌+◌, ◌*◌, Bool, true, false, ◌&&◌, ◌||◌, ◌==◌, nat_lt, not, if◌then◌else◌, List, [], ◌∷◌, map, filter, find, reverse, unwrap_or, Option, Some, None}
use Rattle.std.specs.List.{list_any}
use Rattle.card_set.specs.declared.card.Card.{Card}
use Rattle.card_set.specs.declared.card.Slot.{Slot}
use Rattle.card_set.specs.Deck.{deck_index, suits_before}
use Rattle.card_set.specs.Known.{hides_card, known_among}
use Rattle.card_set.specs.Ranks.{high_ace, low_ace, ranks_of}
use Rattle.card_set.specs.UpCards.{up_high_class, low_class}
use Rattle.chip_ledger.specs.Greatest.{greatest}
use Rattle.chip_ledger.specs.SeatRow.{amount_of}
use Rattle.play_event.specs.declared.setup.Setup.{Setup}
use Rattle.play_event.specs.declared.limit.Opener.{Opener}
use Rattle.play_event.specs.declared.limit.Opener.TheVariants as openers
use Rattle.play_event.specs.Streets.{opener_of}
use Rattle.play_event.specs.Past.{Move}
use Rattle.play_event.specs.Seats.{all_seats, can_act}

-- the player to act: no seat, a seat, or not known because an up-card that decides it is unknown
pub data InTurn : Type 0 where
  NoSeat : InTurn
  TheSeat : ℕ → InTurn
  Undecided : InTurn

-- the player to act, if the seat that was looked for exists
abbrev pub in_turn : Option ℕ → InTurn
in_turn (Some seat) = TheSeat seat
in_turn None = NoSeat

-- the up-cards of each seat
abbrev pub UpCards : Type 0
UpCards = ℕ → List Slot

-- the next seat, going round the table
abbrev pub seat_after : Setup → ℕ → ℕ
seat_after setup seat = if seat == setup.stacks.seats then 1 else seat + 1

-- the largest blind, in full
abbrev pub greatest_blind : Setup → ℕ
greatest_blind setup = greatest (map (amount_of setup.blinds) (all_seats setup))

-- the last seat with the largest blind
abbrev pub last_big_blind : Setup → ℕ
last_big_blind setup =
    unwrap_or
    (find (λ seat. amount_of setup.blinds seat == greatest_blind setup)
    (reverse (all_seats setup)))
    0

-- Who acts first on a street of a game with blinds. On the first street it is the seat after the
-- largest blind, the last of equal ones, and heads-up p2; on a later street p1.
abbrev pub blinds_opener : Setup → ℕ → ℕ
blinds_opener setup street =
    if street == 1
    then (if setup.stacks.seats == 2 then 2 else seat_after setup (last_big_blind setup))
    else 1

-- the place of a single up-card in the order of cards; of several, the first counts
abbrev pub card_stands : (Card → ℕ) → List Card → ℕ
card_stands stands [] = 0
card_stands stands (card ∷ rest) = stands card

-- the place of an up-card in razz: the ace is low, and suits break ties
abbrev pub razz_order : Card → ℕ
razz_order card = 4 * low_ace card.rank + suits_before card.suit

-- where the lists first differ, the left one is lower
abbrev pub is_lower : List ℕ → List ℕ → Bool
is_lower [] others = false
is_lower (height ∷ rest) [] = false
is_lower (height ∷ rest) (other ∷ others) =
    nat_lt height other || ((height == other) && is_lower rest others)

-- up-cards are weaker, with the ace high: their class is weaker, or it is the same and the first
-- rank that differs is lower
abbrev pub is_weaker_up_high : List Card → List Card → Bool
is_weaker_up_high cards others =
    nat_lt (up_high_class others) (up_high_class cards)
    || ((up_high_class cards == up_high_class others)
    && is_lower (ranks_of high_ace cards) (ranks_of high_ace others))

-- up-cards are weaker in razz: their class is weaker, or it is the same and the first rank that
-- differs is higher
abbrev pub is_weaker_low : List Card → List Card → Bool
is_weaker_low cards others =
    nat_lt (low_class others) (low_class cards)
    || ((low_class cards == low_class others)
    && is_lower (ranks_of low_ace others) (ranks_of low_ace cards))

-- The up-cards of one seat act before those of another. On the first street the lowest card acts
-- first, in razz the highest; on a later street the best cards act first, in razz the lowest.
abbrev pub is_opener_before : Opener → Bool → List Card → List Card → Bool
is_opener_before openers.LowUp true cards others =
    nat_lt (card_stands deck_index cards) (card_stands deck_index others)
is_opener_before openers.HighUp true cards others =
    nat_lt (card_stands razz_order others) (card_stands razz_order cards)
is_opener_before openers.LowUp false cards others = is_weaker_up_high others cards
is_opener_before openers.HighUp false cards others = is_weaker_low others cards
is_opener_before openers.Blinds first cards others = false

-- the seats that are live with chips left
abbrev pub able_seats : Setup → List Move → List ℕ
able_seats setup moves = filter (can_act setup moves) (all_seats setup)

-- the first seat, of those that are live with chips left, before which no other one acts
abbrev pub up_cards_opener : Setup → UpCards → List Move → ℕ → Option ℕ
up_cards_opener setup ups moves street =
    find
    (λ seat.
    not
    (list_any
    (λ other.
    is_opener_before (opener_of setup.code) (street == 1)
    (known_among (ups other)) (known_among (ups seat)))
    (able_seats setup moves)))
    (able_seats setup moves)

-- an up-card of a live seat with chips left is unknown
abbrev pub has_unknown_up_card : Setup → UpCards → List Move → Bool
has_unknown_up_card setup ups moves =
    list_any (λ seat. list_any hides_card (ups seat)) (able_seats setup moves)

-- who acts first on a street
abbrev pub opener_by : Opener → Setup → UpCards → List Move → ℕ → InTurn
opener_by openers.Blinds setup ups moves street = TheSeat (blinds_opener setup street)
opener_by openers.LowUp setup ups moves street =
    if has_unknown_up_card setup ups moves
    then Undecided
    else in_turn (up_cards_opener setup ups moves street)
opener_by openers.HighUp setup ups moves street =
    if has_unknown_up_card setup ups moves
    then Undecided
    else in_turn (up_cards_opener setup ups moves street)
