-- Which of its cards a seat discards or shows, when some of them are unknown. First each known card
-- of the seat takes its own name among the names of the event. Then each name that is left tells
-- what the seat's next unknown card is. So if a seat holds Ah, an unknown card and Kd, and shows Ah
-- and 7c, the unknown card is the 7c.
use Rattle.std.specs.Prelude.{ℕ, zero, suc, Bool, ◌&&◌, ◌||◌, ◌==◌, not, if◌then◌else◌, List, [], ◌∷◌, filter, length, count_by, Some, false, ◌+◌}
use Rattle.std.specs.List.{list_any}
use Rattle.card_set.specs.declared.card.Card.{Card}
use Rattle.card_set.specs.declared.card.Slot.{Slot}
use Rattle.card_set.specs.declared.card.Slot.TheVariants as slots
use Rattle.card_set.specs.Deck.{is_same_card}
use Rattle.play_event.specs.declared.code.Code.{Code}
use Rattle.card_set.specs.Known.{hides_card, known_among}
use Rattle.play_event.specs.Places.{Place, is_held_by, is_up}

-- ---- the names

-- the names without the first one that is this card; an unknown card takes no name
abbrev pub without_name : Slot → List Card → List Card
without_name slots.Unknown names = names
without_name (slots.Known card) [] = []
without_name (slots.Known card) (name ∷ rest) =
    if is_same_card card name then rest else (name ∷ without_name (slots.Known card) rest)

-- the names that are left after each known card has taken its own name
abbrev pub unmatched_names : List Place → List Card → List Card
unmatched_names [] names = names
unmatched_names (dealt ∷ rest) names = unmatched_names rest (without_name dealt.slot names)

-- a card is among the names
abbrev pub is_named : Card → List Card → Bool
is_named card names = list_any (is_same_card card) names

-- a card is known, and among the names
abbrev pub is_known_and_named : List Card → Slot → Bool
is_known_and_named names (slots.Known card) = is_named card names
is_known_and_named names slots.Unknown = false

-- how many of these dealt cards are known and named
abbrev pub named_count : List Card → List Place → ℕ
named_count names [] = 0
named_count names (dealt ∷ rest) =
    (if is_known_and_named names dealt.slot then 1 else 0) + named_count names rest

-- how many of these dealt cards are unknown
abbrev pub unknown_count : List Place → ℕ
unknown_count [] = 0
unknown_count (dealt ∷ rest) = (if hides_card dealt.slot then 1 else 0) + unknown_count rest

-- how many of the discarded cards are blanks, that is, cards that the event does not name
abbrev pub blanks_in : List Slot → ℕ
blanks_in names = count_by hides_card names

-- ---- matching

-- a dealt card after matching, with the names and the blanks that are left for the next card
pub record MatchedCard : Type 0 where
  pub place : Place
  pub others : List Card
  pub blanks : ℕ

-- One card is matched. `marked` is what the event does with a card that it means, `names` are all
-- names of the event, `left` those that no card has taken yet. The event means a known card if it
-- names it. It means an unknown card by the next name that is left, and the card becomes known;
-- without a name by a blank, and the card stays unknown; and without a blank it does not mean it.
abbrev pub matched_card : (Place → Place) → List Card → Slot → List Card → ℕ → Place → MatchedCard
matched_card marked names (slots.Known card) left blanks dealt =
    record {
      place = if is_named card names then marked dealt else dealt;
      others = left;
      blanks = blanks;
    }
matched_card marked names slots.Unknown (name ∷ left) blanks dealt =
    record {
      place = marked (record dealt { slot = slots.Known name });
      others = left;
      blanks = blanks;
    }
matched_card marked names slots.Unknown [] zero dealt =
    record { place = dealt; others = []; blanks = 0 }
matched_card marked names slots.Unknown [] (suc blanks) dealt =
    record { place = marked dealt; others = []; blanks = blanks }

-- All dealt cards after matching, in the order of dealing; only those that `may_be_meant` selects
-- are matched.
abbrev pub after_matching : (Place → Bool) → (Place → Place) → List Card → List Card → ℕ
    → List Place → List Place
after_matching may_be_meant marked names left blanks [] = []
after_matching may_be_meant marked names left blanks (dealt ∷ rest) =
    if may_be_meant dealt
    then (let one = matched_card marked names dealt.slot left blanks dealt in one.place
    ∷ after_matching may_be_meant marked names one.others one.blanks rest)
    else (dealt ∷ after_matching may_be_meant marked names left blanks rest)

-- ---- a discard

-- a card that is discarded now, on this street, after this number of dealt cards
abbrev pub discarded_now : ℕ → ℕ → Place → Place
discarded_now street count dealt = record dealt { gone_after = Some count; discarded = street }

-- the dealt cards after a discard: it may mean any card that the seat holds
abbrev pub after_discard : ℕ → ℕ → List Slot → List Place → List Place
after_discard street seat names placed =
    after_matching (is_held_by seat) (discarded_now street (length placed)) (known_among names)
    (unmatched_names (filter (is_held_by seat) placed) (known_among names)) (blanks_in names) placed

-- ---- a show

-- how many cards a seat holds
abbrev pub held_count : List Place → ℕ → ℕ
held_count placed seat = count_by (is_held_by seat) placed

-- a seat holds the card face down
abbrev pub is_held_down : Code → ℕ → Place → Bool
is_held_down code seat dealt = is_held_by seat dealt && not (is_up code dealt)

-- how many cards a seat holds face down
abbrev pub held_down_count : Code → List Place → ℕ → ℕ
held_down_count code placed seat = count_by (is_held_down code seat) placed

-- an event of a seat can name the card: the seat holds it, and it is face down if not all cards of
-- the seat are named
abbrev pub can_be_named : Code → ℕ → Bool → Place → Bool
can_be_named code seat all dealt = is_held_by seat dealt && (all || not (is_up code dealt))

-- a show of this number of cards names all that the seat holds
abbrev pub is_show_of_all : List Place → ℕ → List Card → Bool
is_show_of_all placed seat names = length names == held_count placed seat

-- the dealt cards after a show: unknown ones may have become known
abbrev pub after_show : Code → ℕ → List Card → List Place → List Place
after_show code seat names placed =
    let may_be_meant = can_be_named code seat (is_show_of_all placed seat names) in
    after_matching may_be_meant (λ dealt. dealt) names
    (unmatched_names (filter may_be_meant placed) names) 0 placed
