-- Lists of cards that were written read as these cards.
use Rattle.std.proofs.Common.{◌≡◌, ℕ, ◌+◌, ◌-◌, ◌≤◌, false, List, [], ◌∷◌, length, map, Some, Ok, refl, ap, arith, true≢false}
use Rattle.std.specs.List.{list_any}
use Rattle.std.proofs.lemmas.Bool.{le-leb}
use Rattle.std.proofs.lemmas.List.{length-map}
use Rattle.serde_json.specs.Data.{Data, string}
use Rattle.serde_json.specs.View.{items_of}
use Rattle.card_set.proofs.Spelled.{slot_spelled-card, slot_spelled-unknown}
use Rattle.card_set.specs.Known.{hides_card, known_among}
use Rattle.card_set.specs.Spelling.{slot_spelling}
use Rattle.card_set.specs.declared.card.Slot.{Slot}
use Rattle.card_set.specs.declared.card.Slot.TheVariants as slots
use Rattle.first_fault.specs.Reading.{each_from}
use Rattle.ohh_members.specs.declared.fault.Path.{Path}
use Rattle.ohh_members.specs.Paths.{card_path}
use Rattle.ohh_members.specs.Values.{card_said, cards_said, few_said, list_said, listed, slot_in, slot_said, slots_said, text_said}
use Rattle.ohh_writing.specs.Tree.{cards_tree}

-- the items of a list that was made of them
pub listed_again : (items : List Data) → listed (items_of items) ≡ items
listed_again [] = refl
listed_again (item ∷ rest) = ap (λ (l : List Data). item ∷ l) (listed_again rest)

-- the texts of cards
abbrev pub card_texts : List Slot → List Data
card_texts cards = map (λ slot. string (slot_spelling slot)) cards

slot_text_again : (slot : Slot) → slot_in (slot_spelling slot) ≡ Some slot
slot_text_again slots.Unknown = slot_spelled-unknown
slot_text_again (slots.Known card) = slot_spelled-card card.rank card.suit

slot_again : (path : Path) (slot : Slot) → slot_said path (string (slot_spelling slot)) ≡ Ok slot
unfolding slot_said text_said
slot_again path slot = rw (slot_text_again slot) refl

slots_each : (path : ℕ → Path) (n : ℕ) (cards : List Slot) → each_from (λ n. slot_said (path (n - 1))) n (card_texts cards) ≡ Ok cards
unfolding each_from
slots_each path n [] = refl
slots_each path n (slot ∷ rest) = rw (slot_again (path (n - 1)) slot, slots_each path (n + 1) rest) refl

known_each : (path : ℕ → Path) (n : ℕ) (cards : List Slot) → list_any hides_card cards ≡ false → each_from (λ n. card_said (path (n - 1))) n (card_texts cards) ≡ Ok (known_among cards)
unfolding each_from card_said
known_each path n [] known = refl
known_each path n (slots.Unknown ∷ rest) known = absurd (true≢false known)
known_each path n (slots.Known card ∷ rest) known = rw (slot_again (path (n - 1)) (slots.Known card), known_each path (n + 1) rest known) refl

pub few_again : (path : Path) (cards : List Slot) → length cards ≤ 7 → few_said path (cards_tree cards) ≡ Ok (card_texts cards)
unfolding few_said list_said
few_again path cards few =
    let count = length-map cards (λ slot. string (slot_spelling slot)) in
    rw (listed_again (card_texts cards), le-leb (length (card_texts cards)) 7 (omega (arith, few, count))) refl

-- at most seven cards
pub slots_again : (path : Path) (cards : List Slot) → length cards ≤ 7 → slots_said path (cards_tree cards) ≡ Ok cards
unfolding slots_said
slots_again path cards few = rw (few_again path cards few) (slots_each (λ index. card_path path index) 1 cards)

-- at most seven known cards
pub cards_again : (path : Path) (cards : List Slot) → length cards ≤ 7 → list_any hides_card cards ≡ false → cards_said path (cards_tree cards) ≡ Ok (known_among cards)
unfolding cards_said
cards_again path cards few known = rw (few_again path cards few) (known_each (λ index. card_path path index) 1 cards known)
