-- What the next of the other names finds.
use Rattle.std.proofs.Common.{◌≡◌, ℕ, ◌+◌, ◌<◌, List, length, drop, get_or, sym, ap, subst}
use Rattle.std.proofs.lemmas.List.{drop_more}
use Rattle.card_set.specs.declared.card.Card.{Card}
use Rattle.card_set.specs.declared.card.Slot.{Slot}
use Rattle.card_set.specs.declared.card.Slot.TheVariants as slots
use Rattle.play_event.specs.Places.{Place}
use Rattle.play_event.specs.NameMatching.{matched_card}
use Rattle.card_places.specs.declared.finding.FoundPlace.{FoundPlace}
use Rattle.card_places.specs.Plain.{place_of}
use Rattle.card_places.specs.Marks.{IsFound}

-- an unknown place takes the next of the other names
pub found_next : (mark : Place → Place) (names others : List Card) (slot : Slot) (k blanks : ℕ) (place : Place) (code : FoundPlace) (d : Card) → slot ≡ slots.Unknown → k < length others → place_of code.card ≡ mark (record place { slot = slots.Known (get_or others k d) }) → code.taken ≡ k + 1 → code.blanks ≡ blanks → IsFound code (matched_card mark names slot (drop k others) blanks place) others
found_next mark names others slot k blanks place code d unknown within place_is taken_is blanks_is =
    subst (λ (s : Slot). IsFound code (matched_card mark names s (drop k others) blanks place) others) (sym unknown)
    (subst (λ (rest : List Card). IsFound code (matched_card mark names slots.Unknown rest blanks place) others) (sym (drop_more others k d within))
    (record { place = place_is; others_left = ap (λ n. drop n others) taken_is; blanks = blanks_is }))
