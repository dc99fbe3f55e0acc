-- Folds, discards and shows do not change how many cards each owner was dealt.
use Rattle.std.proofs.Common.{ℕ, Bool, List, filter, length, refl, arith}
use Rattle.std.proofs.lemmas.List.Sums.{length-filter}
use Rattle.card_set.specs.declared.card.Card.{Card}
use Rattle.card_set.specs.declared.card.Slot.{Slot}
use Rattle.play_event.specs.declared.code.Code.{Code}
use Rattle.card_set.specs.Known.{known_among}
use Rattle.play_event.specs.Places.{Place, is_in_group, is_held_by, after_fold}
use Rattle.play_event.specs.NameMatching.{after_discard, after_show, discarded_now, unmatched_names, blanks_in, can_be_named, is_show_of_all}
use Rattle.card_places.specs.Room.{IsWithin}
use Rattle.play_laws.proofs.Groups.{still, still_group, names_still, fold_still}
use Rattle.play_laws.specs.Groups.{AreStill}

pub within_still : (code : Code) (seats : ℕ) (olds news : List Place) → AreStill olds news → IsWithin code seats olds → IsWithin code seats news
within_still code seats olds news same within owner street =
    omega (arith, within owner street, still_group owner street olds news same, length-filter (is_in_group owner street) olds, length-filter (is_in_group owner street) news)

pub discard_still : (street seat : ℕ) (cards : List Slot) (placed : List Place) → AreStill placed (after_discard street seat cards placed)
discard_still street seat cards placed =
    names_still (is_held_by seat) (discarded_now street (length placed)) (known_among cards) (unmatched_names (filter (is_held_by seat) placed) (known_among cards)) (blanks_in cards) placed (λ place. record { owner = refl; street = refl })

pub show_still : (code : Code) (seat : ℕ) (cards : List Card) (placed : List Place) → AreStill placed (after_show code seat cards placed)
show_still code seat cards placed =
    let covers : Place → Bool = can_be_named code seat (is_show_of_all placed seat cards) in
    names_still covers (λ place. place) cards (unmatched_names (filter covers placed) cards) 0 placed still

pub folded_still : (seat : ℕ) (placed : List Place) → AreStill placed (after_fold seat placed)
folded_still seat placed = fold_still seat (length placed) placed
