-- The cards on the table after a past: its dealt cards, as discards, folds and shows have left
-- them.
use Rattle.std.specs.Prelude.{if◌then◌else◌, List, [], ◌∷◌, Some, None}
use Rattle.card_set.specs.Known.{known_slots}
use Rattle.play_event.specs.declared.code.Code.{Code}
use Rattle.play_event.specs.Past.{Past, Resolved, Dealt, Boarded, Moved, Discarded, Shown, Mucked, is_folding}
use Rattle.play_event.specs.Openers.{UpCards}
use Rattle.play_event.specs.Places.{Place, after_deal, after_fold, up_slots}
use Rattle.play_event.specs.NameMatching.{after_discard, after_show}

-- the dealt cards after one more event
abbrev pub places_after : Code → Resolved → List Place → List Place
places_after code (Dealt street seat cards) placed = after_deal code (Some seat) street cards placed
places_after code (Boarded street cards) placed =
    after_deal code None street (known_slots cards) placed
places_after code (Moved move) placed =
    if is_folding move.act then after_fold move.seat placed else placed
places_after code (Discarded street seat cards) placed = after_discard street seat cards placed
places_after code (Shown street seat cards) placed = after_show code seat cards placed
places_after code (Mucked street seat) placed = placed

-- the dealt cards of a past, in the order of dealing
abbrev pub places_of : Code → Past → List Place
places_of code [] = []
places_of code (event ∷ before) = places_after code event (places_of code before)

-- the up-cards of each seat, as far as they are known
abbrev pub up_cards : Code → Past → UpCards
up_cards code past = up_slots code (places_of code past)
