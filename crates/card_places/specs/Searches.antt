-- What the named cards of a discard or a show make of the places.
use Rattle.std.specs.Prelude.{ℕ, ◌+◌, Bool, nat_lt, List, length, count_by, drop}
use Rattle.std.specs.List.{list_any}
use Rattle.card_set.specs.Known.{hides_card}
use Rattle.card_set.specs.Row.{cards_of}
use Rattle.play_event.specs.declared.code.Code.{Code}
use Rattle.play_event.specs.CardReasons.{is_left_out}
use Rattle.play_event.specs.Places.{Place}
use Rattle.play_event.specs.NameMatching.{after_matching, can_be_named}
use Rattle.card_places.specs.declared.search.NamedCards.{NamedCards}
use Rattle.card_places.specs.Covered.{covered}
use Rattle.card_places.specs.Marks.{mark_by}

-- the places after the names were matched, when `taken` of the other names are used up and `blanks`
-- blanks are left
abbrev pub search_from : Code → NamedCards → ℕ → ℕ → List Place → List Place
search_from code s taken blanks places =
    after_matching (can_be_named code s.seat.number s.all) (mark_by s.street s.count)
    (cards_of s.names) (drop taken (cards_of s.others)) blanks places

-- the places after all names were matched
abbrev pub searched : Code → NamedCards → List Place → List Place
searched code s places = search_from code s 0 s.blanks places

-- more names and blanks need an unknown place than there are
abbrev pub has_unplaced_name : Code → NamedCards → List Place → Bool
has_unplaced_name code s places =
    nat_lt (count_by (λ place. hides_card place.slot) (covered code s.seat.number s.all places))
    (length (cards_of s.others) + s.blanks)

-- a known card that the show applies to is not among the names
abbrev pub has_left_out_card : Code → NamedCards → List Place → Bool
has_left_out_card code s places =
    list_any (λ place. is_left_out (cards_of s.names) place.slot)
    (covered code s.seat.number s.all places)
