-- The places of a street, owner by owner, keep the order of each owner's unknown cards.
use Rattle.std.proofs.Common.{◌≡◌, ℕ, zero, suc, ◌+◌, ◌≤◌, ◌==◌, inl, inr, Option, Some, None, List, sym, ◌∙◌, subst, arith}
use Rattle.std.specs.List.{flat_map, range_with_len}
use Rattle.std.proofs.lemmas.Bool.{and_parts}
use Rattle.play_event.specs.declared.setup.Setup.{Setup}
use Rattle.play_event.specs.Seats.{all_seats}
use Rattle.play_event.specs.Places.{Place, is_same_owner, is_in_group, group_of}
use Rattle.play_event.specs.Trace.{places_on}
use Rattle.play_event.specs.Laws.{IsAmong}
use Rattle.std.proofs.lemmas.Option.{same_Some}
use Rattle.card_set.proofs.Options.{some_is_none}
use Rattle.play_event.proofs.ClashLaws.{among_append}
use Rattle.play_laws.specs.LegalPlaces.{UnknownsFirst}
use Rattle.play_laws.proofs.PlaceGroups.{passed}
use Rattle.play_laws.proofs.UnknownOrder.{out_append, out_filter}
use Rattle.canon_laws.proofs.TraceOrder.{street_pieces}
use Rattle.play_event.proofs.OwnerLaws.{is_same_owner-true}

owned_by : (placed : List Place) (street : ℕ) (owner : Option ℕ) (place : Place) → IsAmong (group_of placed street owner) place → place.owner ≡ owner
owned_by placed street owner place among =
    is_same_owner-true place.owner owner (and_parts (is_same_owner place.owner owner) (place.street == street) (passed (is_in_group owner street) placed place among).passes).0

-- the owner of a card of these groups is a seat from the first on
record IsFrom (start : ℕ) (place : Place) : Type 0 where
  seat : ℕ
  owner : place.owner ≡ Some seat
  least : start ≤ seat

from_seats : (placed : List Place) (street start count : ℕ) (place : Place) → IsAmong (flat_map (λ seat. group_of placed street (Some seat)) (range_with_len start count)) place → IsFrom start place
from_seats placed street start zero place among = absurd among
from_seats placed street start (suc count) place among = elim (among_append (group_of placed street (Some start)) (flat_map (λ seat. group_of placed street (Some seat)) (range_with_len (start + 1) count)) place among) [
  | inl here ↦ record { seat = start; owner = owned_by placed street (Some start) place here; least = omega arith }
  | inr later ↦ let it = from_seats placed street (start + 1) count place later in record { seat = it.seat; owner = it.owner; least = omega (arith, it.least) }
]

seats_out : (placed : List Place) (street start count : ℕ) → UnknownsFirst placed → UnknownsFirst (flat_map (λ seat. group_of placed street (Some seat)) (range_with_len start count))
seats_out placed street start zero before = tt
seats_out placed street start (suc count) before =
    out_append (group_of placed street (Some start)) (flat_map (λ seat. group_of placed street (Some seat)) (range_with_len (start + 1) count))
    (out_filter (is_in_group (Some start) street) placed before) (seats_out placed street (start + 1) count before)
    (λ x y in_x in_y owner one two some held when.
    let it = from_seats placed street (start + 1) count y in_y in
    absurd (omega (arith, it.least, same_Some start it.seat (sym (owned_by placed street (Some start) x in_x) ∙ (owner ∙ it.owner)))))

-- owner by owner, the unknown cards of a street are in the order of dealing
pub street_pieces_out : (setup : Setup) (placed : List Place) (street : ℕ) → UnknownsFirst placed → UnknownsFirst (places_on setup placed street)
street_pieces_out setup placed street before =
    let P : List Place → Type 0 = UnknownsFirst in
    subst P (sym (street_pieces setup placed street))
    (out_append (flat_map (λ seat. group_of placed street (Some seat)) (all_seats setup)) (group_of placed street None)
    (seats_out placed street 1 setup.stacks.seats before) (out_filter (is_in_group None street) placed before)
    (λ x y in_x in_y owner one two some held when.
    let it = from_seats placed street 1 setup.stacks.seats x in_x in
    absurd (some_is_none (sym it.owner ∙ (owner ∙ owned_by placed street None y in_y)))))
