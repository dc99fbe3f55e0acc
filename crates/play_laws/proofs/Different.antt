-- The known cards that a seat and the board have on the table are all different.
use Rattle.std.proofs.Common.{◌≡◌, ◌≢◌, ℕ, false, inl, inr, Option, Some, None, is_none, List, ◌++◌, filter, ap}
use Rattle.std.proofs.lemmas.Bool.{and_parts, and_right}
use Rattle.play_event.specs.Held.{held_slots, is_held}
use Rattle.card_set.specs.Different.{AllDifferent}
use Rattle.card_set.specs.Known.{known_among}
use Rattle.card_set.proofs.Options.{is_none_none}
use Rattle.play_event.specs.declared.setup.Rules.{Rules}
use Rattle.play_event.specs.declared.setup.Setup.{Setup}
use Rattle.play_event.specs.Laws.{AreLegal, IsAmong, NoneClash}
use Rattle.play_event.specs.Places.{Place, is_same_owner}
use Rattle.play_event.specs.Said.{Said}
use Rattle.play_event.specs.Scripts.{past_of}
use Rattle.play_event.specs.Table.{places_of}
use Rattle.play_event.specs.Taken.{is_gone_before, is_one_card, may_repeat}
use Rattle.play_event.proofs.ClashLaws.{among_append}
use Rattle.play_event.proofs.SafePlaces.{none_clash}
use Rattle.play_laws.proofs.InDeck.{legal_cards}
use Rattle.play_laws.proofs.PlaceGroups.{passed}
use Rattle.play_laws.proofs.PlaceLists.{rising}
use Rattle.play_laws.proofs.ApartCards.{both_different, unclashed}

-- a card is one of the table's, and is not gone
record IsOnTable (placed : List Place) (place : Place) : Type 0 where
  among : IsAmong placed place
  stays : place.gone_after ≡ None

AreOnTable : List Place → List Place → Type 0
AreOnTable placed held = (place : Place) → IsAmong held place → IsOnTable placed place

-- no two of them have the same card
one_card : (placed : List Place) (a b : Place) → NoneClash placed → IsOnTable placed a → IsOnTable placed b → a.number ≢ b.number → is_one_card a.slot b.slot ≡ false
one_card placed a b none on_a on_b differ =
    unclashed (may_repeat a b) (may_repeat b a) (is_one_card a.slot b.slot)
    (and_right a.past_deck (is_gone_before b.gone_after a.number) (ap (λ g. is_gone_before g a.number) on_b.stays))
    (and_right b.past_deck (is_gone_before a.gone_after b.number) (ap (λ g. is_gone_before g b.number) on_a.stays))
    (none a b on_a.among on_b.among differ)

-- what an owner has on the table
on_table : (placed : List Place) (owner : Option ℕ) → AreOnTable placed (filter (is_held owner) placed)
unfolding AreOnTable
on_table placed owner place among =
    let it = passed (is_held owner) placed place among in
    record { among = it.among; stays = is_none_none place.gone_after (and_parts (is_same_owner place.owner owner) (is_none place.gone_after) it.passes).1 }

on_both : (placed xs ys : List Place) → AreOnTable placed xs → AreOnTable placed ys → AreOnTable placed (xs ++ ys)
unfolding AreOnTable
on_both placed xs ys on_x on_y place among = elim (among_append xs ys place among) [ inl here ↦ on_x place here | inr there ↦ on_y place there ]

pub cards_differ : (setup : Setup) (rules : Rules) (events : List Said) (seat : ℕ) → AreLegal setup rules events → AllDifferent (known_among (held_slots (Some seat) (places_of setup.code (past_of setup events))) ++ known_among (held_slots None (places_of setup.code (past_of setup events))))
unfolding AreOnTable
cards_differ setup rules events seat legal =
    let placed : List Place = places_of setup.code (past_of setup events) in
    let on = on_both placed (filter (is_held (Some seat)) placed) (filter (is_held None) placed) (on_table placed (Some seat)) (on_table placed None) in
    both_different placed (is_held (Some seat)) (is_held None) seat
    (rising 0 placed (legal_cards setup rules events legal).list.numbered)
    (λ a b in_a in_b apart. one_card placed a b (none_clash setup rules events legal) (on a in_a) (on b in_b) apart)
    (λ place is. (and_parts (is_same_owner place.owner (Some seat)) (is_none place.gone_after) is).0)
    (λ place is. (and_parts (is_same_owner place.owner None) (is_none place.gone_after) is).0)
