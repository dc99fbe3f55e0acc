-- In the canonical order no deal of a street has a taken card, and the places that it makes mirror
-- those of the script.
use Rattle.play_laws.proofs.PlaceGroups.{AreRising, one_number, Passed, passed, rising_filter, group_slots}
use Rattle.std.proofs.Common.{◌≡◌, ◌≢◌, ℕ, ◌+◌, ◌≤◌, ◌<◌, Bool, true, false, ◌&&◌, ◌==◌, nat_lt, nat_le, inl, inr, Option, List, [], ◌∷◌, map, count_by, refl, sym, ◌∙◌, ap, subst, arith}
use Rattle.std.specs.List.{list_any}
use Rattle.std.proofs.lemmas.Bool.{and_parts, or_from, and_from, lt-ltb, eqb-true}
use Rattle.card_set.specs.declared.card.Slot.{Slot}
use Rattle.card_set.specs.declared.card.Slot.TheVariants as slots
use Rattle.play_event.specs.declared.code.Code.{Code}
use Rattle.play_event.specs.Streets.{deck_of, has_draw}
use Rattle.play_event.specs.Past.{Move, moves_before}
use Rattle.play_event.specs.Places.{Place, is_same_owner, is_in_group, is_past_deck, group_of}
use Rattle.play_event.specs.Taken.{is_one_card, slot_is_card, is_not_in_deck, is_taken, has_repeat, is_repeated, has_taken_card}
use Rattle.play_event.specs.Laws.{IsAmong}
use Rattle.play_laws.specs.LegalPlaces.{is_gone_by, AreLawful}
use Rattle.canon_laws.proofs.Mirrors.{AreMirrored}
use Rattle.canon_laws.proofs.FreeCards.{late_and_gone, street_apart, IsFreeOver, not_taken}

-- a card of the street's groups before an owner's: of an earlier street, or of this one and another
-- owner
pub record IsBefore (placed : List Place) (street : ℕ) (owner : Option ℕ) (place : Place) : Type 0 where
  pub among : IsAmong placed place
  pub reached : place.street ≤ street
  pub apart : place.street ≡ street → is_same_owner place.owner owner ≡ true → ⊥

-- if the deck has run out in the script's draw, it has in this one
pub record IsAsLate (code : Code) (placed mines : List Place) (street : ℕ) : Type 0 where
  pub dealt : count_by (λ place. nat_lt place.street street) placed ≤ count_by (λ place. nat_lt place.street street) mines
  pub discarded : count_by (λ place. place.discarded == street) placed ≤ count_by (λ place. place.discarded == street) mines

late_still : (code : Code) (moves : List Move) (placed mines : List Place) (street : ℕ) (place : Place) → AreLawful code moves placed → IsAsLate code placed mines street → IsAmong placed place → place.street ≡ street → place.past_deck ≡ true → is_past_deck code mines street ≡ true
late_still code moves placed mines street place law as_late among here late =
    let P : ℕ → Type 0 = λ k. (has_draw code k ≡ true) × (deck_of code < count_by (λ other. nat_lt other.street k) placed + count_by (λ other. other.discarded == k) placed) in
    let was = subst P here (law.late place among late) in
    and_from (has_draw code street) (nat_lt (deck_of code) (count_by (λ place. nat_lt place.street street) mines + count_by (λ place. place.discarded == street) mines)) was.0
    (lt-ltb (deck_of code) (count_by (λ place. nat_lt place.street street) mines + count_by (λ place. place.discarded == street) mines) (omega (arith, was.1, as_late.dealt, as_late.discarded)))

-- discarded by the draw of a street
abbrev pub is_out_by : ℕ → Place → Bool
is_out_by street place = nat_lt 0 place.discarded && nat_le place.discarded street

-- a card of the group is free over the places before it
group_free : (code : Code) (moves : List Move) (placed mines : List Place) (street : ℕ) (owner : Option ℕ) (card final : Place) → AreLawful code moves placed → AreRising placed → IsAsLate code placed mines street → Passed (is_in_group owner street) placed card → IsBefore placed street owner final → IsFreeOver (is_out_by street) (moves_before street moves) (is_past_deck code mines street) card.slot final
group_free code moves placed mines street owner card final law rising as_late in_group before =
    let parts = and_parts (is_same_owner card.owner owner) (card.street == street) in_group.passes in
    let here : card.street ≡ street = eqb-true card.street street parts.1 in
    record {
      when = λ one.
          let differ : card.number ≢ final.number = λ same.
          let is : card ≡ final = one_number placed card final rising in_group.among before.among same in
          before.apart (ap (λ (p : Place). p.street) (sym is) ∙ here) (ap (λ (p : Place). is_same_owner p.owner owner) (sym is) ∙ parts.0) in
          let both = late_and_gone code moves placed final card law before.among in_group.among (omega (arith, here, before.reached)) differ one in
          let P : ℕ → Type 0 = λ k. is_gone_by moves k final ≡ true in
          (late_still code moves placed mines street card law as_late in_group.among here both.0, subst P here both.1);
    }

-- none of the group's cards is taken
none_taken : (code : Code) (moves : List Move) (placed mines finals : List Place) (street : ℕ) (owner : Option ℕ) (cards : List Place) → AreLawful code moves placed → AreRising placed → ((place : Place) → IsAmong placed place → is_not_in_deck code place.slot ≡ false) → IsAsLate code placed mines street → AreMirrored (moves_before street moves) (is_out_by street) mines finals → ((final : Place) → IsAmong finals final → IsBefore placed street owner final) → ((card : Place) → IsAmong cards card → Passed (is_in_group owner street) placed card) → list_any (is_taken code mines (is_past_deck code mines street)) (map (λ (place : Place). place.slot) cards) ≡ false
none_taken code moves placed mines finals street owner [] law rising deck as_late mirrored before group = refl
none_taken code moves placed mines finals street owner (card ∷ cards) law rising deck as_late mirrored before group =
    or_from (is_taken code mines (is_past_deck code mines street) card.slot) (list_any (is_taken code mines (is_past_deck code mines street)) (map (λ (place : Place). place.slot) cards))
    (not_taken code (moves_before street moves) (is_out_by street) (is_past_deck code mines street) card.slot mines finals mirrored (deck card (group card (inl refl)).among) (λ final among. group_free code moves placed mines street owner card final law rising as_late (group card (inl refl)) (before final among)))
    (none_taken code moves placed mines finals street owner cards law rising deck as_late mirrored before (λ other among. group other (inr among)))

-- and no two of them are the same
again_free : (slot : Slot) (cards : List Place) → ((card : Place) → IsAmong cards card → is_one_card slot card.slot ≡ false) → is_repeated slot (map (λ (place : Place). place.slot) cards) ≡ false
again_free slots.Unknown cards apart = refl
again_free (slots.Known card) [] apart = refl
again_free (slots.Known card) (first ∷ rest) apart =
    or_from (slot_is_card card first.slot) (list_any (slot_is_card card) (map (λ (place : Place). place.slot) rest)) (apart first (inl refl)) (again_free (slots.Known card) rest (λ other among. apart other (inr among)))

none_again : (code : Code) (moves : List Move) (placed : List Place) (street : ℕ) (owner : Option ℕ) (cards : List Place) → AreLawful code moves placed → AreRising cards → ((card : Place) → IsAmong cards card → Passed (is_in_group owner street) placed card) → has_repeat (map (λ (place : Place). place.slot) cards) ≡ false
none_again code moves placed street owner [] law rising group = refl
none_again code moves placed street owner (first ∷ rest) law rising group =
    or_from (is_repeated first.slot (map (λ (place : Place). place.slot) rest)) (has_repeat (map (λ (place : Place). place.slot) rest))
    (again_free first.slot rest (λ card among.
    street_apart code moves placed card first law (group card (inr among)).among (group first (inl refl)).among (on_street card (group card (inr among)) ∙ sym (on_street first (group first (inl refl)))) (λ same. omega (arith, same, rising.0 card among))))
    (none_again code moves placed street owner rest law rising.1 (λ other among. group other (inr among)))
  where
    on_street : (card : Place) → Passed (is_in_group owner street) placed card → card.street ≡ street
    on_street card in_group = eqb-true card.street street (and_parts (is_same_owner card.owner owner) (card.street == street) in_group.passes).1

-- no card of an owner's group is taken when the group is dealt
pub group_not_taken : (code : Code) (moves : List Move) (placed mines finals : List Place) (street : ℕ) (owner : Option ℕ) → AreLawful code moves placed → AreRising placed → ((place : Place) → IsAmong placed place → is_not_in_deck code place.slot ≡ false) → IsAsLate code placed mines street → AreMirrored (moves_before street moves) (is_out_by street) mines finals → ((final : Place) → IsAmong finals final → IsBefore placed street owner final) → has_taken_card code mines street (group_slots placed street owner) ≡ false
group_not_taken code moves placed mines finals street owner law rising deck as_late mirrored before =
    or_from (list_any (is_taken code mines (is_past_deck code mines street)) (group_slots placed street owner)) (has_repeat (group_slots placed street owner))
    (none_taken code moves placed mines finals street owner (group_of placed street owner) law rising deck as_late mirrored before (λ card among. passed (is_in_group owner street) placed card among))
    (none_again code moves placed street owner (group_of placed street owner) law (rising_filter (is_in_group owner street) placed rising) (λ card among. passed (is_in_group owner street) placed card among))
