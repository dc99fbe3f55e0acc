-- The canonical deals of a street mirror the groups of the script's places, and none of their cards is taken.
use Rattle.play_laws.proofs.PlaceGroups.{AreIndexed, more_count, AreRising, Passed, passed, group_slots}
use Rattle.std.proofs.Common.{◌≡◌, ℕ, zero, suc, ◌+◌, ◌≤◌, Bool, false, ◌==◌, nat_lt, inl, inr, Option, Some, None, List, [], ◌∷◌, ◌++◌, map, filter, length, count_by, refl, sym, ◌∙◌, ap, subst, arith, if◌then◌else◌}
use Rattle.std.specs.List.{range_with_len, flat_map}
use Rattle.std.proofs.lemmas.Bool.{and_parts, or_parts, eqb-true, false_from_ne_true}
use Rattle.std.proofs.lemmas.List.{append-nil, append_assoc}
use Rattle.std.proofs.lemmas.List.Sums.{length-filter}
use Rattle.card_set.specs.declared.card.Slot.{Slot}
use Rattle.play_event.specs.declared.code.Code.{Code}
use Rattle.play_event.specs.Past.{Past, Move, moves_before}
use Rattle.play_event.specs.Places.{Place, is_same_owner, is_in_group, is_past_deck, places_dealt, after_deal, group_of}
use Rattle.play_event.specs.Table.{places_of}
use Rattle.play_event.specs.Taken.{is_not_in_deck}
use Rattle.play_event.specs.Laws.{IsAmong}
use Rattle.play_event.proofs.ClashLaws.{among_append}
use Rattle.play_laws.specs.LegalPlaces.{has_owner_folded, is_gone_by, AreLawful}
use Rattle.canon_laws.proofs.Mirrors.{Mirrors, AreMirrored}
use Rattle.canon_laws.proofs.FreeGroups.{IsBefore, IsAsLate, is_out_by, group_not_taken}
use Rattle.canon_laws.proofs.DealsRun.{AllFree, with_deal, with_deals}
use Rattle.play_event.proofs.OwnerLaws.{is_same_owner-true}

-- places that are not yet gone at the deals of their street
still_here : (code : Code) (moves : List Move) (placed : List Place) (street : ℕ) (place : Place) → AreLawful code moves placed → IsAmong placed place → place.street ≡ street → is_gone_by moves street place ≡ false
still_here code moves placed street place law among here =
    false_from_ne_true (is_gone_by moves street place) (λ gone. omega (arith, here, law.gone_after place street among gone))

mirror_dealt : (moves : List Move) (owner : Option ℕ) (street : ℕ) (late : Bool) (index number : ℕ) (card : Place) → card.owner ≡ owner → card.street ≡ street → card.index ≡ index → is_gone_by moves street card ≡ false → Mirrors (moves_before street moves) (is_out_by street) (record { owner = owner; street = street; index = index; number = number; slot = card.slot; past_deck = late; gone_after = None; discarded = 0 }) card
mirror_dealt moves owner street late index number card mine here indexed still =
    record {
      owner = sym mine;
      street = sym here;
      index = sym indexed;
      slot = refl;
      discarded = sym (ap (λ b. if b then card.discarded else 0) (or_parts (is_out_by street card) (has_owner_folded (moves_before street moves) card.owner) still).0);
      gone_after = sym still;
    }

mirrors_dealt : (code : Code) (moves : List Move) (placed : List Place) (owner : Option ℕ) (street : ℕ) (late : Bool) (index number : ℕ) (cards : List Place) → AreLawful code moves placed → ((card : Place) → IsAmong cards card → Passed (is_in_group owner street) placed card) → AreIndexed index cards → AreMirrored (moves_before street moves) (is_out_by street) (places_dealt owner street late index number (map (λ (place : Place). place.slot) cards)) cards
mirrors_dealt code moves placed owner street late index number [] law group indexed = tt
mirrors_dealt code moves placed owner street late index number (card ∷ rest) law group indexed =
    let mine = group card (inl refl) in
    let parts = and_parts (is_same_owner card.owner owner) (card.street == street) mine.passes in
    let here : card.street ≡ street = eqb-true card.street street parts.1 in (
      mirror_dealt moves owner street late index number card (is_same_owner-true card.owner owner parts.0) here indexed.0 (still_here code moves placed street card law mine.among here),
      mirrors_dealt code moves placed owner street late (index + 1) (number + 1) rest law (λ other among. group other (inr among)) indexed.1,
    )

mirrored_append : (moves : List Move) (out : Place → Bool) (mines finals more others : List Place) → AreMirrored moves out mines finals → AreMirrored moves out more others → AreMirrored moves out (mines ++ more) (finals ++ others)
mirrored_append moves out [] [] more others first second = second
mirrored_append moves out [] (final ∷ finals) more others first second = absurd first
mirrored_append moves out (mine ∷ mines) [] more others first second = absurd first
mirrored_append moves out (mine ∷ mines) (final ∷ finals) more others first second = (first.0, mirrored_append moves out mines finals more others first.1 second)

-- an owner has no card of the street yet
none_count : (moves : List Move) (placed : List Place) (street : ℕ) (owner : Option ℕ) (mines finals : List Place) → AreMirrored moves (is_out_by street) mines finals → ((final : Place) → IsAmong finals final → IsBefore placed street owner final) → filter (is_in_group owner street) mines ≡ []
none_count moves placed street owner [] [] mirrored before = refl
none_count moves placed street owner [] (final ∷ finals) mirrored before = refl
none_count moves placed street owner (mine ∷ mines) [] mirrored before = absurd mirrored
none_count moves placed street owner (mine ∷ mines) (final ∷ finals) mirrored before =
    let not_in : is_in_group owner street mine ≡ false = false_from_ne_true (is_in_group owner street mine) (λ is.
    let parts = and_parts (is_same_owner mine.owner owner) (mine.street == street) is in
    (before final (inl refl)).apart (sym mirrored.0.street ∙ eqb-true mine.street street parts.1) (sym (ap (λ o. is_same_owner o owner) mirrored.0.owner) ∙ parts.0)) in
    ap (λ b. if b then (mine ∷ filter (is_in_group owner street) mines) else filter (is_in_group owner street) mines) not_in
    ∙ none_count moves placed street owner mines finals mirrored.1 (λ other among. before other (inr among))

-- the places after some of the deals of a street
pub record AreDealt (code : Code) (moves : List Move) (placed : List Place) (street : ℕ) (mines finals : List Place) : Type 0 where
  pub mirrored : AreMirrored (moves_before street moves) (is_out_by street) mines finals
  pub as_late : IsAsLate code placed mines street

-- one more deal
pub deal_more : (code : Code) (moves : List Move) (placed mines finals : List Place) (street : ℕ) (owner : Option ℕ) → AreLawful code moves placed → AreIndexed 0 (group_of placed street owner) → AreDealt code moves placed street mines finals → ((final : Place) → IsAmong finals final → IsBefore placed street owner final) → AreDealt code moves placed street (after_deal code owner street (group_slots placed street owner) mines) (finals ++ group_of placed street owner)
deal_more code moves placed mines finals street owner law indexed so_far before =
    let late : Bool = is_past_deck code mines street in
    let none : count_by (is_in_group owner street) mines ≡ 0 = sym (length-filter (is_in_group owner street) mines) ∙ ap (λ (l : List Place). length l) (none_count (moves_before street moves) placed street owner mines finals so_far.mirrored before) in
    let P : ℕ → Type 0 = λ index. AreIndexed index (group_of placed street owner) in
    let news : List Place = places_dealt owner street late (count_by (is_in_group owner street) mines) (length mines) (group_slots placed street owner) in
    record {
      mirrored = mirrored_append (moves_before street moves) (is_out_by street) mines finals news (group_of placed street owner) so_far.mirrored
          (mirrors_dealt code moves placed owner street late (count_by (is_in_group owner street) mines) (length mines) (group_of placed street owner) law (λ card among. passed (is_in_group owner street) placed card among) (subst P (sym none) indexed));
      as_late = record {
        dealt = omega (arith, so_far.as_late.dealt, more_count (λ place. nat_lt place.street street) mines news);
        discarded = omega (arith, so_far.as_late.discarded, more_count (λ place. place.discarded == street) mines news);
      };
    }

-- a deal of no cards is no deal
pub maybe_dealt : (code : Code) (moves : List Move) (placed : List Place) (street seat : ℕ) (before : Past) (finals : List Place) (cards : List Slot) (group : List Place) → AreDealt code moves placed street (places_of code before) finals → AreDealt code moves placed street (after_deal code (Some seat) street cards (places_of code before)) (finals ++ group) → (cards ≡ [] → group ≡ []) → AreDealt code moves placed street (places_of code (with_deal street seat cards before)) (finals ++ group)
maybe_dealt code moves placed street seat before finals [] group so_far more none =
    let P : List Place → Type 0 = λ all. AreDealt code moves placed street (places_of code before) all in
    subst P (sym (append-nil finals) ∙ ap (λ g. finals ++ g) (sym (none refl))) so_far
maybe_dealt code moves placed street seat before finals (slot ∷ rest) group so_far more none = more

-- if no cards are dealt, the group is empty
pub no_cards : (group : List Place) → map (λ (place : Place). place.slot) group ≡ [] → group ≡ []
no_cards [] is = refl
no_cards (first ∷ rest) is = absurd cc

-- all deals of a street to seats
pub record AreDealtOut (code : Code) (moves : List Move) (placed : List Place) (street first count : ℕ) (before : Past) (finals : List Place) : Type 0 where
  pub free : AllFree code street (λ seat. group_slots placed street (Some seat)) (range_with_len first count) before
  pub dealt : AreDealt code moves placed street (places_of code (with_deals street (λ seat. group_slots placed street (Some seat)) (range_with_len first count) before)) (finals ++ flat_map (λ seat. group_of placed street (Some seat)) (range_with_len first count))

-- the deals to a range of seats make the groups of the script, and no card of theirs is taken
pub dealt_out : (code : Code) (moves : List Move) (placed : List Place) (street first count : ℕ) (before : Past) (finals : List Place) → AreLawful code moves placed → AreRising placed → ((place : Place) → IsAmong placed place → is_not_in_deck code place.slot ≡ false) → ((owner : Option ℕ) → AreIndexed 0 (group_of placed street owner)) → AreDealt code moves placed street (places_of code before) finals → ((final : Place) (seat : ℕ) → IsAmong finals final → first ≤ seat → IsBefore placed street (Some seat) final) → AreDealtOut code moves placed street first count before finals
dealt_out code moves placed street first zero before finals law rising deck indexed so_far before_them =
    let P : List Place → Type 0 = λ all. AreDealt code moves placed street (places_of code before) all in
    record { free = tt; dealt = subst P (sym (append-nil finals)) so_far }
dealt_out code moves placed street first (suc count) before finals law rising deck indexed so_far before_them =
    let cards : List Slot = group_slots placed street (Some first) in
    let group : List Place = group_of placed street (Some first) in
    let here = λ (final : Place) (among : IsAmong finals final). before_them final first among (omega arith) in
    let more = deal_more code moves placed (places_of code before) finals street (Some first) law (indexed (Some first)) so_far here in
    let next : AreDealt code moves placed street (places_of code (with_deal street first cards before)) (finals ++ group) = maybe_dealt code moves placed street first before finals cards group so_far more (no_cards group) in
    let rest = dealt_out code moves placed street (first + 1) count (with_deal street first cards before) (finals ++ group) law rising deck indexed next (still_before first before_them) in
    let P : List Place → Type 0 = λ all. AreDealt code moves placed street (places_of code (with_deals street (λ seat. group_slots placed street (Some seat)) (range_with_len (first + 1) count) (with_deal street first cards before))) all in
    record {
      free = (group_not_taken code moves placed (places_of code before) finals street (Some first) law rising deck so_far.as_late so_far.mirrored here, rest.free);
      dealt = subst P (append_assoc finals group (flat_map (λ seat. group_of placed street (Some seat)) (range_with_len (first + 1) count))) rest.dealt;
    }
  where
    in_group : (seat : ℕ) (final : Place) → first + 1 ≤ seat → Passed (is_in_group (Some first) street) placed final → IsBefore placed street (Some seat) final
    in_group seat final least it =
        let parts = and_parts (is_same_owner final.owner (Some first)) (final.street == street) it.passes in
        record {
          among = it.among;
          reached = omega (arith, eqb-true final.street street parts.1);
          apart = λ here mine. omega (arith, least, eqb-true first seat (sym (ap (λ o. is_same_owner o (Some seat)) (is_same_owner-true final.owner (Some first) parts.0)) ∙ mine));
        }

    still_before : (n : ℕ) → ((final : Place) (seat : ℕ) → IsAmong finals final → first ≤ seat → IsBefore placed street (Some seat) final) → (final : Place) (seat : ℕ) → IsAmong (finals ++ group_of placed street (Some first)) final → first + 1 ≤ seat → IsBefore placed street (Some seat) final
    still_before n them final seat among least = elim (among_append finals (group_of placed street (Some first)) final among) [
      | inl old ↦ them final seat old (omega (arith, least))
      | inr new ↦ in_group seat final least (passed (is_in_group (Some first) street) placed final new)
    ]
