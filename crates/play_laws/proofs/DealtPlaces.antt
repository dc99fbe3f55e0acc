-- Deals keep what holds of the places.
use Rattle.std.proofs.Common.{◌≡◌, ℕ, suc, ◌+◌, ◌≤◌, ◌<◌, Bool, true, false, ◌&&◌, ◌||◌, ◌==◌, nat_lt, nat_le, inl, inr, Option, Some, None, is_some, List, [], ◌∷◌, ◌++◌, length, count_by, refl, sym, ◌∙◌, ap, subst, arith}
use Rattle.std.proofs.lemmas.Bool.{and_parts, or_cases, or_left, or_right, and_from, ltb-true, le-leb}
use Rattle.std.proofs.lemmas.List.{length-append}
use Rattle.card_set.specs.declared.card.Slot.{Slot}
use Rattle.play_event.specs.declared.code.Code.{Code}
use Rattle.play_event.specs.Streets.{deck_of, has_draw}
use Rattle.play_event.specs.Past.{Move, moves_before}
use Rattle.play_event.specs.Places.{Place, is_in_group, is_past_deck, places_dealt, after_deal}
use Rattle.play_event.specs.Taken.{is_gone_before}
use Rattle.play_event.specs.Laws.{IsAmong}
use Rattle.card_set.proofs.Tests.{false_true}
use Rattle.play_event.proofs.ClashLaws.{among_append}
use Rattle.play_laws.specs.LegalPlaces.{has_owner_folded, is_gone_by, PlacesLaw}
use Rattle.play_laws.proofs.QuietEvents.{folded_back, folded_own, folded_first}
use Rattle.play_laws.proofs.PlaceGroups.{more_count}
use Rattle.card_set.proofs.Options.{some_is_none}

-- a card that was dealt now
pub record IsNew (dealt_to : Option ℕ) (on : ℕ) (is_late : Bool) (least most : ℕ) (place : Place) : Type 0 where
  pub owner : place.owner ≡ dealt_to
  pub street : place.street ≡ on
  pub past_deck : place.past_deck ≡ is_late
  pub gone_after : place.gone_after ≡ None
  pub discarded : place.discarded ≡ 0
  pub above : least ≤ place.number
  pub below : place.number < most

new_later : (owner : Option ℕ) (street : ℕ) (late : Bool) (least most more : ℕ) (place : Place) → least ≤ more → IsNew owner street late more most place → IsNew owner street late least most place
new_later owner street late least most more place on is =
    record { owner = is.owner; street = is.street; past_deck = is.past_deck; gone_after = is.gone_after; discarded = is.discarded; above = omega (arith, on, is.above); below = is.below }

-- each place that a deal makes is new
pub are_new : (owner : Option ℕ) (street : ℕ) (late : Bool) (index least : ℕ) (cards : List Slot) (place : Place) → IsAmong (places_dealt owner street late index least cards) place → IsNew owner street late least (least + length cards) place
are_new owner street late index least [] place among = absurd among
are_new owner street late index least (slot ∷ rest) place (inl same) =
    let P : Place → Type 0 = IsNew owner street late least (least + length (slot ∷ rest)) in
    subst P same (record { owner = refl; street = refl; past_deck = refl; gone_after = refl; discarded = refl; above = omega arith; below = omega arith })
are_new owner street late index least (slot ∷ rest) place (inr later) =
    let P : ℕ → Type 0 = λ most. IsNew owner street late least most place in
    let most : (least + 1) + length rest ≡ least + length (slot ∷ rest) = omega arith in
    subst P most (new_later owner street late least ((least + 1) + length rest) (least + 1) place (omega arith) (are_new owner street late (index + 1) (least + 1) rest place later))

dealt_length : (owner : Option ℕ) (street : ℕ) (late : Bool) (index number : ℕ) (cards : List Slot) → length (places_dealt owner street late index number cards) ≡ length cards
dealt_length owner street late index number [] = refl
dealt_length owner street late index number (slot ∷ rest) = ap suc (dealt_length owner street late (index + 1) (number + 1) rest)

-- who has not folded had not folded before a street
not_folded : (moves : List Move) (by : ℕ) (owner : Option ℕ) → has_owner_folded (moves_before by moves) owner ≡ true → has_owner_folded moves owner ≡ true
not_folded [] by owner is = is
not_folded (move ∷ rest) by owner is = elim (folded_back move rest by owner is) [
  | inl before ↦ first_more move rest owner (not_folded rest by owner before)
  | inr now ↦ folded_own move rest owner now.0 now.1.0
]
  where
    first_more : (move : Move) (rest : List Move) (owner : Option ℕ) → has_owner_folded rest owner ≡ true → has_owner_folded (move ∷ rest) owner ≡ true
    first_more move rest owner was = folded_first move rest owner was

-- a deal keeps the law of places
pub deal_law : (code : Code) (moves : List Move) (newest street : ℕ) (owner : Option ℕ) (cards : List Slot) (placed : List Place) → PlacesLaw code moves newest placed → newest ≤ street → 1 ≤ street → has_owner_folded moves owner ≡ false → moves_before street moves ≡ moves → PlacesLaw code moves street (after_deal code owner street cards placed)
deal_law code moves newest street owner cards placed law on some live early =
    let late : Bool = is_past_deck code placed street in
    let news : List Place = places_dealt owner street late (count_by (is_in_group owner street) placed) (length placed) cards in
    let long : length (placed ++ news) ≡ length placed + length cards = length-append placed news ∙ ap (λ n. length placed + n) (dealt_length owner street late (count_by (is_in_group owner street) placed) (length placed) cards) in
    let new = λ (place : Place) (among : IsAmong news place). are_new owner street late (count_by (is_in_group owner street) placed) (length placed) cards place among in
    record {
      number_within = λ place among. elim (among_append placed news place among) [
        | inl old ↦ omega (arith, law.number_within place old, long)
        | inr here ↦ omega (arith, (new place here).below, long)
      ];
      gone_within = λ place count among is. elim (among_append placed news place among) [
        | inl old ↦ omega (arith, law.gone_within place count old is, long)
        | inr here ↦ absurd (some_is_none (sym is ∙ (new place here).gone_after))
      ];
      since = λ place among. elim (among_append placed news place among) [
        | inl old ↦ law.since place old
        | inr here ↦ omega (arith, (new place here).street, some)
      ];
      reached = λ place among. elim (among_append placed news place among) [
        | inl old ↦ omega (arith, law.reached place old, on)
        | inr here ↦ omega (arith, (new place here).street)
      ];
      out_reached = λ place among. elim (among_append placed news place among) [
        | inl old ↦ omega (arith, law.out_reached place old, on)
        | inr here ↦ omega (arith, (new place here).discarded)
      ];
      gone_is = λ place among. elim (among_append placed news place among) [
        | inl old ↦ law.gone_is place old
        | inr here ↦ let it = new place here in ap is_some it.gone_after ∙ sym (ap (λ d. nat_lt 0 d || has_owner_folded moves place.owner) it.discarded ∙ ap (has_owner_folded moves) it.owner ∙ live)
      ];
      out_after = λ place among out. elim (among_append placed news place among) [
        | inl old ↦ law.out_after place old out
        | inr here ↦ absurd (omega (arith, (new place here).discarded, out))
      ];
      folded_after = λ place by among is. elim (among_append placed news place among) [
        | inl old ↦ law.folded_after place by old is
        | inr here ↦ false_true (sym live ∙ not_folded moves by owner (sym (ap (has_owner_folded (moves_before by moves)) (new place here).owner) ∙ is))
      ];
      gone_when = λ a b in_a in_b is. elim (among_append placed news a in_a) [
        | inr new_a ↦ false_true (sym (ap (λ g. is_gone_before g b.number) (new a new_a).gone_after) ∙ is)
        | inl old_a ↦ elim (among_append placed news b in_b) [
          | inl old_b ↦ law.gone_when a b old_a old_b is
          | inr new_b ↦
              let P : ℕ → Type 0 = λ k. is_gone_by moves k a ≡ true in
              subst P (sym (new b new_b).street) (gone_here a old_a (some_gone a.gone_after b.number is))
        ]
      ];
      late = λ place among is. elim (among_append placed news place among) [
        | inl old ↦ let was = law.late place old is in (was.0, omega (arith, was.1, more_count (λ other. nat_lt other.street place.street) placed news, more_count (λ other. other.discarded == place.street) placed news))
        | inr here ↦
            let it = new place here in
            let parts = and_parts (has_draw code street) (nat_lt (deck_of code) (count_by (λ other. nat_lt other.street street) placed + count_by (λ other. other.discarded == street) placed)) (sym it.past_deck ∙ is) in
            let P : ℕ → Type 0 = λ k. (has_draw code k ≡ true) × (deck_of code < count_by (λ (other : Place). nat_lt other.street k) (placed ++ news) + count_by (λ (other : Place). other.discarded == k) (placed ++ news)) in
            subst P (sym it.street) (parts.0, omega (arith, ltb-true (deck_of code) (count_by (λ other. nat_lt other.street street) placed + count_by (λ other. other.discarded == street) placed) parts.1, more_count (λ other. nat_lt other.street street) placed news, more_count (λ other. other.discarded == street) placed news))
      ];
    }
  where
    some_gone : (gone : Option ℕ) (number : ℕ) → is_gone_before gone number ≡ true → is_some gone ≡ true
    some_gone (Some count) number is = refl
    some_gone None number is = is

    gone_here : (a : Place) → IsAmong placed a → is_some a.gone_after ≡ true → is_gone_by moves street a ≡ true
    gone_here a among is = elim (or_cases (nat_lt 0 a.discarded) (has_owner_folded moves a.owner) (sym (law.gone_is a among) ∙ is)) [
      | inl out ↦ or_left (nat_lt 0 a.discarded && nat_le a.discarded street) (has_owner_folded (moves_before street moves) a.owner) (and_from (nat_lt 0 a.discarded) (nat_le a.discarded street) out (le-leb a.discarded street (omega (arith, law.out_reached a among, on))))
      | inr folded ↦ or_right (nat_lt 0 a.discarded && nat_le a.discarded street) (has_owner_folded (moves_before street moves) a.owner) (ap (λ m. has_owner_folded m a.owner) early ∙ folded)
    ]
