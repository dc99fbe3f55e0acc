-- What a seat discarded on a street, it discarded by drawing there.
use Rattle.std.proofs.Common.{◌≡◌, ℕ, ◌≤◌, ◌<◌, Bool, true, false, ◌&&◌, ◌||◌, ◌==◌, nat_lt, inl, inr, Option, Some, None, is_some, is_none, List, [], ◌∷◌, map, filter, length, count_by, refl, sym, ◌∙◌, ap, subst, arith, if◌then◌else◌}
use Rattle.std.proofs.lemmas.Bool.{or_cases, or_left, or_right, and_from, eq-eqb, both_ways, ltb-true, cases_lt, not_from_true, and_parts, eqb-true}
use Rattle.card_set.specs.declared.card.Slot.{Slot}
use Rattle.card_set.specs.declared.card.Slot.TheVariants as slots
use Rattle.play_event.specs.declared.code.Code.{Code}
use Rattle.play_event.specs.declared.setup.Setup.{Setup}
use Rattle.play_event.specs.Past.{Past, Dealt, Boarded, Moved, Discarded, Shown, Mucked, moves_of, newest_street, is_folding}
use Rattle.play_event.specs.Seats.{is_live}
use Rattle.card_set.specs.Known.{known_among}
use Rattle.play_event.specs.Dealing.{has_drawn}
use Rattle.play_event.specs.Places.{Place, is_same_owner, is_in_group, is_past_deck, places_dealt, after_deal, is_held_by, after_fold, folded_place, gone_now}
use Rattle.play_event.specs.NameMatching.{after_discard, after_show, unmatched_names, blanks_in, can_be_named, is_show_of_all}
use Rattle.play_event.specs.Table.{places_of}
use Rattle.play_event.specs.Laws.{IsAmong}
use Rattle.card_set.proofs.Tests.{false_true}
use Rattle.play_event.proofs.ClashLaws.{among_append}
use Rattle.std.proofs.lemmas.Option.{same_Some}
use Rattle.play_laws.specs.LegalPlaces.{has_owner_folded}
use Rattle.play_laws.proofs.PlaceChanges.{HowGone, stays, out, folds, AreChanged}
use Rattle.play_laws.proofs.KeptPlaces.{ChangedFrom, changed_from, none_out}
use Rattle.play_laws.proofs.QuietEvents.{discard_marks, show_marks, is_nothing, marked_changed, held_parts}
use Rattle.play_laws.proofs.DealtPlaces.{are_new}
use Rattle.play_laws.proofs.LegalPlaces.{PlacesOf}
use Rattle.play_laws.proofs.PastLawKept.{DrawsNext}
use Rattle.play_laws.specs.PastLaws.{PastLaw}
use Rattle.play_laws.proofs.DueAtEvents.{Reaches}
use Rattle.play_laws.proofs.UnknownCards.{CoversHand}

-- a place of a seat that was discarded on a street
abbrev pub IsOut : ℕ → ℕ → Place → Type 0
IsOut street seat place = (place.owner ≡ Some seat) × ((place.discarded ≡ street) × (1 ≤ street))

old_out : (count draw who street seat : ℕ) (olds news : List Place) (place : Place) (drew : Bool) → AreChanged count draw who olds news → IsAmong news place → IsOut street seat place → ((old : Place) → IsAmong olds old → IsOut street seat old → drew ≡ true) → (((draw == street) && (who == seat)) || drew) ≡ true
old_out count draw who street seat olds news place drew changed among is before = by_how (changed_from count draw who olds news place changed among)
  where
    by_how : ChangedFrom count draw who olds place → (((draw == street) && (who == seat)) || drew) ≡ true
    by_how from = here from.change.how
      where
        still : place.discarded ≡ from.old.discarded → (((draw == street) && (who == seat)) || drew) ≡ true
        still same = or_right ((draw == street) && (who == seat)) drew (before from.old from.among (sym from.change.owner ∙ is.0, (sym same ∙ is.1.0, is.1.1)))

        here : HowGone count draw who from.old place → (((draw == street) && (who == seat)) || drew) ≡ true
        here (stays gone same) = still same
        here (folds there now same mine) = still same
        here (out there now on mine) =
            or_left ((draw == street) && (who == seat)) drew (and_from (draw == street) (who == seat) (eq-eqb draw street (sym on ∙ is.1.0)) (eq-eqb who seat (same_Some who seat (sym mine ∙ (sym from.change.owner ∙ is.0)))))

new_not_out : (code : Code) (owner : Option ℕ) (on : ℕ) (cards : List Slot) (placed : List Place) (street seat : ℕ) (place : Place) → IsAmong (after_deal code owner on cards placed) place → IsOut street seat place → IsAmong placed place
new_not_out code owner on cards placed street seat place among is = elim (among_append placed (places_dealt owner on (is_past_deck code placed on) (count_by (is_in_group owner on) placed) (length placed) cards) place among) [
  | inl old ↦ old
  | inr new ↦ absurd (omega (arith, (are_new owner on (is_past_deck code placed on) (count_by (is_in_group owner on) placed) (length placed) cards place new).discarded, is.1.0, is.1.1))
]

-- a fold discards nothing
fold_not_out : (seat_folding count street seat : ℕ) (placed : List Place) (place : Place) → IsAmong (map (folded_place seat_folding count) placed) place → IsOut street seat place → (old : Place) × (IsAmong placed old × IsOut street seat old)
fold_not_out seat_folding count street seat [] place among is = absurd among
fold_not_out seat_folding count street seat (first ∷ rest) place (inl same) is = (first, (inl refl, subst (λ (p : Place). IsOut street seat p → IsOut street seat first) same (one (is_held_by seat_folding first)) is))
  where
    one : (b : Bool) → IsOut street seat (if b then gone_now count first else first) → IsOut street seat first
    one true it = it
    one false it = it
fold_not_out seat_folding count street seat (first ∷ rest) place (inr later) is =
    let it = fold_not_out seat_folding count street seat rest place later is in (it.0, (inr it.1.0, it.1.1))

-- a seat with a card that was discarded on a street has drawn there
pub out_drawn : (code : Code) (before : Past) (street seat : ℕ) (place : Place) → IsAmong (places_of code before) place → IsOut street seat place → has_drawn before street seat ≡ true
out_drawn code [] street seat place among is = absurd among
out_drawn code (Dealt on owner cards ∷ before) street seat place among is = out_drawn code before street seat place (new_not_out code (Some owner) on cards (places_of code before) street seat place among is) is
out_drawn code (Boarded on cards ∷ before) street seat place among is = out_drawn code before street seat place (new_not_out code None on (map (λ card. slots.Known card) cards) (places_of code before) street seat place among is) is
out_drawn code (Mucked on owner ∷ before) street seat place among is = out_drawn code before street seat place among is
out_drawn code (Moved move ∷ before) street seat place among is = by_fold (is_folding move.act) (out_drawn code before street seat) among
  where
    by_fold : (b : Bool) → ((old : Place) → IsAmong (places_of code before) old → IsOut street seat old → has_drawn before street seat ≡ true) → IsAmong (if b then after_fold move.seat (places_of code before) else places_of code before) place → has_drawn before street seat ≡ true
    by_fold true old in_it = let it = fold_not_out move.seat (length (places_of code before)) street seat (places_of code before) place in_it is in old it.0 it.1.0 it.1.1
    by_fold false old in_it = old place in_it is
out_drawn code (Discarded on owner cards ∷ before) street seat place among is =
    let placed = places_of code before in
    old_out (length placed) on owner street seat placed (after_discard on owner cards placed) place (has_drawn before street seat)
    (marked_changed (is_held_by owner) (length placed) on owner placed (after_discard on owner cards placed) (held_parts owner) (discard_marks (is_held_by owner) (length placed) on (known_among cards) (unmatched_names (filter (is_held_by owner) placed) (known_among cards)) (blanks_in cards) placed))
    among is (λ old in_it was. out_drawn code before street seat old in_it was)
out_drawn code (Shown on owner cards ∷ before) street seat place among is =
    let placed = places_of code before in
    let covers : Place → Bool = can_be_named code owner (is_show_of_all placed owner cards) in
    let marks = show_marks covers (length placed) 0 cards (unmatched_names (filter covers placed) cards) 0 placed in
    elim (or_cases ((0 == street) && (owner == seat)) (has_drawn before street seat) (old_out (length placed) 0 owner street seat placed (after_show code owner cards placed) place (has_drawn before street seat)
    (marked_changed is_nothing (length placed) 0 owner placed (after_show code owner cards placed) (λ old it. false_true it) marks) among is (λ old in_it was. out_drawn code before street seat old in_it was))) [
      | inl zero_street ↦ absurd (omega (arith, is.1.1, eqb-true 0 street (and_parts (0 == street) (owner == seat) zero_street).0))
      | inr drew ↦ drew
    ]

-- so the cards that a drawing seat holds are those that it did not discard, and those that it did were discarded before
pub covers_hand : (setup : Setup) (before : Past) (at seat : ℕ) → PastLaw setup before → PlacesOf setup before → Reaches setup before at → DrawsNext setup before at seat → CoversHand (is_held_by seat) seat at (places_of setup.code before)
covers_hand setup before at seat past law come who =
    record {
      held = λ place among covered. let parts = held_parts seat place covered in (parts.1, none_out setup.code (moves_of before) (newest_street before) (places_of setup.code before) place law among parts.0);
      gone_after = λ place among not_covered mine. is_gone_before place among mine (is_gone place.gone_after (is_same_owner place.owner (Some seat)) (ap (λ o. is_same_owner o (Some seat)) mine ∙ eq-eqb seat seat refl) not_covered);
    }
  where
    is_gone : (gone : Option ℕ) (b : Bool) → b ≡ true → (b && is_none gone) ≡ false → is_some gone ≡ true
    is_gone (Some count) b is not_covered = refl
    is_gone None b is not_covered = false_true (sym not_covered ∙ ap (λ c. c && true) is)

    is_gone_before : (place : Place) → IsAmong (places_of setup.code before) place → place.owner ≡ Some seat → is_some place.gone_after ≡ true → (0 < place.discarded) × (place.discarded < at)
    is_gone_before place among mine is = elim (or_cases (nat_lt 0 place.discarded) (has_owner_folded (moves_of before) place.owner) (sym (law.gone_is place among) ∙ is)) [
      | inr folded ↦ absurd (both_ways (has_owner_folded (moves_of before) (Some seat)) (not_from_true (is_live (moves_of before) seat) who.live) (sym (ap (has_owner_folded (moves_of before)) mine) ∙ folded))
      | inl out_there ↦
          let some : 0 < place.discarded = ltb-true 0 place.discarded out_there in (
            some,
            elim (cases_lt place.discarded at) [
              | inl less ↦ less
              | inr more ↦ absurd (both_ways (has_drawn before at seat) who.undrawn (out_drawn setup.code before at seat place among (mine, (omega (arith, more, law.out_reached place among, come.on), omega (arith, past.since, come.on)))))
            ],
          )
    ]
