-- Events that deal nothing keep what holds of the places.
use Rattle.std.proofs.Common.{◌≡◌, ℕ, suc, ◌+◌, ◌≤◌, ◌<◌, Bool, true, false, ◌&&◌, ◌||◌, ◌==◌, nat_lt, nat_le, inl, inr, ◌⊎◌, Option, Some, None, is_some, List, [], ◌∷◌, filter, length, count_by, refl, sym, ◌∙◌, ap, subst, arith, if◌then◌else◌}
use Rattle.std.proofs.lemmas.Bool.{or_cases, or_parts, or_left, or_right, leb-true, eqb-true, eq-eqb, ltb-false}
use Rattle.std.proofs.lemmas.List.Sums.{length-filter}
use Rattle.play_event.specs.declared.code.Code.{Code}
use Rattle.play_event.specs.Streets.{deck_of, has_draw}
use Rattle.play_event.specs.Past.{Move, moves_before}
use Rattle.play_event.specs.Places.{Place}
use Rattle.play_event.specs.Taken.{is_gone_before}
use Rattle.play_event.specs.Laws.{IsAmong}
use Rattle.card_set.proofs.Tests.{false_true}
use Rattle.play_laws.specs.LegalPlaces.{has_owner_folded, is_gone_by, PlacesLaw}
use Rattle.play_laws.proofs.PlaceChanges.{HowGone, stays, out, folds, IsChange, AreChanged}
use Rattle.std.proofs.lemmas.Option.{same_Some}

-- where a place comes from
pub record ChangedFrom (count street seat : ℕ) (olds : List Place) (new : Place) : Type 0 where
  pub old : Place
  pub among : IsAmong olds old
  pub change : IsChange count street seat old new

-- a place after a change comes from one before it
pub changed_from : (count street seat : ℕ) (olds news : List Place) (new : Place) → AreChanged count street seat olds news → IsAmong news new → ChangedFrom count street seat olds new
changed_from count street seat [] [] new changed among = absurd among
changed_from count street seat [] (first ∷ news) new changed among = absurd changed
changed_from count street seat (old ∷ olds) [] new changed among = absurd among
changed_from count street seat (old ∷ olds) (first ∷ news) new changed (inl is) =
    let P : Place → Type 0 = λ place. IsChange count street seat old place in
    record { old = old; among = inl refl; change = subst P is changed.0 }
changed_from count street seat (old ∷ olds) (first ∷ news) new changed (inr later) =
    let it = changed_from count street seat olds news new changed.1 later in record { old = it.old; among = inr it.among; change = it.change }

same_length : (count street seat : ℕ) (olds news : List Place) → AreChanged count street seat olds news → length news ≡ length olds
same_length count street seat [] [] changed = refl
same_length count street seat [] (new ∷ news) changed = absurd changed
same_length count street seat (old ∷ olds) [] changed = absurd changed
same_length count street seat (old ∷ olds) (new ∷ news) changed = ap suc (same_length count street seat olds news changed.1)

-- counts do not decrease
grown_step : (p : Place → Bool) (old new : Place) (olds news : List Place) (a b : Bool) → (a ≡ true → b ≡ true) → length (filter p olds) ≤ length (filter p news) → length (if a then (old ∷ filter p olds) else filter p olds) ≤ length (if b then (new ∷ filter p news) else filter p news)
grown_step p old new olds news true true both later = omega (arith, later)
grown_step p old new olds news true false both later = false_true (both refl)
grown_step p old new olds news false true both later = omega (arith, later)
grown_step p old new olds news false false both later = later

grown : (count street seat : ℕ) (p : Place → Bool) (olds news : List Place) → ((old new : Place) → IsAmong olds old → IsChange count street seat old new → p old ≡ true → p new ≡ true) → AreChanged count street seat olds news → length (filter p olds) ≤ length (filter p news)
grown count street seat p [] [] both changed = omega arith
grown count street seat p [] (new ∷ news) both changed = absurd changed
grown count street seat p (old ∷ olds) [] both changed = absurd changed
grown count street seat p (old ∷ olds) (new ∷ news) both changed =
    grown_step p old new olds news (p old) (p new) (both old new (inl refl) changed.0) (grown count street seat p olds news (λ o n among. both o n (inr among)) changed.1)

grown_count : (count street seat : ℕ) (p : Place → Bool) (olds news : List Place) → ((old new : Place) → IsAmong olds old → IsChange count street seat old new → p old ≡ true → p new ≡ true) → AreChanged count street seat olds news → count_by p olds ≤ count_by p news
grown_count count street seat p olds news both changed = omega (arith, length-filter p olds, length-filter p news, grown count street seat p olds news both changed)

-- what an event that deals nothing guarantees of moves and streets
pub record IsQuietEvent (code : Code) (moves after : List Move) (newest street seat : ℕ) (olds news : List Place) : Type 0 where
  pub changed : AreChanged (length olds) street seat olds news
  pub on : newest ≤ street
  pub some : 1 ≤ street
  pub still : (owner : Option ℕ) (by : ℕ) → has_owner_folded (moves_before by moves) owner ≡ true → has_owner_folded (moves_before by after) owner ≡ true
  pub back : (place : Place) (by : ℕ) → IsAmong olds place → has_owner_folded (moves_before by after) place.owner ≡ true → (has_owner_folded (moves_before by moves) place.owner ≡ true) ⊎ (place.street < by)
  pub gone_is : (new : Place) → IsAmong news new → is_some new.gone_after ≡ (nat_lt 0 new.discarded || has_owner_folded after new.owner)
  pub out_after : (new : Place) → IsAmong news new → 0 < new.discarded → new.street < new.discarded

-- discarded places stay discarded
out_still : (old new : Place) (count street seat : ℕ) → IsChange count street seat old new → (old.gone_after ≡ None → old.discarded ≡ 0) → 0 < old.discarded → new.discarded ≡ old.discarded
out_still old new count street seat change none some = by_how change.how
  where
    by_how : HowGone count street seat old new → new.discarded ≡ old.discarded
    by_how (stays gone same) = same
    by_how (folds there now same mine) = same
    by_how (out there now on mine) = absurd (omega (arith, some, none there))

-- a card that is there was not discarded
pub none_out : (code : Code) (moves : List Move) (newest : ℕ) (placed : List Place) (place : Place) → PlacesLaw code moves newest placed → IsAmong placed place → place.gone_after ≡ None → place.discarded ≡ 0
none_out code moves newest placed place law among there =
    let is : (nat_lt 0 place.discarded || has_owner_folded moves place.owner) ≡ false = sym (law.gone_is place among) ∙ ap is_some there in
    omega (arith, ltb-false 0 place.discarded (or_parts (nat_lt 0 place.discarded) (has_owner_folded moves place.owner) is).0)

-- what was gone by a street is
gone_by_still : (moves after : List Move) (street : ℕ) (old new : Place) → new.owner ≡ old.owner → new.discarded ≡ old.discarded → ((owner : Option ℕ) (by : ℕ) → has_owner_folded (moves_before by moves) owner ≡ true → has_owner_folded (moves_before by after) owner ≡ true) → is_gone_by moves street old ≡ true → is_gone_by after street new ≡ true
gone_by_still moves after street old new owner same still gone = elim (or_cases (nat_lt 0 old.discarded && nat_le old.discarded street) (has_owner_folded (moves_before street moves) old.owner) gone) [
  | inl is ↦ or_left (nat_lt 0 new.discarded && nat_le new.discarded street) (has_owner_folded (moves_before street after) new.owner) (ap (λ d. nat_lt 0 d && nat_le d street) same ∙ is)
  | inr is ↦ or_right (nat_lt 0 new.discarded && nat_le new.discarded street) (has_owner_folded (moves_before street after) new.owner) (ap (has_owner_folded (moves_before street after)) owner ∙ still old.owner street is)
]

changed_when : (code : Code) (moves after : List Move) (newest street seat : ℕ) (olds news : List Place) (a b old_a old_b : Place) → PlacesLaw code moves newest olds → IsQuietEvent code moves after newest street seat olds news → IsAmong olds old_a → IsAmong olds old_b → IsChange (length olds) street seat old_a a → IsChange (length olds) street seat old_b b → HowGone (length olds) street seat old_a a → is_gone_before a.gone_after b.number ≡ true → is_gone_by after b.street a ≡ true
changed_when code moves after newest street seat olds news a b old_a old_b law event in_a in_b change_a change_b (stays gone same) is =
    let was : is_gone_before old_a.gone_after old_b.number ≡ true = ap (λ g. is_gone_before g old_b.number) (sym gone) ∙ (ap (is_gone_before a.gone_after) (sym change_b.number) ∙ is) in
    let P : ℕ → Type 0 = λ k. is_gone_by after k a ≡ true in
    subst P (sym change_b.street) (gone_by_still moves after old_b.street old_a a change_a.owner same event.still (law.gone_when old_a old_b in_a in_b was))
changed_when code moves after newest street seat olds news a b old_a old_b law event in_a in_b change_a change_b (out there now on mine) is =
    absurd (omega (arith, law.number_within old_b in_b, change_b.number, leb-true (length olds) b.number (sym (ap (λ g. is_gone_before g b.number) now) ∙ is)))
changed_when code moves after newest street seat olds news a b old_a old_b law event in_a in_b change_a change_b (folds there now same mine) is =
    absurd (omega (arith, law.number_within old_b in_b, change_b.number, leb-true (length olds) b.number (sym (ap (λ g. is_gone_before g b.number) now) ∙ is)))

changed_within : (count street seat : ℕ) (old new : Place) (at : ℕ) → HowGone count street seat old new → (old.gone_after ≡ Some at → at ≤ count) → new.gone_after ≡ Some at → at ≤ count
changed_within count street seat old new at (stays gone same) before is = before (sym gone ∙ is)
changed_within count street seat old new at (out there now on mine) before is = omega (arith, same_Some count at (sym now ∙ is))
changed_within count street seat old new at (folds there now same mine) before is = omega (arith, same_Some count at (sym now ∙ is))

changed_out : (count street seat newest : ℕ) (old new : Place) → HowGone count street seat old new → old.discarded ≤ newest → newest ≤ street → new.discarded ≤ street
changed_out count street seat newest old new (stays gone same) before on = omega (arith, same, before, on)
changed_out count street seat newest old new (out there now here mine) before on = omega (arith, here)
changed_out count street seat newest old new (folds there now same mine) before on = omega (arith, same, before, on)

-- an event that deals nothing keeps the law of places
pub change_law : (code : Code) (moves after : List Move) (newest street seat : ℕ) (olds news : List Place) → PlacesLaw code moves newest olds → IsQuietEvent code moves after newest street seat olds news → PlacesLaw code after street news
change_law code moves after newest street seat olds news law event =
    let count : ℕ = length olds in
    let from = λ (place : Place) (among : IsAmong news place). changed_from count street seat olds news place event.changed among in
    let long : length news ≡ count = same_length count street seat olds news event.changed in
    record {
      number_within = λ place among. let it = from place among in omega (arith, it.change.number, law.number_within it.old it.among, long);
      gone_within = λ place at among is. let it = from place among in omega (arith, long, changed_within count street seat it.old place at it.change.how (law.gone_within it.old at it.among) is);
      since = λ place among. let it = from place among in omega (arith, it.change.street, law.since it.old it.among);
      reached = λ place among. let it = from place among in omega (arith, it.change.street, law.reached it.old it.among, event.on);
      out_reached = λ place among. let it = from place among in changed_out count street seat newest it.old place it.change.how (law.out_reached it.old it.among) event.on;
      gone_is = event.gone_is;
      out_after = event.out_after;
      folded_after = λ place by among is.
          let it = from place among in
          let was : has_owner_folded (moves_before by after) it.old.owner ≡ true = ap (has_owner_folded (moves_before by after)) (sym it.change.owner) ∙ is in
          elim (event.back it.old by it.among was) [
            | inl old ↦ omega (arith, it.change.street, law.folded_after it.old by it.among old)
            | inr early ↦ omega (arith, it.change.street, early)
          ];
      gone_when = λ a b in_a in_b is.
          let it_a = from a in_a in let it_b = from b in_b in
          changed_when code moves after newest street seat olds news a b it_a.old it_b.old law event it_a.among it_b.among it_a.change it_b.change it_a.change.how is;
      late = λ place among late.
          let it = from place among in
          let was = law.late it.old it.among (sym it.change.past_deck ∙ late) in
          let P : ℕ → Type 0 = λ k. (has_draw code k ≡ true) × (deck_of code < count_by (λ (other : Place). nat_lt other.street k) news + count_by (λ (other : Place). other.discarded == k) news) in
          subst P (sym it.change.street) (
            was.0,
            omega (
              arith,
              was.1,
              grown_count count street seat (λ (other : Place). nat_lt other.street it.old.street) olds news (λ old new in_old change is. ap (λ s. nat_lt s it.old.street) change.street ∙ is) event.changed,
              grown_count count street seat (λ (other : Place). other.discarded == it.old.street) olds news (λ old new in_old change is.
                  let same : old.discarded ≡ it.old.street = eqb-true old.discarded it.old.street is in
                  eq-eqb new.discarded it.old.street (omega (arith, same, out_still old new count street seat change (none_out code moves newest olds old law in_old) (omega (arith, same, law.since it.old it.among))))) event.changed,
            ),
          );
    }
