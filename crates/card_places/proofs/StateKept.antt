-- The conditions of a state hold after each change of it.
use Rattle.std.proofs.Common.{◌≡◌, ◌≢◌, ◌⊎◌, inl, inr, ℕ, ◌+◌, ◌≤◌, Bool, true, false, nat_eq, Some, List, length, count_by, refl, sym, ap, subst, ◌∙◌, arith}
use Rattle.std.proofs.lemmas.Bool.{eqb-true, eq-eqb}
use Rattle.card_set.specs.declared.card.Card.{Card}
use Rattle.card_set.specs.declared.card.Slot.{Slot}
use Rattle.play_event.specs.declared.code.Code.{Code}
use Rattle.play_event.specs.Games.{game_of}
use Rattle.play_event.specs.Places.{Place, after_fold}
use Rattle.play_event.specs.NameMatching.{after_discard, after_show}
use Rattle.card_places.specs.declared.draws.Draws.{Draws}
use Rattle.card_places.specs.Drawn.{named_at}
use Rattle.play_event.specs.Held.{is_held}
use Rattle.card_places.specs.Room.{is_seat_of, IsWithin, AreNamedWithin, AreHeldWithin}
use Rattle.play_laws.specs.Groups.{AreStill}
use Rattle.card_places.proofs.HeldCards.{discard_fewer, show_fewer, fold_fewer}
use Rattle.card_places.proofs.HeldWithin.{held_still, held_discard}
use Rattle.card_places.proofs.StillWithin.{within_still, discard_still, show_still, folded_still}

-- the bounds of the dealt cards and of those that are held
pub record AreBounded (code : Code) (seats : ℕ) (draws : Draws) (placed : List Place) : Type 0 where
  pub within : IsWithin code seats placed
  pub named : AreNamedWithin code draws
  pub held : AreHeldWithin code seats draws placed

pub bounded_fold : (code : Code) (seats : ℕ) (draws : Draws) (before after : List Place) (seat : ℕ) → after ≡ after_fold seat before → AreBounded code seats draws before → AreBounded code seats draws after
bounded_fold code seats draws before after seat is bounded =
    subst (λ (ps : List Place). AreBounded code seats draws ps) (sym is)
    (record {
      within = within_still code seats before (after_fold seat before) (folded_still seat before) bounded.within;
      named = bounded.named;
      held = held_still code seats draws before (after_fold seat before) (folded_still seat before) (λ owner. fold_fewer owner seat before) bounded.held;
    })

pub bounded_show : (code : Code) (seats : ℕ) (draws : Draws) (before after : List Place) (seat : ℕ) (cards : List Card) → after ≡ after_show code seat cards before → AreBounded code seats draws before → AreBounded code seats draws after
bounded_show code seats draws before after seat cards is bounded =
    subst (λ (ps : List Place). AreBounded code seats draws ps) (sym is)
    (record {
      within = within_still code seats before (after_show code seat cards before) (show_still code seat cards before) bounded.within;
      named = bounded.named;
      held = held_still code seats draws before (after_show code seat cards before) (show_still code seat cards before) (λ owner. show_fewer owner code seat cards before) bounded.held;
    })

-- a seat discarded `count` cards in a draw, and the other draws are unchanged
pub record IsDrawnBy (old new : Draws) (on seat count : ℕ) : Type 0 where
  pub named : named_at new on seat ≡ count
  pub others : (street number : ℕ) → 1 ≤ number → number ≤ 10 → (street ≢ on) ⊎ (number ≢ seat) → named_at new street number ≡ named_at old street number

named_within : (code : Code) (old new : Draws) (on seat count : ℕ) → IsDrawnBy old new on seat count → count ≤ (game_of code).hole → AreNamedWithin code old → AreNamedWithin code new
named_within code old new on seat count drawn few named street number five first last = by_street (nat_eq street on) refl
  where
    apart : (a b : ℕ) → nat_eq a b ≡ false → a ≢ b
    apart a b is same = let yes_is : nat_eq a b ≡ true = eq-eqb a b same in absurd cc

    other : (street ≢ on) ⊎ (number ≢ seat) → named_at new street number ≤ (game_of code).hole
    other differ = omega (arith, drawn.others street number first last differ, named street number five first last)

    by_seat : (b : Bool) → street ≡ on → nat_eq number seat ≡ b → named_at new street number ≤ (game_of code).hole
    by_seat true same is =
        let here : named_at new street number ≡ count = ap (λ (s : ℕ). named_at new s number) same ∙ ap (named_at new on) (eqb-true number seat is) ∙ drawn.named in
        omega (arith, here, few)
    by_seat false same is = other (inr (apart number seat is))

    by_street : (b : Bool) → nat_eq street on ≡ b → named_at new street number ≤ (game_of code).hole
    by_street true is = by_seat (nat_eq number seat) (eqb-true street on is) refl
    by_street false is = other (inl (apart street on is))

pub bounded_discard : (code : Code) (seats : ℕ) (old new : Draws) (before after : List Place) (on seat : ℕ) (cards : List Slot) → seats ≤ 10 → is_seat_of seats seat ≡ true → IsDrawnBy old new on seat (length cards) → after ≡ after_discard on seat cards before → count_by (is_held (Some seat)) after + length cards ≤ count_by (is_held (Some seat)) before → AreBounded code seats old before → AreBounded code seats new after
bounded_discard code seats old new before after on seat cards ten in_hand drawn is takes bounded =
    let same : AreStill before after = subst (λ (ps : List Place). AreStill before ps) (sym is) (discard_still on seat cards before) in
    record {
      within = within_still code seats before after same bounded.within;
      named = named_within code old new on seat (length cards) drawn (omega (arith, takes, bounded.held (Some seat) in_hand)) bounded.named;
      held = held_discard code seats old new before after on seat (length cards) ten
          (record {
            same = same;
            fewer = λ owner. subst (λ (ps : List Place). count_by (is_held owner) ps ≤ count_by (is_held owner) before) (sym is) (discard_fewer owner on seat cards before);
            takes = takes;
            named = drawn.named;
            others = drawn.others;
          }) bounded.held;
    }
