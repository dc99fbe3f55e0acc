-- The state of a seat, after one more step.
use Rattle.std.proofs.Common.{◌≡◌, ◌≢◌, ℕ, ◌-◌, ◌≤◌, Bool, true, false, ◌||◌, cond, List, [], ◌∷◌, ◌++◌, find, set, inl, inr, subst, slice_get, Option, Some, None, option_map, refl, sym, ap, ◌∙◌, arith}
use Rattle.std.specs.Option.{option_or}
use Rattle.std.proofs.Math.Bool.{or-true}
use Rattle.std.proofs.lemmas.Bool.{cases_lt}
use Rattle.std.proofs.lemmas.Grind.{flat_map-append}
use Rattle.std.proofs.lemmas.List.{append-nil}
use Rattle.std.proofs.lemmas.List.Folds.{find-append}
use Rattle.card_set.proofs.Finding.{list_any-push}
use Rattle.card_set.proofs.Tests.{or_false}
use Rattle.card_set.specs.declared.card.Slot.{Slot}
use Rattle.card_set.specs.Row.{slots_of}
use Rattle.ohh_rounds.specs.declared.seat_so_far.SeatSoFar.{SeatSoFar}
use Rattle.ohh_rounds.specs.StoredSeats.{IsSeatAfter}
use Rattle.ohh_rounds.specs.Steps.{PlainActionEffect, PlainStep, Posted, Dealt, Happened, Passed, IsFoldBy, dealt_in, dealt_to, first_deal, is_folded, is_deal_to, is_fold_of, is_seat}
use Rattle.card_set.proofs.Entries.{at_other, at_set}
use Rattle.card_set.proofs.Numbers.{different_number, same_number}
use Rattle.card_set.proofs.Options.{or_nothing}

-- one more step folds the seat, or does not
pub folds : (seat : ℕ) (steps : List PlainStep) (step : PlainStep) → is_folded seat (steps ++ step ∷ []) ≡ (is_folded seat steps || is_fold_of seat step.effect)
folds seat steps step = list_any-push (λ x. is_fold_of seat x.effect) steps step

dealt_parts : (seat : ℕ) (steps others : List PlainStep) → dealt_to seat (steps ++ others) ≡ dealt_to seat steps ++ dealt_to seat others
dealt_parts seat steps others = flat_map-append (λ x. dealt_in seat x.effect) steps others

-- one more step deals some hole cards to the seat, or none
pub deals : (seat : ℕ) (steps : List PlainStep) (step : PlainStep) → dealt_to seat (steps ++ step ∷ []) ≡ dealt_to seat steps ++ dealt_in seat step.effect
deals seat steps step = dealt_parts seat steps (step ∷ []) ∙ ap (λ cards. dealt_to seat steps ++ cards) (append-nil (dealt_in seat step.effect))

either : (found : Option PlainStep) (step : PlainStep) (is_one : Bool) → option_map (λ x. x.number) (option_or found (cond is_one (Some step) None)) ≡ option_or (option_map (λ x. x.number) found) (cond is_one (Some step.number) None)
either (Some x) step is_one = refl
either None step true = refl
either None step false = refl

-- one more step is the first deal to the seat, or is not
pub first_deals : (seat : ℕ) (steps : List PlainStep) (step : PlainStep) → first_deal seat (steps ++ step ∷ []) ≡ option_or (first_deal seat steps) (cond (is_deal_to seat step.effect) (Some step.number) None)
first_deals seat steps step =
    ap (option_map (λ x. x.number)) (find-append (λ x. is_deal_to seat x.effect) steps (step ∷ []))
    ∙ either (find (λ x. is_deal_to seat x.effect) steps) step (is_deal_to seat step.effect)

-- a step that does not concern the seat
pub untold : (seat : ℕ) (steps : List PlainStep) (step : PlainStep) (kept : SeatSoFar) → is_fold_of seat step.effect ≡ false → dealt_in seat step.effect ≡ [] → is_deal_to seat step.effect ≡ false → IsSeatAfter seat steps kept → IsSeatAfter seat (steps ++ step ∷ []) kept
untold seat steps step kept no_fold no_cards no_deal seen =
    record {
      folded = seen.folded ∙ sym (folds seat steps step ∙ ap (λ b. is_folded seat steps || b) no_fold ∙ or_false (is_folded seat steps));
      cards = seen.cards ∙ sym (deals seat steps step ∙ ap (λ cards. dealt_to seat steps ++ cards) no_cards ∙ append-nil (dealt_to seat steps));
      first_deal = seen.first_deal ∙ sym (first_deals seat steps step ∙ ap (λ b. option_or (first_deal seat steps) (cond b (Some step.number) None)) no_deal ∙ or_nothing (first_deal seat steps));
    }

-- a step that folds the seat
pub folded : (seat : ℕ) (steps : List PlainStep) (step : PlainStep) (before after : SeatSoFar) → is_fold_of seat step.effect ≡ true → dealt_in seat step.effect ≡ [] → is_deal_to seat step.effect ≡ false
    → after.folded ≡ true → after.cards ≡ before.cards → after.first_deal ≡ before.first_deal → IsSeatAfter seat steps before → IsSeatAfter seat (steps ++ step ∷ []) after
folded seat steps step before after fold no_cards no_deal is same_cards same_deal seen =
    record {
      folded = is ∙ sym (folds seat steps step ∙ ap (λ b. is_folded seat steps || b) fold ∙ or-true (is_folded seat steps));
      cards = ap slots_of same_cards ∙ seen.cards ∙ sym (deals seat steps step ∙ ap (λ cards. dealt_to seat steps ++ cards) no_cards ∙ append-nil (dealt_to seat steps));
      first_deal = same_deal ∙ seen.first_deal ∙ sym (first_deals seat steps step ∙ ap (λ b. option_or (first_deal seat steps) (cond b (Some step.number) None)) no_deal ∙ or_nothing (first_deal seat steps));
    }

-- a step that deals cards to the seat
pub dealt : (seat : ℕ) (steps : List PlainStep) (step : PlainStep) (before after : SeatSoFar) (more : List Slot) → is_fold_of seat step.effect ≡ false → dealt_in seat step.effect ≡ more → is_deal_to seat step.effect ≡ true
    → after.folded ≡ before.folded → slots_of after.cards ≡ slots_of before.cards ++ more → after.first_deal ≡ option_or before.first_deal (Some step.number) → IsSeatAfter seat steps before → IsSeatAfter seat (steps ++ step ∷ []) after
dealt seat steps step before after more no_fold cards deal same_fold joined first seen =
    record {
      folded = same_fold ∙ seen.folded ∙ sym (folds seat steps step ∙ ap (λ b. is_folded seat steps || b) no_fold ∙ or_false (is_folded seat steps));
      cards = joined ∙ ap (λ front. front ++ more) seen.cards ∙ sym (deals seat steps step ∙ ap (λ back. dealt_to seat steps ++ back) cards);
      first_deal = first ∙ ap (λ found. option_or found (Some step.number)) seen.first_deal ∙ sym (first_deals seat steps step ∙ ap (λ b. option_or (first_deal seat steps) (cond b (Some step.number) None)) deal);
    }

-- what a fold means for its seat
pub fold_here : (seat : ℕ) (effect : PlainActionEffect) → IsFoldBy seat effect → is_fold_of seat effect ≡ true
fold_here seat (Happened event) is = ap (is_seat seat) is ∙ same_number seat
fold_here seat (Posted post) is = absurd is
fold_here seat (Dealt other slots) is = absurd is
fold_here seat Passed is = absurd is

pub fold_elsewhere : (at seat : ℕ) (effect : PlainActionEffect) → IsFoldBy at effect → seat ≢ at → is_fold_of seat effect ≡ false
fold_elsewhere at seat (Happened event) is apart = ap (is_seat seat) is ∙ different_number at seat apart
fold_elsewhere at seat (Posted post) is apart = absurd is
fold_elsewhere at seat (Dealt other slots) is apart = absurd is
fold_elsewhere at seat Passed is apart = absurd is

pub fold_deals : (at seat : ℕ) (effect : PlainActionEffect) → IsFoldBy at effect → dealt_in seat effect ≡ []
fold_deals at seat (Happened event) is = refl
fold_deals at seat (Posted post) is = absurd is
fold_deals at seat (Dealt other slots) is = absurd is
fold_deals at seat Passed is = absurd is

pub fold_is_deal : (at seat : ℕ) (effect : PlainActionEffect) → IsFoldBy at effect → is_deal_to seat effect ≡ false
fold_is_deal at seat (Happened event) is = refl
fold_is_deal at seat (Posted post) is = absurd is
fold_is_deal at seat (Dealt other slots) is = absurd is
fold_is_deal at seat Passed is = absurd is

-- what a deal means for its seat
pub deal_here : (seat : ℕ) (slots : List Slot) → dealt_in seat (Dealt seat slots) ≡ slots
deal_here seat slots = ap (λ b. cond b slots []) (same_number seat)

pub is_here : (seat : ℕ) (slots : List Slot) → is_deal_to seat (Dealt seat slots) ≡ true
is_here seat slots = same_number seat

pub deal_elsewhere : (at seat : ℕ) (slots : List Slot) → seat ≢ at → dealt_in seat (Dealt at slots) ≡ []
deal_elsewhere at seat slots apart = ap (λ b. cond b slots []) (different_number at seat apart)

pub is_elsewhere : (at seat : ℕ) (slots : List Slot) → seat ≢ at → is_deal_to seat (Dealt at slots) ≡ false
is_elsewhere at seat slots apart = different_number at seat apart

-- what holds of each seat, if one seat has a new state
pub each_seat : (P : ℕ → SeatSoFar → Type 0) (seats : List SeatSoFar) (at : ℕ) (new : SeatSoFar) → 1 ≤ at → P at new
    → ((seat : ℕ) → 1 ≤ seat → seat ≤ 10 → seat ≢ at → (kept : SeatSoFar) → slice_get seats (seat - 1) ≡ Some kept → P seat kept)
    → (seat : ℕ) → 1 ≤ seat → seat ≤ 10 → (kept : SeatSoFar) → slice_get (set seats (at - 1) new) (seat - 1) ≡ Some kept → P seat kept
each_seat P seats at new first here others seat from to kept is = elim (cases_lt seat at) [
  | inl below ↦ let apart : seat - 1 ≢ at - 1 = λ e. omega (arith, below, e, from) in let ne : seat ≢ at = λ e. omega (arith, below, e) in others seat from to ne kept (sym (at_other seats (at - 1) (seat - 1) new apart) ∙ is)
  | inr above ↦ elim (cases_lt at seat) [
    | inl beyond ↦ let apart : seat - 1 ≢ at - 1 = λ e. omega (arith, beyond, e, first) in let ne : seat ≢ at = λ e. omega (arith, beyond, e) in others seat from to ne kept (sym (at_other seats (at - 1) (seat - 1) new apart) ∙ is)
    | inr within ↦
        let same : seat ≡ at = omega (arith, above, within) in
        let there : slice_get (set seats (at - 1) new) (at - 1) ≡ Some kept = ap (λ n. slice_get (set seats (at - 1) new) (n - 1)) (sym same) ∙ is in
        subst (λ (n : ℕ). P n kept) (sym same) (subst (P at) (sym (at_set seats (at - 1) kept new there)) here)
  ]
]
