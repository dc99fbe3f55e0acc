-- After a discard the state stands for the past with it.
use Rattle.std.proofs.Common.{◌≡◌, ◌≢◌, ℕ, ◌+◌, ◌≤◌, Bool, true, false, ◌&&◌, ◌||◌, ◌==◌, if◌then◌else◌, inl, inr, ◌⊎◌, List, ◌∷◌, length, refl, sym, ap, subst, ◌∙◌, arith}
use Rattle.std.proofs.lemmas.Bool.{and_parts, eqb-true, eq-eqb}
use Rattle.card_set.specs.declared.card.Slot.{Slot}
use Rattle.chip_ledger.specs.declared.live_row.LiveRow.{LiveRow}
use Rattle.chip_ledger.specs.LiveRow.{flag_of}
use Rattle.play_event.specs.declared.setup.Setup.{Setup}
use Rattle.play_event.specs.Said as said
use Rattle.play_event.specs.Past.{Past, Discarded}
use Rattle.play_event.specs.Dealing.{has_drawn, cards_discarded}
use Rattle.play_event.specs.Due.{turn}
use Rattle.play_event.specs.NameMatching.{after_discard}
use Rattle.play_event.specs.Scripts.{with_event}
use Rattle.card_places.specs.declared.card_state.CardState.{CardState}
use Rattle.card_places.specs.Drawn.{has_drawn_at, named_at}
use Rattle.card_places.specs.Discarded.{IsDiscarded}
use Rattle.deal_core.proofs.Same.{back, same_places}
use Rattle.deal_core.specs.Standing.{StandsFor}
use Rattle.play_event.proofs.DealingLaws.{undrawn_none}
use Rattle.chip_ledger.specs.Seat.{IsSeatOf}

other_one : (on street seat n : ℕ) → ((on == street) && (seat == n)) ≡ false → (street ≢ on) ⊎ (n ≢ seat)
other_one on street seat n is = by_street (on == street) refl is
  where
    by_seat : (b : Bool) → (seat == n) ≡ b → b ≡ false → n ≢ seat
    by_seat true here none same = absurd cc
    by_seat false here none same = let yes_is : (seat == n) ≡ true = eq-eqb seat n (sym same) in absurd cc

    by_street : (b : Bool) → (on == street) ≡ b → (b && (seat == n)) ≡ false → (street ≢ on) ⊎ (n ≢ seat)
    by_street true here none = inr (by_seat (seat == n) refl none)
    by_street false here none = inl (λ same. let yes_is : (on == street) ≡ true = eq-eqb on street (sym same) in absurd cc)

module _ (t next : CardState) (past : Past) (on seat : ℕ) (cards : List Slot) (stands : StandsFor t past) (change : IsDiscarded t next on seat cards) (ten : t.seats ≤ 10) (undrawn : has_drawn past on seat ≡ false) where
  drew_is : (street n : ℕ) (b : Bool) → ((on == street) && (seat == n)) ≡ b → IsSeatOf t.seats n → has_drawn_at next.draws street n ≡ (b || has_drawn past street n)
  drew_is street n true is in_hand =
      let parts = and_parts (on == street) (seat == n) is in
      ap (λ (s : ℕ). has_drawn_at next.draws s n) (sym (eqb-true on street parts.0)) ∙ ap (has_drawn_at next.draws on) (sym (eqb-true seat n parts.1)) ∙ change.drew
  drew_is street n false is in_hand =
      change.others street n in_hand.first (omega (arith, in_hand.last, ten)) (other_one on street seat n is) ∙ stands.drew street n in_hand

  named_is : (street n : ℕ) (b : Bool) → ((on == street) && (seat == n)) ≡ b → IsSeatOf t.seats n → named_at next.draws street n ≡ (if b then length cards else 0) + cards_discarded past street n
  named_is street n true is in_hand =
      let parts = and_parts (on == street) (seat == n) is in
      let none : cards_discarded past street n ≡ 0 =
      ap (λ (s : ℕ). cards_discarded past s n) (sym (eqb-true on street parts.0)) ∙ ap (cards_discarded past on) (sym (eqb-true seat n parts.1)) ∙ undrawn_none past on seat undrawn in
      let named : named_at next.draws street n ≡ length cards =
      ap (λ (s : ℕ). named_at next.draws s n) (sym (eqb-true on street parts.0)) ∙ ap (named_at next.draws on) (sym (eqb-true seat n parts.1)) ∙ change.named in
      omega (arith, none, named)
  named_is street n false is in_hand =
      let kept = change.others_named street n in_hand.first (omega (arith, in_hand.last, ten)) (other_one on street seat n is) ∙ stands.named street n in_hand in
      omega (arith, kept)

  pub stands_discard : StandsFor next (Discarded on seat cards ∷ past)
  stands_discard = record {
    places = change.places ∙ ap (after_discard on seat cards) stands.places ∙ same_places t next (Discarded on seat cards ∷ past) change.table;
    drew = λ street n in_hand. drew_is street n ((on == street) && (seat == n)) refl (back t next n change.seats in_hand);
    named = λ street n in_hand. named_is street n ((on == street) && (seat == n)) refl (back t next n change.seats in_hand);
    shown = λ n in_hand. ap (λ (r : LiveRow). flag_of r n) change.shown ∙ stands.shown n (back t next n change.seats in_hand);
    mucked = λ n in_hand. ap (λ (r : LiveRow). flag_of r n) change.mucked ∙ stands.mucked n (back t next n change.seats in_hand);
  }

pub discard_stands : (t next : CardState) (setup : Setup) (past : Past) (on seat : ℕ) (cards : List Slot) → StandsFor t past → t.seats ≤ 10 → has_drawn past on seat ≡ false → on ≡ (turn setup past).0 → IsDiscarded t next on seat cards → StandsFor next (with_event setup (said.Discard seat cards) past)
unfolding with_event
discard_stands t next setup past on seat cards stands ten undrawn on_is change =
    subst (λ (s : ℕ). StandsFor next (Discarded s seat cards ∷ past)) on_is (stands_discard t next past on seat cards stands change ten undrawn)
