-- The reasons against a discard by the state are the reasons of the rules.
use Rattle.std.proofs.Common.{◌≡◌, ℕ, false, ◌&&◌, ◌==◌, not, find, filter, List, length, Option, refl, sym, ap, ◌∙◌, arith}
use Rattle.std.specs.Option.{option_map_or}
use Rattle.card_set.specs.declared.card.Slot.{Slot}
use Rattle.chip_ledger.specs.declared.live_row.LiveRow.{LiveRow}
use Rattle.chip_ledger.specs.LiveRow.{flag_of}
use Rattle.chip_ledger.specs.Seat.{IsSeatOf, seats_of}
use Rattle.play_event.specs.declared.code.Code.{Code}
use Rattle.play_event.specs.declared.reason.Due.{Due}
use Rattle.play_event.specs.declared.reason.Due.TheVariants as dues
use Rattle.play_event.specs.declared.setup.Setup.{Setup}
use Rattle.play_event.specs.declared.setup.Rules.{Rules}
use Rattle.play_event.specs.Said as said
use Rattle.play_event.specs.Past.{Past, moves_of}
use Rattle.play_event.specs.Seats.{is_live}
use Rattle.play_event.specs.Dealing.{has_drawn, next_to_draw}
use Rattle.play_event.specs.Due.{turn}
use Rattle.card_set.specs.Known.{known_among}
use Rattle.play_event.specs.Places.{Place, is_held_by}
use Rattle.play_event.specs.NameMatching.{after_discard, blanks_in, held_count}
use Rattle.play_event.specs.Table.{places_of}
use Rattle.play_event.specs.Taken.{has_misplaced_card}
use Rattle.play_event.specs.CardReasons.{is_next_to_draw, has_no_place}
use Rattle.play_event.specs.Reasons.{why, first_reason, all_reasons}
use Rattle.card_places.specs.declared.card_state.CardState.{CardState}
use Rattle.card_places.specs.Placed.{placed}
use Rattle.deal_core.specs.Standing.{IsNow}
use Rattle.card_places.specs.Refusals.{has_to_draw, next_to_draw_in, discard_chain, discard_reason_on, discard_reason}
use Rattle.card_set.proofs.Finding.{find_agree}
use Rattle.play_laws.proofs.DueStreets.{draw_street}

module _ (t : CardState) (due : Due) (live : LiveRow) (setup : Setup) (past : Past) (now : IsNow t due live setup past) where
  pub next_is : (on : ℕ) → next_to_draw setup past on ≡ next_to_draw_in t live on
  next_is on =
      ap (λ (n : ℕ). find (λ seat. is_live (moves_of past) seat && not (has_drawn past on seat)) (seats_of n)) now.seats
      ∙ find_agree (λ seat. is_live (moves_of past) seat && not (has_drawn past on seat)) (has_to_draw t live on) 1 t.seats
      (λ k low high.
      let in_hand : IsSeatOf t.seats k = record { first = low; last = omega (arith, high) } in
      ap (λ b. b && not (has_drawn past on k)) (sym (now.lives k in_hand)) ∙ ap (λ b. flag_of live k && not b) (sym (now.stands.drew on k in_hand)))

  on_is : (on seat : ℕ) (cards : List Slot) → discard_chain (is_next_to_draw setup past on seat) (held_count (places_of setup.code past) seat) (length cards) (has_misplaced_card setup.code (places_of setup.code past) (after_discard on seat cards (places_of setup.code past))) (has_no_place (filter (is_held_by seat) (places_of setup.code past)) (known_among cards) (blanks_in cards)) ≡ discard_reason_on t live on seat cards
  on_is on seat cards =
      ap (λ (c : Code). discard_chain (is_next_to_draw setup past on seat) (held_count (places_of c past) seat) (length cards) (has_misplaced_card c (places_of c past) (after_discard on seat cards (places_of c past))) (has_no_place (filter (is_held_by seat) (places_of c past)) (known_among cards) (blanks_in cards))) now.code_is
      ∙ ap (λ (ps : List Place). discard_chain (is_next_to_draw setup past on seat) (held_count ps seat) (length cards) (has_misplaced_card t.table.code ps (after_discard on seat cards ps)) (has_no_place (filter (is_held_by seat) ps) (known_among cards) (blanks_in cards))) (sym now.stands.places)
      ∙ ap (λ (o : Option ℕ). discard_chain (option_map_or (λ next. next == seat) o false) (held_count (placed t.places) seat) (length cards) (has_misplaced_card t.table.code (placed t.places) (after_discard on seat cards (placed t.places))) (has_no_place (filter (is_held_by seat) (placed t.places)) (known_among cards) (blanks_in cards))) (next_is on)

discard_by : (t : CardState) (due : Due) (live : LiveRow) (setup : Setup) (rules : Rules) (past : Past) (seat : ℕ) (cards : List Slot) → IsNow t due live setup past → first_reason (all_reasons setup rules past ((turn setup past).0, due) (said.Discard seat cards)) ≡ discard_reason t live due seat cards
discard_by t dues.Over live setup rules past seat cards now = refl
discard_by t dues.BringIn live setup rules past seat cards now = refl
discard_by t dues.Move live setup rules past seat cards now = refl
discard_by t dues.Show live setup rules past seat cards now = refl
discard_by t (dues.Deal on) live setup rules past seat cards now = refl
discard_by t (dues.Draw on) live setup rules past seat cards now =
    ap (λ (s : ℕ). discard_chain (is_next_to_draw setup past s seat) (held_count (places_of setup.code past) seat) (length cards) (has_misplaced_card setup.code (places_of setup.code past) (after_discard s seat cards (places_of setup.code past))) (has_no_place (filter (is_held_by seat) (places_of setup.code past)) (known_among cards) (blanks_in cards))) (sym (draw_street setup past on now.due_is))
    ∙ on_is t (dues.Draw on) live setup past now on seat cards

pub why_discard : (t : CardState) (due : Due) (live : LiveRow) (setup : Setup) (rules : Rules) (past : Past) (seat : ℕ) (cards : List Slot) → IsNow t due live setup past → why setup rules past (said.Discard seat cards) ≡ discard_reason t live due seat cards
unfolding why
why_discard t due live setup rules past seat cards now =
    ap (λ (d : Due). first_reason (all_reasons setup rules past ((turn setup past).0, d) (said.Discard seat cards))) now.due_is
    ∙ discard_by t due live setup rules past seat cards now
