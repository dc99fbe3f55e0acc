-- What is complete by the state is complete in the past.
use Rattle.std.proofs.Common.{◌≡◌, ℕ, ◌-◌, Bool, true, ◌&&◌, ◌||◌, not, nat_lt, if◌then◌else◌, count_by, Option, Some, is_some, refl, sym, ap, ◌∙◌}
use Rattle.std.specs.List.{list_any}
use Rattle.chip_ledger.specs.declared.live_row.LiveRow.{LiveRow}
use Rattle.chip_ledger.specs.LiveRow.{flag_of}
use Rattle.chip_ledger.specs.Seat.{IsSeatOf, seats_of}
use Rattle.play_event.specs.declared.code.Code.{Code}
use Rattle.play_event.specs.declared.reason.Due.{Due}
use Rattle.play_event.specs.declared.reason.Due.TheVariants as dues
use Rattle.play_event.specs.declared.setup.Setup.{Setup}
use Rattle.play_event.specs.Games.{hole_cards_on}
use Rattle.play_event.specs.Streets.{has_draw}
use Rattle.play_event.specs.Past.{Past, moves_of}
use Rattle.play_event.specs.Seats.{is_live}
use Rattle.play_event.specs.Dealing.{hole_cards_owed, hole_cards_dealt, replacements_owed, next_to_draw}
use Rattle.play_event.specs.Showing.{has_to_show, has_shown}
use Rattle.play_event.specs.Places.{is_in_group}
use Rattle.card_places.specs.declared.card_state.CardState.{CardState}
use Rattle.card_places.specs.Drawn.{named_at}
use Rattle.card_places.specs.Placed.{placed}
use Rattle.deal_core.specs.Standing.{IsNow}
use Rattle.card_places.specs.Refusals.{board_owed_in, next_to_draw_in, is_owed_deal_in, is_owed_draw_in, has_to_show_in, is_done_in}
use Rattle.play_laws.specs.Dues.{is_cards_due}
use Rattle.play_laws.specs.Done.{is_done}
use Rattle.play_laws.proofs.Groups.{group_count}
use Rattle.chip_ledger.proofs.SeatLists.{any_seats}
use Rattle.deal_core.proofs.WhyDeal.{dealt_is, board_owed_is}
use Rattle.deal_core.proofs.WhyDiscard.{next_is}

module _ (t : CardState) (due : Due) (live : LiveRow) (setup : Setup) (past : Past) (now : IsNow t due live setup past) where
  dealt_of : (on seat : ℕ) → count_by (is_in_group (Some seat) on) (placed t.places) ≡ hole_cards_dealt past on seat
  dealt_of on seat = dealt_is t due live setup past now (Some seat) on ∙ group_count setup.code (Some seat) past on

  lacks_is : (on seat : ℕ) → IsSeatOf t.seats seat → is_owed_deal_in t live on seat ≡ nat_lt 0 (hole_cards_owed setup past on seat)
  lacks_is on seat in_hand =
      ap (λ (n : ℕ). nat_lt 0 (if flag_of live seat then hole_cards_on t.table.code on - n else 0)) (dealt_of on seat)
      ∙ ap (λ (c : Code). nat_lt 0 (if flag_of live seat then hole_cards_on c on - hole_cards_dealt past on seat else 0)) (sym now.code_is)
      ∙ ap (λ (b : Bool). nat_lt 0 (if b then hole_cards_on setup.code on - hole_cards_dealt past on seat else 0)) (now.lives seat in_hand)

  owed_draw_is : (on seat : ℕ) → IsSeatOf t.seats seat → is_owed_draw_in t on seat ≡ nat_lt 0 (replacements_owed past on seat)
  owed_draw_is on seat in_hand =
      ap (λ (n : ℕ). nat_lt 0 (named_at t.draws on seat - n)) (dealt_of on seat)
      ∙ ap (λ (n : ℕ). nat_lt 0 (n - hole_cards_dealt past on seat)) (now.stands.named on seat in_hand)

  to_show_is : (seat : ℕ) → IsSeatOf t.seats seat → has_to_show_in t live seat ≡ has_to_show past seat
  to_show_is seat in_hand =
      ap (λ b. b && not (flag_of t.shown seat || flag_of t.mucked seat)) (now.lives seat in_hand)
      ∙ ap (λ b. is_live (moves_of past) seat && not (b || flag_of t.mucked seat)) (now.stands.shown seat in_hand)
      ∙ ap (λ b. is_live (moves_of past) seat && not (has_shown past seat || b)) (now.stands.mucked seat in_hand)

  all_are : (p q : ℕ → Bool) → ((seat : ℕ) → IsSeatOf t.seats seat → p seat ≡ q seat) → list_any p (seats_of t.seats) ≡ list_any q (seats_of setup.stacks.seats)
  all_are p q same = any_seats p q t.seats (λ k low high. same k (record { first = low; last = high })) ∙ ap (λ (n : ℕ). list_any q (seats_of n)) (sym now.seats)

-- the same in the past, whatever street is due
pub done_is : (t : CardState) (at due : Due) (live : LiveRow) (setup : Setup) (past : Past) → IsNow t at live setup past → is_done_in t live due ≡ is_done setup past due
done_is t at (dues.Deal on) live setup past now =
    ap (λ b. not (b || nat_lt 0 (board_owed_in t on))) (all_are t at live setup past now (is_owed_deal_in t live on) (λ seat. nat_lt 0 (hole_cards_owed setup past on seat)) (lacks_is t at live setup past now on))
    ∙ ap (λ (n : ℕ). not (list_any (λ seat. nat_lt 0 (hole_cards_owed setup past on seat)) (seats_of setup.stacks.seats) || nat_lt 0 n)) (sym (board_owed_is t at live setup past now on))
done_is t at (dues.Draw on) live setup past now =
    ap (λ (c : Code). not (has_draw c on && (is_some (next_to_draw_in t live on) || list_any (is_owed_draw_in t on) (seats_of t.seats)))) (sym now.code_is)
    ∙ ap (λ (o : Option ℕ). not (has_draw setup.code on && (is_some o || list_any (is_owed_draw_in t on) (seats_of t.seats)))) (sym (next_is t at live setup past now on))
    ∙ ap (λ b. not (has_draw setup.code on && (is_some (next_to_draw setup past on) || b))) (all_are t at live setup past now (is_owed_draw_in t on) (λ seat. nat_lt 0 (replacements_owed past on seat)) (λ seat in_hand. owed_draw_is t at live setup past now on seat in_hand))
done_is t at dues.Show live setup past now =
    ap not (all_are t at live setup past now (has_to_show_in t live) (has_to_show past) (to_show_is t at live setup past now))
done_is t at dues.BringIn live setup past now = refl
done_is t at dues.Move live setup past now = refl
done_is t at dues.Over live setup past now = refl

-- what is complete can be ended
pub done_ended : (t : CardState) (live : LiveRow) (due : Due) → is_done_in t live due ≡ true → is_cards_due due ≡ true
done_ended t live (dues.Deal on) done = refl
done_ended t live (dues.Draw on) done = refl
done_ended t live dues.Show done = refl
done_ended t live dues.BringIn done = done
done_ended t live dues.Move done = done
done_ended t live dues.Over done = done
