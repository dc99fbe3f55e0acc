-- What a street deals next by the state is what it deals next by the past.
use Rattle.std.proofs.Common.{◌≡◌, ℕ, nat_lt, find, Option, Some, None, sym, ap, ◌∙◌, arith}
use Rattle.chip_ledger.specs.declared.live_row.LiveRow.{LiveRow}
use Rattle.chip_ledger.specs.Seat.{seats_of}
use Rattle.chip_ledger.specs.SeatsSaid.{seat_said}
use Rattle.play_event.specs.declared.reason.Due.{Due}
use Rattle.play_event.specs.declared.setup.Setup.{Setup}
use Rattle.play_event.specs.Dealing.{cards_owed}
use Rattle.play_event.specs.Past.{Past}
use Rattle.card_places.specs.declared.card_state.CardState.{CardState}
use Rattle.card_places.specs.declared.owing.NextDeal.{NextDeal}
use Rattle.card_places.specs.Refusals.{first_owed_in, owed_in, owed_to_in}
use Rattle.deal_core.specs.NextDeal.{IsNextDeal, first_owed, owed_to}
use Rattle.deal_core.specs.Standing.{IsNow}
use Rattle.deal_core.proofs.WhyDeal.{board_owed_is, owed_is}
use Rattle.card_set.proofs.Finding.{find_agree}
use Rattle.card_set.proofs.NumbersOfRange.{found_in_range}

module _ (t : CardState) (due : Due) (live : LiveRow) (setup : Setup) (past : Past) (now : IsNow t due live setup past) where
  first_is : (on : ℕ) → first_owed_in t live on ≡ first_owed setup past on
  first_is on =
      find_agree (λ seat. nat_lt 0 (owed_in t live on seat)) (λ seat. nat_lt 0 (cards_owed setup past on seat)) 1 t.seats
      (λ k low high. ap (nat_lt 0) (sym (owed_is t due live setup past now on k (record { first = low; last = omega (arith, high) }))))
      ∙ ap (λ (n : ℕ). find (λ seat. nat_lt 0 (cards_owed setup past on seat)) (seats_of n)) (sym now.seats)

  owed_to_is : (on : ℕ) (owner : Option ℕ) → owner ≡ first_owed_in t live on → owed_to_in t live on owner ≡ owed_to setup past on owner
  owed_to_is on None first = sym (board_owed_is t due live setup past now on)
  owed_to_is on (Some seat) first =
      let there = found_in_range (λ k. nat_lt 0 (owed_in t live on k)) 1 t.seats seat (sym first) in
      sym (owed_is t due live setup past now on seat (record { first = there.1.0; last = omega (arith, there.1.1) }))

  pub next_deal_is : (on : ℕ) (deal : NextDeal) → seat_said deal.owner ≡ first_owed_in t live on → deal.count ≡ owed_to_in t live on (seat_said deal.owner) → IsNextDeal setup past on deal
  next_deal_is on deal owner count = record {
    owner = owner ∙ first_is on;
    count = count ∙ owed_to_is on (seat_said deal.owner) owner;
  }
