-- Each move of the player to act takes something.
use Rattle.std.proofs.Common.{◌≡◌, ℕ, ◌≤◌, ◌<◌, Bool, true, false, ◌||◌, nat_lt, nat_le, if◌then◌else◌, inl, inr, List, refl, arith}
use Rattle.std.specs.List.{list_any}
use Rattle.std.proofs.lemmas.Bool.{and_parts, cases_lt, false_from_ne_true, ltb-true}
use Rattle.card_set.proofs.Tests.{false_true}
use Rattle.play_event.specs.declared.setup.Setup.{Setup}
use Rattle.play_event.specs.Amounts.{bring_in_target, call_target}
use Rattle.play_event.specs.Chips.{chips_left, street_chips}
use Rattle.play_event.specs.Due.{has_acted_since_raise, has_opened_betting, has_to_move}
use Rattle.play_event.specs.Past.{Act, BroughtIn, Called, Folded, Move, Raised, moves_on}
use Rattle.play_event.specs.CurrentBet.{to_call, current_bet}
use Rattle.play_event.specs.Raising.{has_moved}
use Rattle.play_event.specs.Seats.{able_count, can_act, is_live}
use Rattle.hand_gen.proofs.FewMoves.{Takes, chips, first, hand, opens}
use Rattle.hand_gen.proofs.BetRaised.{AreTaken, owes_since, within_current_bet}
use Rattle.chip_ledger.specs.Seat.{IsSeatOf}

-- a move to a target
abbrev pub made_to : Setup → List Move → ℕ → ℕ → Act → ℕ → Move
made_to setup moves street seat act target = record { street = street; seat = seat; act = act; from = street_chips setup moves street seat; to = target }

module _ (setup : Setup) (moves : List Move) (street seat : ℕ) (taken : AreTaken setup moves) (in_hand : IsSeatOf setup.stacks.seats seat) (has_to : has_to_move setup moves street seat ≡ true) where
  parts : (can_act setup moves seat ≡ true) × ((if has_acted_since_raise setup moves street seat then false else (nat_lt 0 (to_call setup moves street seat) || nat_le 2 (able_count setup moves))) ≡ true)
  parts = and_parts (can_act setup moves seat) (if has_acted_since_raise setup moves street seat then false else (nat_lt 0 (to_call setup moves street seat) || nat_le 2 (able_count setup moves))) has_to

  pub live : is_live moves seat ≡ true
  live = (and_parts (is_live moves seat) (nat_lt 0 (chips_left setup moves seat)) parts.0).0

  some : 1 ≤ chips_left setup moves seat
  some = ltb-true 0 (chips_left setup moves seat) (and_parts (is_live moves seat) (nat_lt 0 (chips_left setup moves seat)) parts.0).1

  fresh : has_acted_since_raise setup moves street seat ≡ false
  fresh = unmoved (has_acted_since_raise setup moves street seat) (nat_lt 0 (to_call setup moves street seat) || nat_le 2 (able_count setup moves)) parts.1
    where
      unmoved : (since rest : Bool) → (if since then false else rest) ≡ true → since ≡ false
      unmoved true rest is = false_true is
      unmoved false rest is = refl

  pub fold_takes : Takes setup (made_to setup moves street seat Folded (street_chips setup moves street seat)) moves
  fold_takes = hand live refl

  pub call_takes : 1 ≤ street → street ≤ 5 → Takes setup (made_to setup moves street seat Called (call_target setup moves street seat)) moves
  call_takes one five = elim (cases_lt (street_chips setup moves street seat) (current_bet setup moves street)) [
    | inl owes ↦ chips some (omega (arith, owes, some))
    | inr even ↦
        first one five (false_from_ne_true (has_moved moves street seat) (λ moved.
        absurd (omega (arith, even, owes_since setup moves street seat taken in_hand moved fresh))))
  ]

  pub raise_takes : (target : ℕ) → current_bet setup moves street < target → Takes setup (made_to setup moves street seat Raised target) moves
  raise_takes target above = chips some (omega (arith, above, within_current_bet setup moves street seat in_hand))

  pub bring_in_takes : street ≡ 1 → list_any (λ (m : Move). has_opened_betting m.act) (moves_on 1 moves) ≡ false → Takes setup (made_to setup moves street seat BroughtIn (bring_in_target setup moves street seat)) moves
  bring_in_takes on unopened = opens on refl unopened
