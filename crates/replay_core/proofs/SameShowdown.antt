-- Shares are those of any showdown that shows the same hands.
use Rattle.std.proofs.Common.{◌≡◌, ℕ, suc, ◌≤◌, Bool, true, false, ◌&&◌, not, nat_le, if◌then◌else◌, inl, inr, Option, Some, List, [], ◌∷◌, length, refl, sym, ap, subst, ◌∙◌}
use Rattle.std.specs.List.{list_any}
use Rattle.std.proofs.lemmas.Bool.{and_parts}
use Rattle.card_set.specs.declared.card.Card.{Card}
use Rattle.chip_ledger.specs.Pots.{PlainPot, may_win}
use Rattle.chip_ledger.specs.Seat.{seats_of}
use Rattle.hand_order.specs.Best.{Beats}
use Rattle.hand_order.specs.Choices.{allowed}
use Rattle.play_event.specs.declared.code.Code.{Code}
use Rattle.play_event.specs.Games.{game_of}
use Rattle.chip_ledger.proofs.SeatLists.{any_seats}
use Rattle.showdown_split.specs.Alike.{AreAlike}
use Rattle.showdown_split.proofs.Compared.{same_contested}
use Rattle.variant_table.specs.Orders.{award_of, second_of}
use Rattle.replay_core.specs.Showdowns.{ShowTheSame}
use Rattle.variant_table.specs.Shares.{AllShared, AreContested, AreOfOne, AreSharesOf, HasHand, Showdown, choices_for, is_contender, first_unshown, first_unshown_from, is_unshown, ranking_of}

-- who may win a pot is a seat of the hand
abbrev pub IsOfSeats : ℕ → PlainPot → Type 0
IsOfSeats seats pot = (seat : ℕ) → may_win pot seat ≡ true → (1 ≤ seat) × (seat ≤ seats)

same_contends : (a b : Showdown) (pot : PlainPot) → ShowTheSame a b → IsOfSeats a.seats pot → (seat : ℕ) → is_contender a pot seat ≡ is_contender b pot seat
same_contends a b pot same inside seat = by_may (may_win pot seat) refl
  where
    by_may : (m : Bool) → may_win pot seat ≡ m → (may_win pot seat && a.shown seat) ≡ (may_win pot seat && b.shown seat)
    by_may true is = let range = inside seat is in ap (λ s. may_win pot seat && s) (same.shown seat range.0 range.1)
    by_may false is = ap (λ m. m && a.shown seat) is ∙ sym (ap (λ m. m && b.shown seat) is)

same_choices : (code : Code) (a b : Showdown) (pot : PlainPot) → ShowTheSame a b → IsOfSeats a.seats pot → (seat : ℕ) → is_contender b pot seat ≡ true → choices_for code a seat ≡ choices_for code b seat
same_choices code a b pot same inside seat contends_b =
    let parts = and_parts (may_win pot seat) (a.shown seat) (same_contends a b pot same inside seat ∙ contends_b) in
    let range = inside seat parts.0 in
    ap (λ (hole : List Card). allowed (game_of code).pick hole a.board) (same.holding seat range.0 range.1 parts.1)
    ∙ ap (allowed (game_of code).pick (b.holding seat)) same.board

alike : (code : Code) (a b : Showdown) (pot : PlainPot) → ShowTheSame a b → IsOfSeats a.seats pot → AreAlike (is_contender b pot) (ranking_of code a) (ranking_of code b)
alike code a b pot same inside = record {
  beats = λ m n first second.
      let one = same_choices code a b pot same inside m first in
      let two = same_choices code a b pot same inside n second in (
        λ h. subst (λ c. Beats (award_of code).is_hand (award_of code).is_weaker (choices_for code b m) c) two (subst (λ c. Beats (award_of code).is_hand (award_of code).is_weaker c (choices_for code a n)) one h),
        λ h. subst (λ c. Beats (award_of code).is_hand (award_of code).is_weaker (choices_for code a m) c) (sym two) (subst (λ c. Beats (award_of code).is_hand (award_of code).is_weaker c (choices_for code b n)) (sym one) h),
      );
  beats_low = λ shown m n first second.
      let one = same_choices code a b pot same inside m first in
      let two = same_choices code a b pot same inside n second in (
        λ h. subst (λ c. Beats (second_of code).is_hand (second_of code).is_weaker (choices_for code b m) c) two (subst (λ c. Beats (second_of code).is_hand (second_of code).is_weaker c (choices_for code a n)) one h),
        λ h. subst (λ c. Beats (second_of code).is_hand (second_of code).is_weaker (choices_for code a m) c) (sym two) (subst (λ c. Beats (second_of code).is_hand (second_of code).is_weaker c (choices_for code b n)) (sym one) h),
      );
  has_low = λ n first.
      let one = same_choices code a b pot same inside n first in (
        λ h. (h.0, subst (λ c. HasHand (second_of code) c) one h.1),
        λ h. (h.0, subst (λ c. HasHand (second_of code) c) (sym one) h.1),
      );
}

-- the shares of a pot
same_shares : (code : Code) (a b : Showdown) (pot : PlainPot) (share : ℕ → ℕ) → ShowTheSame a b → IsOfSeats a.seats pot → AreSharesOf code a pot share → AreSharesOf code b pot share
same_shares code a b pot share same inside (inl one) = inl (subst (λ (n : ℕ). AreOfOne n pot share) same.seats one)
same_shares code a b pot share same inside (inr shown) =
    inr (record {
      several = shown.several;
      someone = (shown.someone.0, sym (same_contends a b pot same inside shown.someone.0) ∙ shown.someone.1);
      contested = subst (λ (n : ℕ). AreContested n (is_contender b pot) (ranking_of code b) pot.chips share) same.seats
          (same_contested a.seats (is_contender a pot) (is_contender b pot) (ranking_of code a) (ranking_of code b) pot.chips share (same_contends a b pot same inside) (alike code a b pot same inside) shown.contested);
    })

-- each of some pots is of seats of the hand
abbrev pub AreOfSeats : ℕ → List PlainPot → Type 0
AreOfSeats seats [] = Unit {0}
AreOfSeats seats (pot ∷ pots) = IsOfSeats seats pot × AreOfSeats seats pots

pub all_same : (code : Code) (a b : Showdown) (pots : List PlainPot) (shares : List (ℕ → ℕ)) → ShowTheSame a b → AreOfSeats a.seats pots → AllShared code a pots shares → AllShared code b pots shares
all_same code a b [] [] same inside all = tt
all_same code a b [] (share ∷ shares) same inside all = all
all_same code a b (pot ∷ pots) [] same inside all = all
all_same code a b (pot ∷ pots) (share ∷ shares) same inside all = (same_shares code a b pot share same inside.0 all.0, all_same code a b pots shares same inside.1 all.1)

same_unshown : (a b : Showdown) (pot : PlainPot) → ShowTheSame a b → IsOfSeats a.seats pot → is_unshown a pot ≡ is_unshown b pot
same_unshown a b pot same inside =
    ap (λ c. nat_le 2 (length pot.eligible) && not c) (any_seats (is_contender a pot) (is_contender b pot) a.seats (λ n low high. same_contends a b pot same inside n))
    ∙ ap (λ (n : ℕ). nat_le 2 (length pot.eligible) && not (list_any (is_contender b pot) (seats_of n))) same.seats

same_from : (number : ℕ) (a b : Showdown) (pots : List PlainPot) → ShowTheSame a b → AreOfSeats a.seats pots → first_unshown_from number a pots ≡ first_unshown_from number b pots
same_from number a b [] same inside = refl
same_from number a b (pot ∷ pots) same inside =
    ap (λ c. if c then Some number else first_unshown_from (suc number) a pots) (same_unshown a b pot same inside.0)
    ∙ ap (λ (later : Option ℕ). if is_unshown b pot then Some number else later) (same_from (suc number) a b pots same inside.1)

pub same_first : (a b : Showdown) (pots : List PlainPot) → ShowTheSame a b → AreOfSeats a.seats pots → first_unshown a pots ≡ first_unshown b pots
same_first a b pots same inside = same_from 1 a b pots same inside
