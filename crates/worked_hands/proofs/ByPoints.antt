-- Who wins a pot is determined by the points of those who contend for it, or by there being only
-- one of them.
use Rattle.std.proofs.Common.{◌≡◌, ◌↔◌, ◌≤◌, ◌==◌, ◌&&◌, ℕ, Bool, true, false, ◌++◌, subst, List, [], ◌∷◌, length, Option, None, not, refl, sym, ◌∙◌, ap, inl, inr}
use Rattle.std.specs.List.{AllByRecursion, list_any}
use Rattle.std.proofs.lemmas.Bool.{and_parts, eqb-true, eq-eqb, or_cases}
use Rattle.card_set.proofs.Tests.{false_true}
use Rattle.card_set.specs.declared.card.Card.{Card}
use Rattle.card_set.specs.Deck.{deck_index}
use Rattle.card_set.specs.Different.{AllDifferent, Lacks}
use Rattle.chip_ledger.specs.Pots.{PlainPot}
use Rattle.hand_order.specs.Best.{IsLess}
use Rattle.hand_order.specs.Choices.{AreHeld, CanPick, IsAmong}
use Rattle.hand_order.specs.Order.{IsLawful}
use Rattle.hand_order.specs.Points.{greatest}
use Rattle.hand_order.proofs.Held.{held_allowed}
use Rattle.hand_order.proofs.Lawful.{beats_exactly, greatest_of_holding}
use Rattle.play_event.specs.declared.code.Code.{Code}
use Rattle.play_event.specs.Games.{game_of}
use Rattle.variant_table.specs.Division.{divided}
use Rattle.variant_table.specs.Orders.{award_of}
use Rattle.variant_table.specs.Shares.{AreSharesOf, Showdown, choices_for, is_contender, ranking_of}
use Rattle.showdown_split.specs.Alike.{AreAlike}
use Rattle.showdown_split.specs.SeatPoints.{ranking_by}
use Rattle.showdown_split.proofs.Bests.{best_win, has_best}
use Rattle.showdown_split.proofs.Compared.{same_shares}
use Rattle.worked_hands.proofs.OneContends.{never_itself, one_contends}

-- a card lies at another place of the deck than each of these
abbrev lies_apart : Card → List Card → Bool
lies_apart card [] = true
lies_apart card (other ∷ rest) = not (deck_index card == deck_index other) && lies_apart card rest

-- all cards do
abbrev pub lie_apart : List Card → Bool
lie_apart [] = true
lie_apart (card ∷ rest) = lies_apart card rest && lie_apart rest

lacks : (card : Card) (cards : List Card) → lies_apart card cards ≡ true → Lacks card cards
lacks card [] is = tt
lacks card (other ∷ rest) is =
    let parts = and_parts (not (deck_index card == deck_index other)) (lies_apart card rest) is in
    (λ same. false_true (sym (ap not (eq-eqb (deck_index card) (deck_index other) (ap deck_index same))) ∙ parts.0), lacks card rest parts.1)

apart : (cards : List Card) → lie_apart cards ≡ true → AllDifferent cards
apart [] is = tt
apart (card ∷ rest) is = let parts = and_parts (lies_apart card rest) (lie_apart rest) is in (lacks card rest parts.0, apart rest parts.1)

-- what holds of each of some seats holds of a seat that is among them
pub among : (P : ℕ → Type 0) (seats : List ℕ) (seat : ℕ) → AllByRecursion P seats → list_any (λ other. other == seat) seats ≡ true → P seat
among P [] seat each is = false_true is
among P (first ∷ rest) seat each is = elim (or_cases (first == seat) (list_any (λ other. other == seat) rest) is) [
  | inl here ↦ subst P (eqb-true first seat here) each.0
  | inr later ↦ among P rest seat each.1 later
]

-- a hand that can be compared: cards that the game can use, all different
pub record IsHolding (code : Code) (showdown : Showdown) (held seat : ℕ) : Type 0 where
  pub first : 1 ≤ seat
  pub last : seat ≤ showdown.seats
  pub usable : CanPick held (game_of code).pick (showdown.holding seat) showdown.board
  pub different : lie_apart (showdown.holding seat ++ showdown.board) ≡ true

-- the most points that a seat can make
abbrev pub most_points : Code → Showdown → (List Card → Option ℕ) → ℕ → Option ℕ
most_points code showdown points seat = greatest points (choices_for code showdown seat)

module _ (code : Code) (showdown : Showdown) (held : ℕ) (points : List Card → Option ℕ) (lawful : IsLawful (AreHeld held) (award_of code).is_hand (award_of code).is_weaker points) where
  abbrev Holds : ℕ → Type 0
  Holds seat = IsHolding code showdown held seat

  abbrev most : ℕ → Option ℕ
  most seat = most_points code showdown points seat

  beats : (seat other : ℕ) → Holds seat → Holds other → IsLess (most other) (most seat) ↔ (ranking_of code showdown).beats seat other
  beats seat other one two =
      let looks : (n : ℕ) → Holds n → (choice : List Card) → IsAmong choice (choices_for code showdown n) → AreHeld held choice =
      λ n hand choice is. held_allowed held (game_of code).pick (showdown.holding n) showdown.board choice hand.usable (apart (showdown.holding n ++ showdown.board) hand.different) is in
      beats_exactly (AreHeld held) (award_of code).is_hand (award_of code).is_weaker points (choices_for code showdown seat) (choices_for code showdown other) (most seat) (most other) lawful (looks seat one) (looks other two)
      (greatest_of_holding (AreHeld held) (award_of code).is_hand (award_of code).is_weaker points (choices_for code showdown seat) (most seat) lawful (looks seat one) refl)
      (greatest_of_holding (AreHeld held) (award_of code).is_hand (award_of code).is_weaker points (choices_for code showdown other) (most other) lawful (looks other two) refl)

  -- a pot that goes to the best of the hands that contend for it, which are those of these seats
  pub by_points : (pot : PlainPot) (share : ℕ → ℕ) (someone : ℕ) (seats : List ℕ) → (game_of code).split ≡ false → 2 ≤ length pot.eligible → is_contender showdown pot someone ≡ true
      → ((seat : ℕ) → is_contender showdown pot seat ≡ true → list_any (λ other. other == seat) seats ≡ true) → AllByRecursion (IsHolding code showdown held) seats
      → ((seat : ℕ) → 1 ≤ seat → seat ≤ showdown.seats → share seat ≡ divided showdown.seats (has_best (is_contender showdown pot) (most_points code showdown points) showdown.seats) pot.chips seat)
      → AreSharesOf code showdown pot share
  by_points pot share someone seats whole several contends contenders holding parts =
      let contending = is_contender showdown pot in
      let none : ℕ → Option ℕ = λ seat. None in
      let holds : (seat : ℕ) → contending seat ≡ true → Holds seat = λ seat is. among Holds seats seat holding (contenders seat is) in
      let inside : (n : ℕ) → contending n ≡ true → (1 ≤ n) × (n ≤ showdown.seats) = λ n is. ((holds n is).first, (holds n is).last) in
      let alike : AreAlike contending (ranking_by most none) (ranking_of code showdown) =
      record {
        beats = λ m n one two. beats m n (holds m one) (holds n two);
        beats_low = λ low m n one two. false_true (sym whole ∙ low.2.0);
        has_low = λ n one. (λ some. false_true some, λ low. false_true (sym whole ∙ low.0));
      } in
      same_shares showdown.seats contending (ranking_by most none) (ranking_of code showdown) pot share alike (inr (record {
        several = several;
        someone = (someone, contends);
        contested = inl (
          λ low. false_true low.2,
          record { wins = has_best contending most showdown.seats; told = best_win showdown.seats contending most inside; parts = parts },
        );
      }))

-- a pot that only one seat contends for
pub by_one : (code : Code) (showdown : Showdown) (pot : PlainPot) (share : ℕ → ℕ) (first : ℕ) → (game_of code).split ≡ false → 2 ≤ length pot.eligible → is_contender showdown pot first ≡ true
    → ((seat : ℕ) → is_contender showdown pot seat ≡ true → seat ≡ first)
    → ((seat : ℕ) → 1 ≤ seat → seat ≤ showdown.seats → share seat ≡ divided showdown.seats (λ seat. seat == first) pot.chips seat)
    → AreSharesOf code showdown pot share
by_one code showdown pot share first whole several contends alone parts =
    inr (record {
      several = several;
      someone = (first, contends);
      contested = inl (
        λ low. false_true (sym whole ∙ low.2.0),
        record { wins = λ seat. seat == first; told = one_contends (is_contender showdown pot) (ranking_of code showdown).beats first contends alone (never_itself _ _ _); parts = parts },
      );
    })
