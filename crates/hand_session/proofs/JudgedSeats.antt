-- Shown seats with whole hands compare by the points of their best choices.
use Rattle.std.proofs.Common.{◌≡◌, ℕ, true, List, Option, refl}
use Rattle.std.proofs.lemmas.Bool.{and_parts}
use Rattle.card_set.specs.declared.card.Card.{Card}
use Rattle.chip_ledger.specs.Pots.{PlainPot, may_win}
use Rattle.hand_order.specs.Best.{Beats, IsPointsOfHolding}
use Rattle.hand_order.specs.Choices.{AreHeld, IsAmong}
use Rattle.hand_order.specs.Points.{greatest}
use Rattle.hand_order.proofs.Held.{held_allowed}
use Rattle.hand_order.proofs.Lawful.{beats_exactly, greatest_of_holding}
use Rattle.play_event.specs.declared.code.Code.{Code}
use Rattle.play_event.specs.Games.{game_of}
use Rattle.variant_table.specs.Orders.{Order, award_of, second_of}
use Rattle.variant_table.specs.Shares.{Showdown, choices_for, is_contender, ranking_of}
use Rattle.variant_table.specs.TableLaws.{usable_award, usable_second}
use Rattle.variant_table.specs.Variants.{IsUsable}
use Rattle.hand_session.proofs.LawfulAwards.{IsLawfulOrder, award_points, lawful_award, lawful_second, second_points}
use Rattle.hand_session.proofs.ShownCards.{IsWhole}
use Rattle.hand_session.proofs.SomeWinner.{AreCompared}

-- each shown seat is whole
abbrev pub AreWhole : Code → Showdown → Type 0
AreWhole code showdown = (seat : ℕ) → showdown.shown seat ≡ true → IsWhole code showdown seat

-- each choice that a game allows a whole seat is a hand's worth of different cards
held_choice : (code : Code) (showdown : Showdown) (held seat : ℕ) → IsUsable (game_of code) held (game_of code).pick → IsWhole code showdown seat
    → (choice : List Card) → IsAmong choice (choices_for code showdown seat) → AreHeld held choice
held_choice code showdown held seat usable whole choice among =
    held_allowed held (game_of code).pick (showdown.holding seat) showdown.board choice
    (usable (showdown.holding seat) showdown.board whole.hole whole.board) whole.different among

-- so the seats that contend for a pot compare by their points
compared_by : (code : Code) (showdown : Showdown) (pot : PlainPot) (order : Order) (points : List Card → Option ℕ)
    → IsUsable (game_of code) order.held (game_of code).pick → IsLawfulOrder order points → AreWhole code showdown
    → AreCompared showdown.seats (is_contender showdown pot) (λ seat other. Beats order.is_hand order.is_weaker (choices_for code showdown seat) (choices_for code showdown other))
compared_by code showdown pot order points usable lawful whole =
    let shown : (seat : ℕ) → is_contender showdown pot seat ≡ true → IsWhole code showdown seat =
    λ seat contends. whole seat (and_parts (may_win pot seat) (showdown.shown seat) contends).1 in
    let most : ℕ → Option ℕ = λ seat. greatest points (choices_for code showdown seat) in
    let its : (seat : ℕ) → is_contender showdown pot seat ≡ true → IsPointsOfHolding order.is_hand order.is_weaker points (choices_for code showdown seat) (most seat) =
    λ seat contends. greatest_of_holding (AreHeld order.held) order.is_hand order.is_weaker points (choices_for code showdown seat) (most seat) lawful (held_choice code showdown order.held seat usable (shown seat contends)) refl in
    record {
      points = most;
      inside = λ seat contends. ((shown seat contends).least, (shown seat contends).most);
      alike = λ seat other contends against.
          beats_exactly (AreHeld order.held) order.is_hand order.is_weaker points (choices_for code showdown seat) (choices_for code showdown other) (most seat) (most other) lawful
          (held_choice code showdown order.held seat usable (shown seat contends)) (held_choice code showdown order.held other usable (shown other against)) (its seat contends) (its other against);
    }

pub compared_high : (code : Code) (showdown : Showdown) (pot : PlainPot) → AreWhole code showdown → AreCompared showdown.seats (is_contender showdown pot) (ranking_of code showdown).beats
compared_high code showdown pot whole =
    compared_by code showdown pot (award_of code) (award_points code) (usable_award code (award_of code).held (game_of code).pick refl refl) (lawful_award code) whole

pub compared_low : (code : Code) (showdown : Showdown) (pot : PlainPot) → AreWhole code showdown → AreCompared showdown.seats (is_contender showdown pot) (ranking_of code showdown).beats_low
compared_low code showdown pot whole =
    compared_by code showdown pot (second_of code) (second_points code) (usable_second code (second_of code).held (game_of code).pick refl refl) (lawful_second code) whole
