-- Who gets what of each pot: the shown seats that may win it and that no other such seat beats, in
-- halves if a low hand is shown. A pot is given here with its net chips: those that its rake
-- leaves.
use Rattle.std.specs.Prelude.{◌≡◌, ◌≤◌, ℕ, suc, ◌&&◌, Bool, IsTrue, not, nat_le, ◌⊎◌, List, [], ◌∷◌, length, Option, Some, None, if◌then◌else◌}
use Rattle.std.specs.List.{list_any}
use Rattle.card_set.specs.declared.card.Card.{Card}
use Rattle.chip_ledger.specs.Pots.{PlainPot, may_win, whole_share}
use Rattle.chip_ledger.specs.Seat.{seats_of}
use Rattle.hand_order.specs.Best.{Beats}
use Rattle.hand_order.specs.Choices.{IsAmong, allowed}
use Rattle.play_event.specs.declared.code.Code.{Code}
use Rattle.play_event.specs.Games.{game_of}
use Rattle.variant_table.specs.Division.{AreHalves, AreParts}
use Rattle.variant_table.specs.Orders.{Order, award_of, second_of}

-- what is visible at the end of a hand: the number of seats, which of them are shown, the cards of
-- each, and the board
pub record Showdown : Type 0 where
  pub seats : ℕ
  pub shown : ℕ → Bool
  pub holding : ℕ → List Card
  pub board : List Card

-- a seat contends for a pot: it may win it, and is shown
abbrev pub is_contender : Showdown → PlainPot → ℕ → Bool
is_contender showdown pot seat = may_win pot seat && showdown.shown seat

-- the choices of cards that a game allows a player
abbrev pub choices_for : Code → Showdown → ℕ → List (List Card)
choices_for code showdown seat = allowed (game_of code).pick (showdown.holding seat) showdown.board

-- a choice of these is a hand of the order
abbrev pub HasHand : Order → List (List Card) → Type 0
HasHand order options = (choice : List Card) × IsAmong choice options × order.is_hand choice

-- how the seats of a hand compare: whether one beats another by its best choice of cards, in the
-- first order and in the second, and whether a seat has a hand in the second order, in a game that
-- pays by two orders
pub record Ranking : Type 1 where
  pub beats : ℕ → ℕ → Type 0
  pub beats_low : ℕ → ℕ → Type 0
  pub has_low : ℕ → Type 0

-- how seats compare in a game: by the best of the choices that it allows them
abbrev pub ranking_of : Code → Showdown → Ranking
ranking_of code showdown = record {
  beats =
      λ seat other.
      Beats (award_of code).is_hand (award_of code).is_weaker (choices_for code showdown seat)
      (choices_for code showdown other);
  beats_low =
      λ seat other.
      Beats (second_of code).is_hand (second_of code).is_weaker (choices_for code showdown seat)
      (choices_for code showdown other);
  has_low =
      λ seat.
      IsTrue (game_of code).split × HasHand (second_of code) (choices_for code showdown seat);
}

-- a seat that contends has a low hand
abbrev pub IsLowShown : (ℕ → Bool) → Ranking → Type 0
IsLowShown contending ranking = (seat : ℕ) × IsTrue (contending seat) × ranking.has_low seat

-- chips that several seats contend for: all are divided among the winners, or they are halved if a
-- low hand is shown
abbrev pub AreContested : ℕ → (ℕ → Bool) → Ranking → ℕ → (ℕ → ℕ) → Type 0
AreContested seats contending ranking chips share =
    (¬ (IsLowShown contending ranking) × AreParts seats contending ranking.beats chips share)
    ⊎ (IsLowShown contending ranking
    × AreHalves seats contending ranking.beats ranking.beats_low chips share)

-- all chips of a pot go to the one seat that may win it
pub record AreOfOne (seats : ℕ) (pot : PlainPot) (share : ℕ → ℕ) : Type 0 where
  pub one : length pot.eligible ≡ 1
  pub all : (seat : ℕ) → 1 ≤ seat → seat ≤ seats → share seat ≡ whole_share pot seat

-- a pot that two or more seats may win goes to the shown ones among them
pub record AreOfShown (seats : ℕ) (contending : ℕ → Bool) (ranking : Ranking) (pot : PlainPot)
    (share : ℕ → ℕ) : Type 0 where
  pub several : 2 ≤ length pot.eligible
  pub someone : (seat : ℕ) × IsTrue (contending seat)
  pub contested : AreContested seats contending ranking pot.chips share

-- the shares of a pot
abbrev pub AreShares : ℕ → (ℕ → Bool) → Ranking → PlainPot → (ℕ → ℕ) → Type 0
AreShares seats contending ranking pot share =
    AreOfOne seats pot share ⊎ AreOfShown seats contending ranking pot share

-- the shares of a pot in a game
abbrev pub AreSharesOf : Code → Showdown → PlainPot → (ℕ → ℕ) → Type 0
AreSharesOf code showdown pot share =
    AreShares showdown.seats (is_contender showdown pot) (ranking_of code showdown) pot share

-- the shares of some pots, in order: what each seat gets of each
abbrev pub AllShared : Code → Showdown → List PlainPot → List (ℕ → ℕ) → Type 0
AllShared code showdown [] [] = Unit {0}
AllShared code showdown [] (share ∷ shares) = ⊥
AllShared code showdown (pot ∷ pots) [] = ⊥
AllShared code showdown (pot ∷ pots) (share ∷ shares) =
    AreSharesOf code showdown pot share × AllShared code showdown pots shares

-- a pot that two or more seats may win, but none of them is shown
abbrev pub is_unshown : Showdown → PlainPot → Bool
is_unshown showdown pot =
    nat_le 2 (length pot.eligible)
    && not (list_any (is_contender showdown pot) (seats_of showdown.seats))

-- the number of the first such pot; the first of these pots has this number
abbrev pub first_unshown_from : ℕ → Showdown → List PlainPot → Option ℕ
first_unshown_from number showdown [] = None
first_unshown_from number showdown (pot ∷ pots) =
    if is_unshown showdown pot then Some number else first_unshown_from (suc number) showdown pots

-- the number of the first such pot, counted from 1
abbrev pub first_unshown : Showdown → List PlainPot → Option ℕ
first_unshown showdown pots = first_unshown_from 1 showdown pots
