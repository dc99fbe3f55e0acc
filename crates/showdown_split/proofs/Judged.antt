-- By their points in a lawful order seats compare as the order of the game requires.
use Rattle.std.proofs.Common.{◌≡◌, ◌++◌, ℕ, Bool, true, false, IsTrue, List, Option, Some, None, ◌↔◌, inl, inr, refl, sym, ◌∙◌, ap}
use Rattle.std.specs.Option.{is_some}
use Rattle.std.proofs.lemmas.Bool.{true≢false}
use Rattle.card_set.proofs.Tests.{flip}
use Rattle.card_set.specs.declared.card.Card.{Card}
use Rattle.card_set.specs.Different.{AllDifferent}
use Rattle.card_set.specs.declared.pick.Pick.{Pick}
use Rattle.hand_order.specs.Best.{Beats, IsBest, IsLess, IsPointsOfHolding}
use Rattle.hand_order.specs.Choices.{AreHeld, CanPick, allowed}
use Rattle.hand_order.specs.Order.{IsLawful}
use Rattle.hand_order.proofs.Held.{held_allowed}
use Rattle.hand_order.proofs.Lawful.{beats_exactly}
use Rattle.variant_table.specs.Orders.{Order}
use Rattle.variant_table.specs.Shares.{HasHand}
use Rattle.variant_table.specs.Variants.{IsOrder}

-- a best choice is one in each order that has the same hands and compares them in the same way
best_like : (h k : List Card → Type 0) (w v : List Card → List Card → Type 0) → ((cards : List Card) → h cards ↔ k cards) → ((a b : List Card) → w a b ↔ v a b) → (options : List (List Card)) (best : List Card) → IsBest h w options best → IsBest k v options best
best_like h k w v same alike options best is = record {
  among = is.among;
  hand = (same best).0 is.hand;
  unbeaten = λ other among hand weaker. is.unbeaten other among ((same other).1 hand) ((alike best other).1 weaker);
}

beats_like : (h k : List Card → Type 0) (w v : List Card → List Card → Type 0) → ((cards : List Card) → h cards ↔ k cards) → ((a b : List Card) → w a b ↔ v a b) → (options others : List (List Card)) → Beats h w options others → Beats k v options others
beats_like h k w v same alike options others beats = record {
  best = beats.best;
  is_best = best_like h k w v same alike options beats.best beats.is_best;
  over = elim beats.over [
    | inl none ↦ inl (λ choice among hand. none choice among ((same choice).1 hand))
    | inr other ↦ inr (other.0, best_like h k w v same alike others other.0 other.1, (alike other.0 beats.best).0 other.2)
  ];
}

-- the cards of a seat that are judged in an order, and what points they have there
pub record IsJudged (held : ℕ) (is_hand : List Card → Type 0) (is_weaker : List Card → List Card → Type 0) (points : List Card → Option ℕ) (pick : Pick) (hole board : List Card) (most : Option ℕ) : Type 0 where
  pub usable : CanPick held pick hole board
  pub different : AllDifferent (hole ++ board)
  pub points_are : IsPointsOfHolding is_hand is_weaker points (allowed pick hole board) most

-- one seat beats another in the order if and only if it has more points
pub judged_beats : (held : ℕ) (is_hand : List Card → Type 0) (is_weaker : List Card → List Card → Type 0) (points : List Card → Option ℕ) (order : Order) (pick : Pick) (hole other board : List Card) (ours theirs : Option ℕ) → IsLawful (AreHeld held) is_hand is_weaker points → IsOrder order held is_hand is_weaker → IsJudged held is_hand is_weaker points pick hole board ours → IsJudged held is_hand is_weaker points pick other board theirs → IsLess theirs ours ↔ Beats order.is_hand order.is_weaker (allowed pick hole board) (allowed pick other board)
judged_beats held is_hand is_weaker points order pick hole other board ours theirs lawful is first second =
    let options = allowed pick hole board in
    let others = allowed pick other board in
    let same =
    beats_exactly (AreHeld held) is_hand is_weaker points options others ours theirs lawful
    (λ choice among. held_allowed held pick hole board choice first.usable first.different among)
    (λ choice among. held_allowed held pick other board choice second.usable second.different among) first.points_are second.points_are in (
      λ less. beats_like is_hand order.is_hand is_weaker order.is_weaker is.hand_is is.weaker_is options others (same.0 less),
      λ beats. same.1 (beats_like order.is_hand is_hand order.is_weaker is_weaker (λ cards. flip (is_hand cards) (order.is_hand cards) (is.hand_is cards)) (λ a b. flip (is_weaker a b) (order.is_weaker a b) (is.weaker_is a b)) options others beats),
    )

-- a seat has a hand in the order if and only if it has points
pub judged_hand : (is_hand : List Card → Type 0) (is_weaker : List Card → List Card → Type 0) (points : List Card → Option ℕ) (order : Order) (options : List (List Card)) (most : Option ℕ) → ((cards : List Card) → is_hand cards ↔ order.is_hand cards) → IsPointsOfHolding is_hand is_weaker points options most → IsTrue (is_some most) ↔ HasHand order options
judged_hand is_hand is_weaker points order options None same none = (λ some. absurd (cc (some)), λ (choice, among, hand). absurd (none choice among ((same choice).1 hand)))
judged_hand is_hand is_weaker points order options (Some value) same best = (λ some. (best.best, best.is_best.among, (same best.best).0 best.is_best.hand), λ has. refl)

-- a seat has a low hand in a game that pays by two orders, and in other games no seat does
pub judged_low : (split paid : Bool) (order : Order) (options : List (List Card)) (most : Option ℕ) → split ≡ paid → (split ≡ false → most ≡ None) → (split ≡ true → IsTrue (is_some most) ↔ HasHand order options) → IsTrue (is_some most) ↔ (IsTrue paid × HasHand order options)
judged_low true paid order options most same none some = (λ has. (sym same, (some refl).0 has), λ has. (some refl).1 has.1)
judged_low false paid order options most same none some = (λ has. absurd (true≢false (sym has ∙ ap is_some (none refl))), λ has. absurd (true≢false (sym has.0 ∙ sym same)))
