-- Under a lawful order the greatest points of choices are those of a best choice, and one holding
-- beats another if and only if its points are greater.
use Rattle.std.proofs.Common.{◌≡◌, ◌⊎◌, ℕ, ◌<◌, ◌≤◌, List, Option, Some, None, IsSome, IfSome, IfNone, ◌↔◌, refl, sym, ap, subst, arith, inl, inr}
use Rattle.std.specs.Option.{option_map, is_some}
use Rattle.std.proofs.lemmas.Bool.{cases_lt}
use Rattle.std.proofs.lemmas.Option.{same_Some}
use Rattle.card_set.specs.declared.card.Card.{Card}
use Rattle.hand_order.specs.declared.order.Score.{Score}
use Rattle.hand_order.specs.Choices.{IsAmong}
use Rattle.hand_order.specs.Order.{IsLawful, IsEven}
use Rattle.hand_order.specs.Best.{HasNoHand, IsBest, IsPointsOfBest, Beats, IsPointsOfHolding, IsLess}
use Rattle.hand_order.specs.Points.{greatest}
use Rattle.hand_order.proofs.Greatest.{IsGreatest, Says, says_greatest}

-- points that are there
pub record IsPointed (points : List Card → Option ℕ) (cards : List Card) : Type 0 where
  pub value : ℕ
  pub is : points cards ≡ Some value

pointed_by : (points : List Card → Option ℕ) (cards : List Card) (o : Option ℕ) → points cards ≡ o → IsSome o → IsPointed points cards
pointed_by points cards None is some = absurd (cc)
pointed_by points cards (Some value) is some = record { value = value; is = is }

-- exactly the hands have points
abbrev pub Scores : (List Card → Type 0) → (List Card → Type 0) → (List Card → Option ℕ) → Type 0
Scores looks_at is_hand points = (cards : List Card) → looks_at cards → IsSome (points cards) ↔ is_hand cards

-- points are fewer if and only if the hand is weaker
abbrev pub Orders : (List Card → Type 0) → (List Card → List Card → Type 0) → (List Card → Option ℕ) → Type 0
Orders looks_at is_weaker points = (a b : List Card) (low high : ℕ) → looks_at a → looks_at b → points a ≡ Some low → points b ≡ Some high → (low < high) ↔ is_weaker a b

-- hands with the same points are even, and even hands have the same points
even_by_order : (looks_at : List Card → Type 0) (is_weaker : List Card → List Card → Type 0) (points : List Card → Option ℕ) → Orders looks_at is_weaker points → (a b : List Card) (one other : ℕ) → looks_at a → looks_at b → points a ≡ Some one → points b ≡ Some other → (one ≡ other) ↔ IsEven is_weaker a b
even_by_order looks_at is_weaker points ordered a b one other looks_a looks_b is_one is_other =
    let first = ordered a b one other looks_a looks_b is_one is_other in
    let second = ordered b a other one looks_b looks_a is_other is_one in (
      λ same. (λ weaker. let less = first.1 weaker in absurd (omega arith), λ weaker. let less = second.1 weaker in absurd (omega arith)),
      λ even. elim (cases_lt one other) [
        | inl less ↦ absurd (even.0 (first.0 less))
        | inr rest ↦ elim (cases_lt other one) [ inl more ↦ absurd (even.1 (second.0 more)) | inr least ↦ omega arith ]
      ],
    )

compared_by_order : (looks_at : List Card → Type 0) (is_weaker : List Card → List Card → Type 0) (points : List Card → Option ℕ) → Orders looks_at is_weaker points → (a b : List Card) → looks_at a → looks_at b → IsPointed points a → IsPointed points b → is_weaker a b ⊎ (is_weaker b a ⊎ IsEven is_weaker a b)
compared_by_order looks_at is_weaker points ordered a b looks_a looks_b pointed_a pointed_b =
    elim (cases_lt pointed_a.value pointed_b.value) [
      | inl less ↦ inl ((ordered a b pointed_a.value pointed_b.value looks_a looks_b pointed_a.is pointed_b.is).0 less)
      | inr rest ↦ elim (cases_lt pointed_b.value pointed_a.value) [
        | inl more ↦ inr (inl ((ordered b a pointed_b.value pointed_a.value looks_b looks_a pointed_b.is pointed_a.is).0 more))
        | inr least ↦ inr (inr ((even_by_order looks_at is_weaker points ordered a b pointed_a.value pointed_b.value looks_a looks_b pointed_a.is pointed_b.is).0 (omega arith)))
      ]
    ]

-- an order in which exactly its hands have points, and the weaker one fewer, is lawful
pub lawful_by_order : (looks_at : List Card → Type 0) (is_hand : List Card → Type 0) (is_weaker : List Card → List Card → Type 0) (points : List Card → Option ℕ) → Scores looks_at is_hand points → Orders looks_at is_weaker points → IsLawful looks_at is_hand is_weaker points
lawful_by_order looks_at is_hand is_weaker points scored ordered = record {
  scored = scored;
  ordered = ordered;
  even = even_by_order looks_at is_weaker points ordered;
  compared = λ a b looks_a looks_b hand_a hand_b.
      compared_by_order looks_at is_weaker points ordered a b looks_a looks_b
      (pointed_by points a (points a) refl ((scored a looks_a).1 hand_a)) (pointed_by points b (points b) refl ((scored b looks_b).1 hand_b));
}

-- a hand of the order has points
pointed : (looks_at : List Card → Type 0) (is_hand : List Card → Type 0) (is_weaker : List Card → List Card → Type 0) (points : List Card → Option ℕ) → IsLawful looks_at is_hand is_weaker points → (cards : List Card) → looks_at cards → is_hand cards → IsPointed points cards
pointed looks_at is_hand is_weaker points lawful cards are hand = pointed_by points cards (points cards) refl ((lawful.scored cards are).1 hand)

-- if no choice has points, none is a hand
no_hand : (looks_at : List Card → Type 0) (is_hand : List Card → Type 0) (is_weaker : List Card → List Card → Type 0) (points : List Card → Option ℕ) (options : List (List Card)) → IsLawful looks_at is_hand is_weaker points → ((choice : List Card) → IsAmong choice options → looks_at choice) → ((choice : List Card) → IsAmong choice options → points choice ≡ None) → HasNoHand is_hand options
no_hand looks_at is_hand is_weaker points options lawful are none = λ choice among hand.
    let p = pointed looks_at is_hand is_weaker points lawful choice (are choice among) hand in
    let n = none choice among in
    absurd (cc (p.is, n))

-- a choice with the greatest points is a best choice
points_of_best : (looks_at : List Card → Type 0) (is_hand : List Card → Type 0) (is_weaker : List Card → List Card → Type 0) (points : List Card → Option ℕ) (options : List (List Card)) (value : ℕ) → IsLawful looks_at is_hand is_weaker points → ((choice : List Card) → IsAmong choice options → looks_at choice) → IsGreatest points options value → IsPointsOfBest is_hand is_weaker points options value
points_of_best looks_at is_hand is_weaker points options value lawful are most = record {
  best = most.choice;
  is_best = record {
    among = most.among;
    hand = (lawful.scored most.choice (are most.choice most.among)).0 (ap is_some most.pointed);
    unbeaten = λ other among hand weaker.
        let p = pointed looks_at is_hand is_weaker points lawful other (are other among) hand in
        let above = (lawful.ordered most.choice other value p.value (are most.choice most.among) (are other among) most.pointed p.is).1 weaker in
        let below = most.most other p.value among p.is in
        absurd (omega arith);
  };
  pointed = most.pointed;
}

-- a result that is the greatest points of choices
pub none_by_greatest : (looks_at : List Card → Type 0) (is_hand : List Card → Type 0) (is_weaker : List Card → List Card → Type 0) (points : List Card → Option ℕ) (options : List (List Card)) (result : Option Score) → IsLawful looks_at is_hand is_weaker points → ((choice : List Card) → IsAmong choice options → looks_at choice) → option_map (λ (s : Score). s.points) result ≡ greatest points options → IfNone result (HasNoHand is_hand options)
none_by_greatest looks_at is_hand is_weaker points options None lawful are is = no_hand looks_at is_hand is_weaker points options lawful are (subst (Says points options) (sym is) (says_greatest points options))
none_by_greatest looks_at is_hand is_weaker points options (Some score) lawful are is = tt

pub best_by_greatest : (looks_at : List Card → Type 0) (is_hand : List Card → Type 0) (is_weaker : List Card → List Card → Type 0) (points : List Card → Option ℕ) (options : List (List Card)) (result : Option Score) → IsLawful looks_at is_hand is_weaker points → ((choice : List Card) → IsAmong choice options → looks_at choice) → option_map (λ (s : Score). s.points) result ≡ greatest points options → IfSome result (λ score. IsPointsOfBest is_hand is_weaker points options score.points)
best_by_greatest looks_at is_hand is_weaker points options None lawful are is = tt
best_by_greatest looks_at is_hand is_weaker points options (Some score) lawful are is = points_of_best looks_at is_hand is_weaker points options score.points lawful are (subst (Says points options) (sym is) (says_greatest points options))

-- a best choice has at least the points of each other choice
best_most : (looks_at : List Card → Type 0) (is_hand : List Card → Type 0) (is_weaker : List Card → List Card → Type 0) (points : List Card → Option ℕ) (options : List (List Card)) (best other : List Card) (most value : ℕ) → IsLawful looks_at is_hand is_weaker points → ((choice : List Card) → IsAmong choice options → looks_at choice) → IsBest is_hand is_weaker options best → IsAmong other options → is_hand other → points best ≡ Some most → points other ≡ Some value → value ≤ most
best_most looks_at is_hand is_weaker points options best other most value lawful are is among hand best_is other_is =
    elim (cases_lt most value) [
      | inl above ↦ absurd (is.unbeaten other among hand ((lawful.ordered best other most value (are best is.among) (are other among) best_is other_is).0 above))
      | inr within ↦ within
    ]

-- one holding beats another if and only if its points are greater
pub beats_exactly : (looks_at : List Card → Type 0) (is_hand : List Card → Type 0) (is_weaker : List Card → List Card → Type 0) (points : List Card → Option ℕ) (options others : List (List Card)) (ours theirs : Option ℕ) → IsLawful looks_at is_hand is_weaker points → ((choice : List Card) → IsAmong choice options → looks_at choice) → ((choice : List Card) → IsAmong choice others → looks_at choice) → IsPointsOfHolding is_hand is_weaker points options ours → IsPointsOfHolding is_hand is_weaker points others theirs → IsLess theirs ours ↔ Beats is_hand is_weaker options others
beats_exactly looks_at is_hand is_weaker points options others None None lawful are are_others none no_others = (λ less. absurd less, λ beats. none beats.best beats.is_best.among beats.is_best.hand)
beats_exactly looks_at is_hand is_weaker points options others None (Some value) lawful are are_others none other = (λ less. absurd less, λ beats. none beats.best beats.is_best.among beats.is_best.hand)
beats_exactly looks_at is_hand is_weaker points options others (Some value) None lawful are are_others ours no_others = (λ less. record { best = ours.best; is_best = ours.is_best; over = inl no_others }, λ beats. tt)
beats_exactly looks_at is_hand is_weaker points options others (Some most) (Some value) lawful are are_others ours theirs = (
  λ less. record { best = ours.best; is_best = ours.is_best; over = inr (theirs.best, theirs.is_best, (lawful.ordered theirs.best ours.best value most (are_others theirs.best theirs.is_best.among) (are ours.best ours.is_best.among) theirs.pointed ours.pointed).0 less) },
  λ beats. elim beats.over [
    | inl none ↦ absurd (none theirs.best theirs.is_best.among theirs.is_best.hand)
    | inr other ↦
        let high = pointed looks_at is_hand is_weaker points lawful beats.best (are beats.best beats.is_best.among) beats.is_best.hand in
        let low = pointed looks_at is_hand is_weaker points lawful other.0 (are_others other.0 other.1.among) other.1.hand in
        let above = best_most looks_at is_hand is_weaker points options ours.best beats.best most high.value lawful are ours.is_best beats.is_best.among beats.is_best.hand ours.pointed high.is in
        let below = best_most looks_at is_hand is_weaker points others other.0 theirs.best low.value value lawful are_others other.1 theirs.is_best.among theirs.is_best.hand low.is theirs.pointed in
        let between = (lawful.ordered other.0 beats.best low.value high.value (are_others other.0 other.1.among) (are beats.best beats.is_best.among) low.is high.is).1 other.2 in
        omega arith
  ],
)

-- an order in which each hand has a number is lawful if the numbers compare as the hands do
pub lawful_by_numbers : (looks_at : List Card → Type 0) (is_weaker : List Card → List Card → Type 0) (number : List Card → ℕ) → ((a b : List Card) → looks_at a → looks_at b → (number a < number b) ↔ is_weaker a b) → IsLawful looks_at (λ cards. Unit {0}) is_weaker (λ cards. Some (number cards))
lawful_by_numbers looks_at is_weaker number law =
    lawful_by_order looks_at (λ cards. Unit {0}) is_weaker (λ cards. Some (number cards)) (λ cards are. (λ some. tt, λ hand. refl)) (λ a b low high are_a are_b is_low is_high.
    let low_is = same_Some (number a) low is_low in
    let high_is = same_Some (number b) high is_high in
    subst (λ (n : ℕ). (n < high) ↔ is_weaker a b) low_is (subst (λ (n : ℕ). (number a < n) ↔ is_weaker a b) high_is (law a b are_a are_b)))

-- the greatest points of choices are those of the holding
pub greatest_of_holding : (looks_at : List Card → Type 0) (is_hand : List Card → Type 0) (is_weaker : List Card → List Card → Type 0) (points : List Card → Option ℕ) (options : List (List Card)) (most : Option ℕ) → IsLawful looks_at is_hand is_weaker points → ((choice : List Card) → IsAmong choice options → looks_at choice) → most ≡ greatest points options → IsPointsOfHolding is_hand is_weaker points options most
greatest_of_holding looks_at is_hand is_weaker points options None lawful are is = no_hand looks_at is_hand is_weaker points options lawful are (subst (Says points options) (sym is) (says_greatest points options))
greatest_of_holding looks_at is_hand is_weaker points options (Some value) lawful are is = points_of_best looks_at is_hand is_weaker points options value lawful are (subst (Says points options) (sym is) (says_greatest points options))
