-- The most points that can be had with at most one rank of each suit are those of the best choice.
use Rattle.std.proofs.Common.{◌≡◌, ℕ, zero, suc, ◌+◌, ◌-◌, ◌*◌, ◌^◌, ◌<◌, ◌≤◌, ◌&&◌, Bool, true, false, List, [], ◌∷◌, ◌++◌, length, filter, Option, Some, None, ◌⊎◌, inl, inr, refl, sym, ◌∙◌, ap, arith}
use Rattle.std.proofs.lemmas.Bool.{cases_lt}
use Rattle.std.proofs.lemmas.Option.{same_Some}
use Rattle.card_set.specs.declared.card.Card.{Card}
use Rattle.card_set.specs.declared.card.Suit.TheVariants as suits
use Rattle.card_set.specs.declared.set.CardSet.{CardSet}
use Rattle.card_set.specs.CardSet.{AreSameCards, is_one_of, IsListing}
use Rattle.card_set.specs.Ranks.{high_ace, times}
use Rattle.card_set.proofs.Listing.{is_one_of-filter, kept_different, length-same}
use Rattle.hand_order.specs.Choices.{choices, IsAmong}
use Rattle.hand_order.proofs.Greatest.{IsAmong-left, IsAmong-right, Says, says_greatest}
use Rattle.hand_order.proofs.Held.{every_chosen, length_chosen, IsAmong-cases}
use Rattle.hand_order.proofs.RankMasks.{IsMaskOf}
use Rattle.hand_order.proofs.SameChoices.{every_one_of, filter_among, one_of_every}
use Rattle.hand_order.proofs.SetCounts.{four_suits}
use Rattle.hand_order.proofs.SuitedHands.{of_suit}
use Rattle.badugi_rank.specs.Badugi.{candidates, choice_points, points}
use Rattle.badugi_rank.specs.BadugiLaw.{choice_value, some_points}
use Rattle.badugi_rank.specs.Rainbow.{IsMost, points_of_ranks}
use Rattle.badugi_rank.proofs.BadugiAlike.{choice_alike}
use Rattle.badugi_rank.proofs.RainbowCards.{apart_different, none_made, suit_made, suit_one}
use Rattle.badugi_rank.proofs.RainbowRanks.{ShowsCards, points_shown, ranks_shown, once_high}
use Rattle.badugi_rank.proofs.SuitRanks.{can_take, can_taken}
use Rattle.badugi_rank.proofs.TakenRanks.{ranks_number}
use Rattle.card_set.proofs.Tests.{passes_or_not}

-- a choice of one to four cards
record IsChosen (cards choice : List Card) : Type 0 where
  pub size : ℕ
  pub among : IsAmong choice (choices size cards)
  pub some : 1 ≤ size
  pub few : size ≤ 4

chosen_candidate : (cards choice : List Card) → IsAmong choice (candidates cards) → IsChosen cards choice
unfolding candidates
chosen_candidate cards choice among =
    elim (IsAmong-cases choice (choices 4 cards) (choices 3 cards ++ (choices 2 cards ++ choices 1 cards)) among) [
      | inl four ↦ record { size = 4; among = four; some = omega arith; few = omega arith }
      | inr fewer ↦ elim (IsAmong-cases choice (choices 3 cards) (choices 2 cards ++ choices 1 cards) fewer) [
        | inl three ↦ record { size = 3; among = three; some = omega arith; few = omega arith }
        | inr least ↦ elim (IsAmong-cases choice (choices 2 cards) (choices 1 cards) least) [
          | inl two ↦ record { size = 2; among = two; some = omega arith; few = omega arith }
          | inr one ↦ record { size = 1; among = one; some = omega arith; few = omega arith }
        ]
      ]
    ]

candidate_chosen : (cards choice : List Card) (size : ℕ) → IsAmong choice (choices size cards) → 1 ≤ size → size ≤ 4 → IsAmong choice (candidates cards)
unfolding candidates
candidate_chosen cards choice zero among some few = absurd (omega arith)
candidate_chosen cards choice (suc zero) among some few =
    IsAmong-right choice (choices 4 cards) (choices 3 cards ++ (choices 2 cards ++ choices 1 cards)) (IsAmong-right choice (choices 3 cards) (choices 2 cards ++ choices 1 cards) (IsAmong-right choice (choices 2 cards) (choices 1 cards) among))
candidate_chosen cards choice (suc (suc zero)) among some few =
    IsAmong-right choice (choices 4 cards) (choices 3 cards ++ (choices 2 cards ++ choices 1 cards)) (IsAmong-right choice (choices 3 cards) (choices 2 cards ++ choices 1 cards) (IsAmong-left choice (choices 2 cards) (choices 1 cards) among))
candidate_chosen cards choice (suc (suc (suc zero))) among some few =
    IsAmong-right choice (choices 4 cards) (choices 3 cards ++ (choices 2 cards ++ choices 1 cards)) (IsAmong-left choice (choices 3 cards) (choices 2 cards ++ choices 1 cards) among)
candidate_chosen cards choice (suc (suc (suc (suc zero)))) among some few =
    IsAmong-left choice (choices 4 cards) (choices 3 cards ++ (choices 2 cards ++ choices 1 cards)) among
candidate_chosen cards choice (suc (suc (suc (suc (suc size))))) among some few = absurd (omega arith)

-- the masks of the four suits
pub record AreMasksOf (set : CardSet) (c d h s : ℕ) : Type 0 where
  pub clubs : IsMaskOf set c suits.C
  pub diamonds : IsMaskOf set d suits.D
  pub hearts : IsMaskOf set h suits.H
  pub spades : IsMaskOf set s suits.S

-- no choice has more points, and each has more than the choice of no card
chosen_most : (set : CardSet) (listing : List Card) (c d h s most : ℕ) → IsListing set listing → AreMasksOf set c d h s → IsMost c (d ∷ h ∷ s ∷ []) 0 most → (choice : List Card) (value : ℕ) → IsAmong choice (candidates listing) → choice_points choice ≡ Some value → (value ≤ most) × (16 ^ 6 - 4 * 16 ^ 5 < value)
chosen_most set listing c d h s most lists masks is choice value among pointed =
    let chosen = chosen_candidate listing choice among in
    let long = length_chosen chosen.size listing choice chosen.among in
    let few : length choice ≤ 4 = omega (arith, long, chosen.few) in
    let apart = (choice_value choice value pointed).0 in
    let inside = every_chosen (λ card. is_one_of card listing ≡ true) chosen.size listing choice chosen.among (every_one_of listing) in
    let can = can_take c d h s
    (λ k. times high_ace (filter (of_suit 0) choice) (k + 2)) (λ k. times high_ace (filter (of_suit 1) choice) (k + 2)) (λ k. times high_ace (filter (of_suit 2) choice) (k + 2)) (λ k. times high_ace (filter (of_suit 3) choice) (k + 2))
    (omega (arith, masks.clubs.within)) (omega (arith, masks.diamonds.within)) (omega (arith, masks.hearts.within)) (omega (arith, masks.spades.within))
    (suit_one set listing suits.C c choice lists masks.clubs apart inside) (suit_one set listing suits.D d choice lists masks.diamonds apart inside)
    (suit_one set listing suits.H h choice lists masks.hearts apart inside) (suit_one set listing suits.S s choice lists masks.spades apart inside)
    (λ k. omega (arith, four_suits choice (k + 2), once_high choice apart k)) in
    let shows : ShowsCards can.0 choice = λ k. omega (arith, can.2.each k, four_suits choice (k + 2)) in
    let same = same_Some value (points_of_ranks can.0) (sym pointed ∙ points_shown can.0 choice apart few shows) in
    let ranks = ranks_shown can.0 choice apart few shows in
    (omega (arith, same, is.none_more can.0 can.1), omega (arith, same, ranks.1, long, chosen.some, ranks_number can.0))

-- a choice has these points, and if it has no card they are few
record HasPoints (listing : List Card) (most : ℕ) : Type 0 where
  pub choice : List Card
  pub among : IsAmong choice (choices (length choice) listing)
  pub few : length choice ≤ 4
  pub pointed : choice_points choice ≡ Some most
  pub empty : length choice ≡ 0 → most ≤ 16 ^ 6 - 4 * 16 ^ 5

-- the cards of a list among others
kept_same : (cards listing : List Card) → ((card : Card) → is_one_of card cards ≡ true → is_one_of card listing ≡ true) → AreSameCards cards (filter (λ other. is_one_of other cards) listing)
kept_same cards listing inside card = by_test (passes_or_not (is_one_of card cards)) ∙ sym (is_one_of-filter (λ other. is_one_of other cards) card listing)
  where
    and_false : (b : Bool) → (b && false) ≡ false
    and_false true = refl
    and_false false = refl

    by_test : (is_one_of card cards ≡ true) ⊎ (is_one_of card cards ≡ false) → is_one_of card cards ≡ (is_one_of card listing && is_one_of card cards)
    by_test (inl is) = sym (ap (λ (b : Bool). b && is_one_of card cards) (inside card is))
    by_test (inr absent) = absent ∙ sym (and_false (is_one_of card listing)) ∙ sym (ap (λ (b : Bool). is_one_of card listing && b) absent)

chosen_reached : (set : CardSet) (listing : List Card) (c d h s most : ℕ) → IsListing set listing → AreMasksOf set c d h s → IsMost c (d ∷ h ∷ s ∷ []) 0 most → HasPoints listing most
chosen_reached set listing c d h s most lists masks is =
    let taken = can_taken c d h s is.ranks (omega (arith, masks.clubs.within)) (omega (arith, masks.diamonds.within)) (omega (arith, masks.hearts.within)) (omega (arith, masks.spades.within)) is.can in
    let spade = suit_made set listing suits.S s 3 (λ k. 0) taken.spades lists masks.spades refl (none_made listing) taken.one_spade (λ k. omega (arith, taken.once k)) in
    let heart = suit_made set listing suits.H h 2 (λ k. taken.spades k + 0) taken.hearts lists masks.hearts refl spade taken.one_heart (λ k. omega (arith, taken.once k)) in
    let diamond = suit_made set listing suits.D d 1 (λ k. taken.hearts k + (taken.spades k + 0)) taken.diamonds lists masks.diamonds refl heart taken.one_diamond (λ k. omega (arith, taken.once k)) in
    let made = suit_made set listing suits.C c 0 (λ k. taken.diamonds k + (taken.hearts k + (taken.spades k + 0))) taken.clubs lists masks.clubs refl diamond taken.one_club (λ k. omega (arith, taken.once k)) in
    let few : length made.cards ≤ 4 = omega (arith, made.few) in
    let shows : ShowsCards is.ranks made.cards = λ k. omega (arith, taken.bits.each k, made.counts k) in
    let ranks = ranks_shown is.ranks made.cards made.apart few shows in
    let p = λ (other : Card). is_one_of other made.cards in
    let same = kept_same made.cards listing (λ card one. one_of_every (λ other. is_one_of other listing ≡ true) card made.cards made.inside one) in
    let different = apart_different made.cards made.apart in
    let kept = kept_different p listing lists.different in
    let long = length-same made.cards (filter p listing) different kept same in
    record {
      choice = filter p listing;
      among = filter_among p listing;
      few = omega (arith, long, few);
      pointed = choice_alike (length made.cards) (filter p listing) made.cards (sym long, kept) (refl, different) (λ card. sym (same card))
          ∙ points_shown is.ranks made.cards made.apart few shows ∙ ap (λ (n : ℕ). Some n) is.reached;
      empty = λ none. omega (arith, is.reached, ranks.1, long, none);
    }

-- the most points that can be had are those of the hand
pub best_points : (set : CardSet) (listing : List Card) (c d h s most : ℕ) → IsListing set listing → length listing ≡ 4 → AreMasksOf set c d h s → IsMost c (d ∷ h ∷ s ∷ []) 0 most → Some most ≡ points listing
best_points set listing c d h s most lists long masks is = by_says (points listing) refl (says_greatest choice_points (candidates listing))
  where
    by_says : (found : Option ℕ) → points listing ≡ found → Says choice_points (candidates listing) found → Some most ≡ found
    by_says None none says = let some = some_points listing None (long, lists.different) none in absurd (cc)
    by_says (Some value) found says =
        let up = chosen_most set listing c d h s most lists masks is says.choice value says.among says.pointed in
        let best = chosen_reached set listing c d h s most lists masks is in
        elim (cases_lt 0 (length best.choice)) [
          | inl some ↦
              let down = says.most best.choice most (candidate_chosen listing best.choice (length best.choice) best.among some best.few) best.pointed in
              ap (λ (n : ℕ). Some n) (omega arith)
          | inr none ↦ absurd (omega (arith, up.0, up.1, best.empty (omega arith)))
        ]
