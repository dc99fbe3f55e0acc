-- If the class fixes how many ranks decide, the numbers of hands compare as the hands do.
use Rattle.std.proofs.Common.{◌≡◌, ℕ, ◌+◌, ◌-◌, ◌*◌, ◌^◌, ◌<◌, ◌≤◌, Bool, List, length, get_or, inl, inr, ◌↔◌, sym, ap, arith}
use Rattle.card_set.specs.declared.card.Card.{Card}
use Rattle.card_set.specs.declared.card.Rank.{Rank}
use Rattle.card_set.specs.Different.{AllDifferent}
use Rattle.card_set.specs.Classes.{classes_above, IsBelow, IsBelowLow}
use Rattle.card_set.specs.Ranks.{ranks_occurring, ranks_of}
use Rattle.card_set.proofs.Counted.{IsHeight, few_times, counted, length-ranks_of, ranks_of-le}
use Rattle.hand_order.specs.Digits.{class_above}
use Rattle.hand_order.proofs.Digits.{AreDigits, class_first, number_below}

-- the class of a hand is one of the table's, and fixes the number of cards minus the number of
-- ranks that decide
pub record IsRanked (class : List Card → ℕ) (list : List Card → List ℕ) (missing : List ℕ) (last total : ℕ) (cards : List Card) : Type 0 where
  pub within : class cards ≤ last
  pub long : length (list cards) + get_or missing (class cards) 0 ≡ total
  pub few : length (list cards) ≤ 5
  pub digits : AreDigits (list cards)

-- the same number of ranks decide in two hands of one class
as_many : (class : List Card → ℕ) (list : List Card → List ℕ) (missing : List ℕ) (last total : ℕ) (a b : List Card) → IsRanked class list missing last total a → IsRanked class list missing last total b → class a ≡ class b → length (list a) ≡ length (list b)
as_many class list missing last total a b is_a is_b same =
    let moved = ap (λ (k : ℕ). get_or missing k 0) same in
    omega (arith, is_a.long, is_b.long)

-- if high ranks are good
pub ranked_law : (class : List Card → ℕ) (list : List Card → List ℕ) (missing : List ℕ) (last total : ℕ) (a b : List Card) → IsRanked class list missing last total a → IsRanked class list missing last total b → (class_above (last - class a) (list a) < class_above (last - class b) (list b)) ↔ IsBelow class list a b
ranked_law class list missing last total a b is_a is_b =
    let law = class_first (last - class a) (last - class b) (list a) (list b) is_a.few is_b.few is_a.digits is_b.digits (λ equal. as_many class list missing last total a b is_a is_b (omega (arith, is_a.within, is_b.within))) in (
      λ less. elim (law.0 less) [
        | inl lower ↦ inl (omega arith)
        | inr rest ↦ let e = rest.0 in inr (omega (arith, is_a.within, is_b.within), rest.1)
      ],
      λ below. law.1 (elim below [
        | inl worse ↦ inl (omega (arith, is_a.within, is_b.within))
        | inr rest ↦ let e = rest.0 in inr (omega arith, rest.1)
      ]),
    )

-- a number with a low class is below the seventh place
pub ranked_below : (class : List Card → ℕ) (list : List Card → List ℕ) (missing : List ℕ) (last total : ℕ) (cards : List Card) → IsRanked class list missing last total cards → last ≤ 8 → class_above (class cards) (list cards) < 16 ^ 6
ranked_below class list missing last total cards is few = omega (arith, number_below (list cards) is.few is.digits, is.within)

-- if low ranks are good, and the greatest number is the weakest hand
pub ranked_low_law : (class : List Card → ℕ) (list : List Card → List ℕ) (missing : List ℕ) (last total : ℕ) (a b : List Card) → last ≤ 8 → IsRanked class list missing last total a → IsRanked class list missing last total b → (16 ^ 6 - class_above (class a) (list a) < 16 ^ 6 - class_above (class b) (list b)) ↔ IsBelowLow class list a b
ranked_low_law class list missing last total a b few is_a is_b =
    let law = class_first (class b) (class a) (list b) (list a) is_b.few is_a.few is_b.digits is_a.digits (λ equal. as_many class list missing last total b a is_b is_a equal) in
    let below_a = ranked_below class list missing last total a is_a few in
    let below_b = ranked_below class list missing last total b is_b few in (
      λ less. elim (law.0 (omega arith)) [ inl worse ↦ inl worse | inr rest ↦ inr (sym rest.0, rest.1) ],
      λ below. let greater = law.1 (elim below [ inl worse ↦ inl worse | inr rest ↦ inr (sym rest.0, rest.1) ]) in omega arith,
    )

-- what a table of classes without straights and flushes says of its hands
abbrev pub PlainSays : (ℕ → ℕ → ℕ → List Bool) → List ℕ → ℕ → ℕ → ℕ → ℕ → ℕ → ℕ → Type 0
PlainSays table missing last most four three two one = 4 * four + 3 * three + 2 * two + one ≤ most → (classes_above (table four three two) ≤ last) × (3 * four + 2 * three + two ≡ get_or missing (classes_above (table four three two)) 0)

-- hands are ranked by a table that says this for each way in which ranks occur
pub ranked_plain : (table : ℕ → ℕ → ℕ → List Bool) (missing : List ℕ) (last most : ℕ) → ((four three two one : ℕ) → PlainSays table missing last most four three two one)
    → (height : Rank → ℕ) → IsHeight height → ((cards : List Card) → AreDigits (ranks_of height cards)) → (class : List Card → ℕ) (cards : List Card) → most ≤ 5 → length cards ≤ most → AllDifferent cards → class cards ≡ classes_above (table (ranks_occurring height cards 4) (ranks_occurring height cards 3) (ranks_occurring height cards 2)) → IsRanked class (ranks_of height) missing last (length cards) cards
ranked_plain table missing last most every height is_height digits class cards most_few few different is =
    let all = counted height is_height cards (few_times height is_height cards different) in
    let says = every (ranks_occurring height cards 4) (ranks_occurring height cards 3) (ranks_occurring height cards 2) (ranks_occurring height cards 1) (omega arith) in
    let moved = ap (λ (n : ℕ). get_or missing n 0) is in
    record {
      within = omega (arith, says.0);
      long = omega (arith, says.1, length-ranks_of height cards);
      few = omega (arith, ranks_of-le height is_height cards);
      digits = digits cards;
    }
