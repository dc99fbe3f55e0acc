-- The only seat that contends for a pot wins it, and a seat that does not contend gets nothing of
-- it.
use Rattle.std.specs.Prelude.{◌≡◌, ◌≤◌, ◌==◌, ℕ, ◌+◌, ◌-◌, ◌/◌, ◌%◌, Bool, true, false, List, IsTrue, nat_lt, if◌then◌else◌}
use Rattle.std.proofs.Common.{inl, inr, sym, subst, ap, ◌∙◌}
use Rattle.std.proofs.lemmas.Bool.{cases_Bool, eqb-true, eq-eqb}
use Rattle.card_set.proofs.Tests.{false_true}
use Rattle.card_set.specs.declared.card.Card.{Card}
use Rattle.hand_order.specs.Best.{Beats}
use Rattle.variant_table.specs.Division.{AreParts, TellsWinners, count_to}

-- no holding beats itself
pub never_itself : (is_hand : List Card → Type 0) (is_weaker : List Card → List Card → Type 0) (options : List (List Card)) → ¬ (Beats is_hand is_weaker options options)
never_itself is_hand is_weaker options beats = elim beats.over [
  | inl none ↦ none beats.best beats.is_best.among beats.is_best.hand
  | inr other ↦ other.1.unbeaten beats.best beats.is_best.among beats.is_best.hand other.2
]

-- the only seat that contends is the winner
pub one_contends : (contends : ℕ → Bool) (beats : ℕ → ℕ → Type 0) (first : ℕ) → contends first ≡ true → ((seat : ℕ) → contends seat ≡ true → seat ≡ first) → ¬ (beats first first) → TellsWinners contends beats (λ seat. seat == first)
one_contends contends beats first is alone never seat = (
  (λ wins.
      let here : seat ≡ first = eqb-true seat first wins in
      let P : ℕ → Type 0 = λ s. IsTrue (contends s) × ((other : ℕ) → IsTrue (contends other) → ¬ (beats other s)) in
      subst P (sym here) (is, (λ other contending beaten. let Q : ℕ → Type 0 = λ o. beats o first in never (subst Q (alone other contending) beaten)))),
  (λ both. eq-eqb seat first (alone seat both.0)),
)

-- a seat that does not contend has no part
pub no_part : (seats : ℕ) (contends : ℕ → Bool) (beats : ℕ → ℕ → Type 0) (chips : ℕ) (share : ℕ → ℕ) (seat : ℕ) → AreParts seats contends beats chips share → 1 ≤ seat → seat ≤ seats → contends seat ≡ false → share seat ≡ 0
no_part seats contends beats chips share seat parts least most not = parts.parts seat least most ∙ elim (cases_Bool (parts.wins seat)) [
  | inl wins ↦ false_true (sym not ∙ ((parts.told seat).0 wins).0)
  | inr loses ↦ ap (λ b. if b then chips / count_to parts.wins seats + (if nat_lt (count_to parts.wins (seat - 1)) (chips % count_to parts.wins seats) then 1 else 0) else 0) loses
]
