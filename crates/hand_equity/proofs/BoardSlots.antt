-- The board, street by street.
use Rattle.std.proofs.Common.{◌≡◌, ◌+◌, ◌≤◌, ℕ, zero, suc, List, ◌++◌, length, None, inl, inr, sym, ◌∙◌, ap, subst, arith, length-append}
use Rattle.std.proofs.lemmas.Bool.{cases_lt}
use Rattle.card_set.specs.declared.card.Slot.{Slot}
use Rattle.play_event.specs.CanonScript.{dealt_slots}
use Rattle.card_set.proofs.NumbersOfRange.{flat_more}
use Rattle.play_event.specs.Trace.{TracedPlace}
use Rattle.hand_equity.specs.Street.{board_slots}

-- one more street
pub slots_more : (placed : List TracedPlace) (n : ℕ) → board_slots placed (n + 1) ≡ board_slots placed n ++ dealt_slots placed None (n + 1)
slots_more placed n =
    let next : n + 1 ≡ suc n = omega arith in
    let back : 1 + n ≡ n + 1 = omega arith in
    ap (board_slots placed) next
    ∙ flat_more (dealt_slots placed None) 1 n
    ∙ ap (λ (k : ℕ). board_slots placed n ++ dealt_slots placed None k) back

-- fewer streets have at most as many cards
pub fewer : (placed : List TracedPlace) (n m : ℕ) → n ≤ m → length (board_slots placed n) ≤ length (board_slots placed m)
fewer placed n zero most =
    let same : n ≡ 0 = omega (arith, most) in
    subst (λ (k : ℕ). length (board_slots placed k) ≤ length (board_slots placed 0)) (sym same) (omega arith)
fewer placed n (suc m) most =
    elim (cases_lt m n) [
      | inl last ↦
          let same : n ≡ suc m = omega (arith, most, last) in
          subst (λ (k : ℕ). length (board_slots placed k) ≤ length (board_slots placed (suc m))) (sym same) (omega arith)
      | inr before ↦
          let e = ap (length {A = Slot}) (flat_more (dealt_slots placed None) 1 m) in
          omega (arith, fewer placed n m before, e, length-append (board_slots placed m) (dealt_slots placed None (1 + m)))
    ]
