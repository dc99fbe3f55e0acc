use Rattle.std.proofs.Common.{ℕ, List, ◌+◌, ◌++◌, ◌∷◌, [], get_or, length, arith, sym, ap, ◌∙◌, append_assoc, length-append}
use Rattle.card_set.specs.Row.{cards_of}
use Rattle.hand_order.specs.Height.{height_with}
use Rattle.hand_order.specs.Heights.{heights_of}
use Rattle.hand_order.proofs.RankDigits.{occurring_first, first_yes, first_no, first_le, first_all}
use Rattle.hand_order.proofs.ranks.push_occurring.Goals as goal
use Rattle.hand_order.proofs.ranks.push_occurring.Goals.{then-times_of-occurrences, else-times_of-occurrences}

pub push-requires : goal.push-requires
push-requires c =
    let height = height_with c.args.ace in
    let cards = cards_of c.args.cards.now in
    let i = c.loop-height.height-index in
    let n = c.args.occurrences in
    let more = ap (length {A = ℕ}) (first_yes height cards n i (get_or c.all_heights-heights.result i 0) c.loop-height-test.true (ap (λ hs. get_or hs i 0) c.all_heights-heights.ensures) (sym c.times_of.ensures ∙ c.if-times_of-occurrences.true)) in
    let so_far = ap (length {A = ℕ}) c.loop-height.invariant in
    omega (arith, more, so_far, first_le height cards n (i + 1), length-append (occurring_first height cards n i) (get_or c.all_heights-heights.result i 0 ∷ []), length-append (heights_of c.args.row.now) (occurring_first height cards n i))

pub loop-height-preserved : goal.loop-height-preserved
loop-height-preserved c =
    let height = height_with c.args.ace in
    let cards = cards_of c.args.cards.now in
    let i = c.loop-height.height-index in
    let n = c.args.occurrences in
    let h = get_or c.all_heights-heights.result i 0 in
    let is = ap (λ hs. get_or hs i 0) c.all_heights-heights.ensures in
    let start = heights_of c.args.row.now in
    elim c.if-times_of-occurrences.branch [
      | then-times_of-occurrences w ↦
          ap heights_of w.row-is ∙ w.push.ensures
          ∙ ap (λ (l : List ℕ). l ++ h ∷ []) c.loop-height.invariant
          ∙ append_assoc start (occurring_first height cards n i) (h ∷ [])
          ∙ ap (λ (l : List ℕ). start ++ l) (sym (first_yes height cards n i h c.loop-height-test.true is (sym c.times_of.ensures ∙ w.if-times_of-occurrences.true)))
      | else-times_of-occurrences w ↦
          ap heights_of w.row-is ∙ c.loop-height.invariant
          ∙ ap (λ (l : List ℕ). start ++ l) (sym (first_no height cards n i h c.loop-height-test.true is (λ same. w.if-times_of-occurrences.false (c.times_of.ensures ∙ same))))
    ]

pub returns : goal.returns
returns c =
    c.loop-height.invariant
    ∙ ap (λ (l : List ℕ). heights_of c.args.row.now ++ l) (first_all (height_with c.args.ace) (cards_of c.args.cards.now) c.args.occurrences c.loop-height.height-index (omega arith))
