-- The lines of hands, one hand after the other.
use Rattle.std.proofs.Common.{◌≡◌, ℕ, ◌+◌, ◌<◌, ◌≤◌, List, [], ◌∷◌, ◌++◌, length, drop, get_or, sym, ap, ◌∙◌, append_assoc, arith}
use Rattle.std.proofs.lemmas.List.{append-nil, drop_more, drop_all}
use Rattle.hand_canon.specs.declared.trace.Play.{Play}
use Rattle.printed_hands.specs.Check.{each_hand}

module _ (lines : ℕ → Play → List ℕ) where
  -- the text so far, and the lines of the hands that are left
  abbrev pub with_left : List ℕ → List Play → ℕ → List ℕ
  with_left text plays index = text ++ each_hand lines (index + 1) (drop index plays)

  pub one_more : (text : List ℕ) (plays : List Play) (index : ℕ) (play : Play) (total : List ℕ)
      → index < length plays → get_or plays index play ≡ play
      → with_left text plays index ≡ total
      → with_left (text ++ lines (index + 1) play) plays (index + 1) ≡ total
  unfolding each_hand
  one_more text plays index play total within at so_far =
      let one : with_left text plays index ≡ with_left (text ++ lines (index + 1) play) plays (index + 1) =
      rw (drop_more plays index play within, at) (sym (append_assoc text (lines (index + 1) play) (each_hand lines (index + 1 + 1) (drop (index + 1) plays)))) in
      sym one ∙ so_far

  pub all_printed : (text : List ℕ) (plays : List Play) (index : ℕ) (total : List ℕ) → length plays ≤ index
      → with_left text plays index ≡ total → text ≡ total
  unfolding each_hand
  all_printed text plays index total over so_far =
      let one : with_left text plays index ≡ text = rw (drop_all index plays over) (append-nil text) in
      sym one ∙ so_far

-- the lines of one more hand come after those of the hands before it
pub one_hand_more : (lines : ℕ → Play → List ℕ) (number : ℕ) (plays : List Play) (play : Play)
    → each_hand lines number (plays ++ play ∷ []) ≡ each_hand lines number plays ++ lines (number + length plays) play
unfolding each_hand
one_hand_more lines number [] play = append-nil (lines number play) ∙ ap (λ n. lines n play) (omega arith)
one_hand_more lines number (first ∷ plays) play =
    ap (λ text. lines number first ++ text)
    (one_hand_more lines (number + 1) plays play ∙ ap (λ n. each_hand lines (number + 1) plays ++ lines n play) (omega arith))
    ∙ sym (append_assoc (lines number first) (each_hand lines (number + 1) plays) (lines (number + length (first ∷ plays)) play))
