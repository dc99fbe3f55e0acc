-- The line of one more play comes after those of the plays before it, with an empty line between.
use Rattle.std.proofs.Common.{◌≡◌, ◌==◌, false, ℕ, ◌+◌, ◌<◌, List, [], ◌∷◌, ◌++◌, length, take, get_or, sym, ap, subst, ◌∙◌, refl, append_assoc, arith}
use Rattle.std.proofs.lemmas.Bool.Decides.{nat_tests}
use Rattle.std.proofs.lemmas.List.{take_more}
use Rattle.hand_canon.specs.declared.trace.Play.{Play}
use Rattle.ohh_members.specs.declared.dialect.Dialect.{Dialect}
use Rattle.ohh_writing.specs.Lines.{AreRead, IsTextOf, Spells, empty_line_before, empty_line_behind, hand_text, lines, lines_from}

-- what is written of a play after others: an empty line, if there are others, and its own line
abbrev more_of : Dialect → ℕ → List Play → Play → List ℕ
more_of dialect place before play = empty_line_before before ++ (hand_text dialect (place + length before) play ++ 10 ∷ [])

-- lines of plays, the first at a place, and what is written of one more play
lines_more : (dialect : Dialect) (place : ℕ) (before : List Play) (play : Play)
    → lines_from dialect place (before ++ play ∷ []) ≡ lines_from dialect place before ++ more_of dialect place before play
lines_more dialect place [] play =
    let here : place ≡ place + 0 = omega arith in
    ap (λ (n : ℕ). hand_text dialect n play ++ 10 ∷ []) here
lines_more dialect place (first ∷ []) play =
    let text = hand_text dialect place first in
    let next = hand_text dialect (place + 1) play in
    sym (append_assoc text (10 ∷ []) (10 ∷ (next ++ 10 ∷ [])))
lines_more dialect place (first ∷ second ∷ rest) play =
    let text = hand_text dialect place first in
    let behind = lines_from dialect (place + 1) (second ∷ rest) in
    let here : place + 1 + length (second ∷ rest) ≡ place + length (first ∷ second ∷ rest) = omega arith in
    ap (λ (l : List ℕ). text ++ (10 ∷ (10 ∷ l))) (lines_more dialect (place + 1) (second ∷ rest) play)
    ∙ ap (λ (n : ℕ). text ++ (10 ∷ (10 ∷ (behind ++ (10 ∷ (hand_text dialect n play ++ 10 ∷ [])))))) here
    ∙ sym (append_assoc text (10 ∷ (10 ∷ behind)) (more_of dialect place (first ∷ second ∷ rest) play))

-- and the text of each of them reads as its tree
read_more : (dialect : Dialect) (place : ℕ) (before : List Play) (play : Play)
    → AreRead dialect place before → IsTextOf dialect (place + length before) play → AreRead dialect place (before ++ play ∷ [])
read_more dialect place [] play read one =
    let here : place + 0 ≡ place = omega arith in
    (subst (λ (n : ℕ). IsTextOf dialect n play) here one, tt)
read_more dialect place (first ∷ rest) play read one =
    let here : place + length (first ∷ rest) ≡ place + 1 + length rest = omega arith in
    (read.0, read_more dialect (place + 1) rest play read.1 (subst (λ (n : ℕ). IsTextOf dialect n play) here one))

-- after this many plays comes an empty line, if there are any
same_gap : (before : List Play) → empty_line_behind (length before) ≡ empty_line_before before
same_gap [] = refl
same_gap (first ∷ rest) =
    let some : (length (first ∷ rest) == 0) ≡ false = grind (arith, nat_tests) in
    rw some refl

-- bytes that spell plays, and after them an empty line, if there are any plays, and the text of one
-- more play
pub one_line_more : (dialect : Dialect) (before : List Play) (play : Play) (place : ℕ) (old gap text new : List ℕ)
    → length before ≡ place → Spells dialect before old → gap ≡ old ++ empty_line_behind place
    → text ≡ gap ++ hand_text dialect place play → new ≡ text ++ 10 ∷ [] → IsTextOf dialect place play
    → Spells dialect (before ++ play ∷ []) new
one_line_more dialect before play place old gap text new many spells with_gap with_text whole one =
    let line = hand_text dialect place play in
    let between = empty_line_before before in
    let zeroth : place ≡ 0 + length before = omega (arith, many) in
    record {
      lines =
          whole
          ∙ ap (λ (l : List ℕ). l ++ 10 ∷ []) (with_text ∙ ap (λ (l : List ℕ). l ++ line) (with_gap ∙ ap (λ (l : List ℕ). old ++ l) (ap empty_line_behind (sym many) ∙ same_gap before)))
          ∙ append_assoc (old ++ between) line (10 ∷ [])
          ∙ append_assoc old between (line ++ 10 ∷ [])
          ∙ ap (λ (l : List ℕ). l ++ (between ++ (line ++ 10 ∷ []))) spells.lines
          ∙ ap (λ (n : ℕ). lines dialect before ++ (between ++ (hand_text dialect n play ++ 10 ∷ []))) zeroth
          ∙ sym (lines_more dialect 0 before play);
      trees = read_more dialect 0 before play spells.trees (subst (λ (n : ℕ). IsTextOf dialect n play) zeroth one);
    }

-- the plays so far with the next one
pub next_spelled : (dialect : Dialect) (plays : List Play) (place : ℕ) (play : Play) (new : List ℕ)
    → place < length plays → play ≡ get_or plays place play
    → Spells dialect (take place plays ++ play ∷ []) new → Spells dialect (take (place + 1) plays) new
next_spelled dialect plays place play new within here spells =
    subst (λ (list : List Play). Spells dialect list new)
    (ap (λ (p : Play). take place plays ++ p ∷ []) here ∙ sym (take_more plays place play within)) spells
