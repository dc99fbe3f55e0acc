-- The line of one more play.
use Rattle.std.proofs.Common.{◌≡◌, ℕ, ◌+◌, ◌<◌, Bool, List, [], ◌∷◌, ◌++◌, length, take, drop, get_or, sym, ap, subst, ◌∙◌, append_assoc}
use Rattle.std.specs.List.{AllByRecursion}
use Rattle.std.proofs.lemmas.List.{drop_more, take_more}
use Rattle.hand_canon.specs.declared.trace.Play.{Play}
use Rattle.acpc_format.specs.Line.{line_text, lines_from}
use Rattle.acpc_format.specs.Texts.{HasTexts}
use Rattle.acpc_format.proofs.SeatTexts.{plays_more}

-- what is written with the next line, and the lines to come
pub line_next : (no_limit : Bool) (place : ℕ) (plays : List Play) (play : Play) (out new all : List ℕ) → place < length plays → play ≡ get_or plays place play
    → out ++ lines_from no_limit place (drop place plays) ≡ all → new ≡ out ++ line_text no_limit place play
    → new ++ lines_from no_limit (place + 1) (drop (place + 1) plays) ≡ all
line_next no_limit place plays play out new all within here before is =
    let rest = lines_from no_limit (place + 1) (drop (place + 1) plays) in
    let cut : drop place plays ≡ play ∷ drop (place + 1) plays = drop_more plays place play within ∙ ap (λ (p : Play). p ∷ drop (place + 1) plays) (sym here) in
    ap (λ (l : List ℕ). l ++ rest) is
    ∙ append_assoc out (line_text no_limit place play) rest
    ∙ ap (λ (list : List Play). out ++ lines_from no_limit place list) (sym cut)
    ∙ before

-- and the names of the plays so far are texts
pub texts_next : (place : ℕ) (plays : List Play) (play : Play) → place < length plays → play ≡ get_or plays place play → AllByRecursion HasTexts (take place plays) → HasTexts play → AllByRecursion HasTexts (take (place + 1) plays)
texts_next place plays play within here before one =
    let more : take (place + 1) plays ≡ take place plays ++ play ∷ [] = take_more plays place play within ∙ ap (λ (p : Play). take place plays ++ p ∷ []) (sym here) in
    subst (λ (list : List Play). AllByRecursion HasTexts list) (sym more) (plays_more (take place plays) play before one)
