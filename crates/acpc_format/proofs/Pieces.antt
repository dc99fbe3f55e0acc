-- The pieces of a line, written one after another.
use Rattle.std.proofs.Common.{◌≡◌, ℕ, List, [], ◌∷◌, ◌++◌, ap, ◌∙◌, append_assoc}

pub line_is : (out one two three four five six head play end : List ℕ)
    → one ≡ out ++ head → two ≡ one ++ 58 ∷ [] → three ≡ two ++ play → four ≡ three ++ 58 ∷ [] → five ≡ four ++ end → six ≡ five ++ 10 ∷ []
    → six ≡ out ++ (head ++ 58 ∷ (play ++ 58 ∷ (end ++ 10 ∷ [])))
line_is out one two three four five six head play end first second third fourth fifth sixth =
    sixth
    ∙ ap (λ (l : List ℕ). l ++ 10 ∷ []) fifth ∙ append_assoc four end (10 ∷ [])
    ∙ ap (λ (l : List ℕ). l ++ (end ++ 10 ∷ [])) fourth ∙ append_assoc three (58 ∷ []) (end ++ 10 ∷ [])
    ∙ ap (λ (l : List ℕ). l ++ 58 ∷ (end ++ 10 ∷ [])) third ∙ append_assoc two play (58 ∷ (end ++ 10 ∷ []))
    ∙ ap (λ (l : List ℕ). l ++ (play ++ 58 ∷ (end ++ 10 ∷ []))) second ∙ append_assoc one (58 ∷ []) (play ++ 58 ∷ (end ++ 10 ∷ []))
    ∙ ap (λ (l : List ℕ). l ++ 58 ∷ (play ++ 58 ∷ (end ++ 10 ∷ []))) first ∙ append_assoc out head (58 ∷ (play ++ 58 ∷ (end ++ 10 ∷ [])))
