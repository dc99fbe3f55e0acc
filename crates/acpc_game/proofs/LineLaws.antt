-- The first line of a text, and those after it.
use Rattle.std.proofs.Common.{◌≡◌, ℕ, ◌<◌, eqb, false, List, [], ◌∷◌, length, map, refl, ap, ◌∙◌, arith}
use Rattle.std.proofs.lemmas.Bool.Decides.{nat_tests}
use Rattle.std.proofs.lemmas.List.Splits.{length-slice_split}
use Rattle.acpc_game.specs.Parts.{parts_of, without_return, without_empty_end, lines_of}

more_parts : (front : List ℕ) (parts : List (List ℕ)) → 0 < length parts → without_empty_end (front ∷ parts) ≡ front ∷ without_empty_end parts
more_parts front [] some = absurd (omega (arith, some))
more_parts front (part ∷ parts) some = refl

pub line_and_more : (text front rest : List ℕ) → parts_of 10 text ≡ front ∷ parts_of 10 rest → lines_of text ≡ without_return front ∷ lines_of rest
line_and_more text front rest cut =
    let some : 0 < length (parts_of 10 rest) = omega (arith, length-slice_split (λ b. eqb b 10) rest) in
    ap (λ parts. map without_return (without_empty_end parts)) cut ∙ ap (map without_return) (more_parts front (parts_of 10 rest) some)

pub last_line : (text front : List ℕ) → parts_of 10 text ≡ front ∷ [] → 0 < length front → lines_of text ≡ without_return front ∷ []
last_line text front cut some =
    let full : eqb (length front) 0 ≡ false = grind (arith, nat_tests, some) in
    ap (λ parts. map without_return (without_empty_end parts)) cut ∙ rw full refl
