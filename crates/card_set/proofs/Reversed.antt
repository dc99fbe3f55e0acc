-- What holds for a list holds from its end: how many elements pass a test, which pass, and whether
-- some does.
use Rattle.std.proofs.Common.{Bool, List, [], ap, arith, cond, count_by, false, filter, refl, reverse, sym, true, ◌++◌, ◌||◌, ◌∙◌, ◌∷◌, ◌≡◌}
use Rattle.std.proofs.lemmas.List.{append-nil, reverse-append}
use Rattle.card_set.proofs.Counting.{count_by-cons, count_by-push}
use Rattle.std.proofs.lemmas.Grind.{reverse_onto}
use Rattle.std.proofs.lemmas.List.Elements.{filter-append}
use Rattle.std.specs.List.{list_any}
use Rattle.std.proofs.Math.Bool.{or_comm}
use Rattle.card_set.proofs.Finding.{list_any-push}

-- as many from the end as from the beginning
pub count_reversed : {X : Type 0} (p : X → Bool) (xs : List X) → count_by p (reverse xs) ≡ count_by p xs
count_reversed p [] = refl
count_reversed p (x ∷ rest) =
    let turned = ap (count_by p) (reverse-append (x ∷ []) rest) in
    omega (arith, turned, count_by-push p (reverse rest) x, count_reversed p rest, count_by-cons p x rest)

kept_last : {X : Type 0} (x : X) (ys : List X) (b : Bool) → reverse ys ++ cond b (x ∷ []) [] ≡ reverse (cond b (x ∷ ys) ys)
kept_last x ys true = sym (reverse_onto ys x [])
kept_last x ys false = append-nil (reverse ys)

-- the same elements pass, and some element does
pub filter-reverse : {X : Type 0} (p : X → Bool) (xs : List X) → filter p (reverse xs) ≡ reverse (filter p xs)
filter-reverse p [] = refl
filter-reverse p (x ∷ xs) =
    ap (filter p) (reverse_onto xs x [])
    ∙ filter-append p (reverse xs) (x ∷ [])
    ∙ ap (λ l. l ++ filter p (x ∷ [])) (filter-reverse p xs)
    ∙ kept_last x (filter p xs) (p x)

pub list_any-reverse : {X : Type 0} (p : X → Bool) (xs : List X) → list_any p (reverse xs) ≡ list_any p xs
list_any-reverse p [] = refl
list_any-reverse p (x ∷ xs) =
    ap (list_any p) (reverse_onto xs x [])
    ∙ list_any-push p (reverse xs) x
    ∙ or_comm (list_any p (reverse xs)) (p x)
    ∙ ap (λ b. p x || b) (list_any-reverse p xs)
