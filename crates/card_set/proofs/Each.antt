-- What holds for each element of lists holds for each element of the lists made from them.
use Rattle.std.proofs.Common.{Bool, List, false, filter, flat_map, if◌then◌else◌, map, reverse, subst, sym, true, ◌++◌, ◌∷◌, []}
use Rattle.std.proofs.lemmas.List.{reverse-append}
use Rattle.std.specs.List.{AllByRecursion}

-- what holds for each element of lists holds for both together, for those that are kept, and in
-- reverse order
pub each_joined : {X : Type 0} (P : X → Type 0) (xs ys : List X) → AllByRecursion P xs → AllByRecursion P ys → AllByRecursion P (xs ++ ys)
each_joined P [] ys one other = other
each_joined P (x ∷ xs) ys one other = (one.0, each_joined P xs ys one.1 other)

pub each_flat : {X Y : Type 0} (P : X → Type 0) (Q : Y → Type 0) (f : X → List Y) → ((x : X) → P x → AllByRecursion Q (f x)) → (xs : List X) → AllByRecursion P xs → AllByRecursion Q (flat_map f xs)
each_flat P Q f step [] each = tt
each_flat P Q f step (x ∷ xs) each = each_joined Q (f x) (flat_map f xs) (step x each.0) (each_flat P Q f step xs each.1)

pub each_kept : {X : Type 0} (P : X → Type 0) (p : X → Bool) (xs : List X) → AllByRecursion P xs → AllByRecursion P (filter p xs)
each_kept P p [] each = tt
each_kept P p (x ∷ xs) each = by_first (p x) (each_kept P p xs each.1)
  where
    by_first : (keep : Bool) → AllByRecursion P (filter p xs) → AllByRecursion P (if keep then (x ∷ filter p xs) else filter p xs)
    by_first true rest = (each.0, rest)
    by_first false rest = rest

pub each_mapped : {X Y : Type 0} (P : X → Type 0) (Q : Y → Type 0) (f : X → Y) → ((x : X) → P x → Q (f x)) → (xs : List X) → AllByRecursion P xs → AllByRecursion Q (map f xs)
each_mapped P Q f step [] each = tt
each_mapped P Q f step (x ∷ xs) each = (step x each.0, each_mapped P Q f step xs each.1)

pub each_reversed : {X : Type 0} (P : X → Type 0) (xs : List X) → AllByRecursion P xs → AllByRecursion P (reverse xs)
each_reversed P [] each = tt
each_reversed P (x ∷ xs) each = subst (AllByRecursion P) (sym (reverse-append (x ∷ []) xs)) (each_joined P (reverse xs) (x ∷ []) (each_reversed P xs each.1) (each.0, tt))
