-- Lemmas on lists that are made one element after another.
use Rattle.std.proofs.Common.{Bool, List, [], ap, arith, cond, drop, false, filter, if◌then◌else◌, length, length-append, map, refl, slice_get, suc, true, zero, ℕ, ◌*◌, ◌++◌, ◌+◌, ◌∙◌, ◌∷◌, ◌≡◌, ◌≤◌}
use Rattle.std.specs.List.{flat_map}
use Rattle.std.proofs.Math.Nat.{add_comm, suc-mul}
use Rattle.std.proofs.lemmas.List.{append-nil}
use Rattle.std.specs.Option.{option_to_list}

kept_first : {X Y : Type 0} (f : X → Y) (x : X) (rest : List X) (b : Bool) → map f (cond b (x ∷ rest) rest) ≡ (if b then f x ∷ [] else []) ++ map f rest
kept_first f x rest true = refl
kept_first f x rest false = refl

-- what is made of the elements that pass a test, one after another
pub kept_flat : {X Y : Type 0} (p : X → Bool) (f : X → Y) (xs : List X) → map f (filter p xs) ≡ flat_map (λ x. if p x then f x ∷ [] else []) xs
kept_flat p f [] = refl
kept_flat p f (x ∷ xs) = kept_first f x (filter p xs) (p x) ∙ ap (λ l. (if p x then f x ∷ [] else []) ++ l) (kept_flat p f xs)

-- over a list that was mapped
pub flat_map-map : {X Y Z : Type 0} (f : Y → List Z) (g : X → Y) (xs : List X) → flat_map f (map g xs) ≡ flat_map (λ x. f (g x)) xs
flat_map-map f g [] = refl
flat_map-map f g (x ∷ xs) = ap (λ l. f (g x) ++ l) (flat_map-map f g xs)

suc_times : (n m : ℕ) → suc n * m ≡ m + n * m
suc_times n m = suc-mul n m ∙ add_comm (n * m) m

-- lists that are each at most this long
pub flat_few : {X Y : Type 0} (f : X → List Y) (most : ℕ) (xs : List X) → ((x : X) → length (f x) ≤ most) → length (flat_map f xs) ≤ length xs * most
flat_few f most [] few = omega arith
flat_few f most (x ∷ xs) few = omega (arith, few x, flat_few f most xs few, length-append (f x) (flat_map f xs), suc_times (length xs) most)

part : {X Y : Type 0} (f : X → List Y) (xs : List X) (index : ℕ)
    → flat_map f (option_to_list (slice_get xs index)) ++ flat_map f (drop (suc index) xs) ≡ flat_map f (drop index xs)
part f [] zero = refl
part f [] (suc index) = refl
part f (x ∷ xs) zero = ap (λ first. first ++ flat_map f xs) (append-nil (f x))
part f (x ∷ xs) (suc index) = part f xs index

-- an item and those after it are what is left
pub next_part : {X Y : Type 0} (f : X → List Y) (xs : List X) (index : ℕ)
    → flat_map f (option_to_list (slice_get xs index)) ++ flat_map f (drop (index + 1) xs) ≡ flat_map f (drop index xs)
next_part f xs index =
    let on : index + 1 ≡ suc index = omega arith in
    ap (λ n. flat_map f (option_to_list (slice_get xs index)) ++ flat_map f (drop n xs)) on ∙ part f xs index
