-- What is left of known bytes after a call that ends early.
use Rattle.std.specs.Prelude.{◌≡◌, ◌<◌, ◌≤◌, ℕ, ◌+◌, ◌-◌, List, ◌++◌, length, take, drop, ⊤, Option, None, Some}

-- known bytes lose the first n
abbrev pub Loses : ℕ → Option (List ℕ) → Option (List ℕ) → Type 0
Loses n None new = ⊤
Loses n (Some xs) None = ⊥
Loses n (Some xs) (Some ys) = ys ≡ drop n xs

-- known bytes lose some from the front, at most n
abbrev pub LosesAtMost : ℕ → Option (List ℕ) → Option (List ℕ) → Type 0
LosesAtMost n None new = ⊤
LosesAtMost n (Some xs) None = ⊥
LosesAtMost n (Some xs) (Some ys) =
    (ys ≡ drop (length xs - length ys) xs) × (length xs ≤ length ys + n)

-- known bytes have a front part of bs appended, and not all of it
abbrev pub AppendsPart : Option (List ℕ) → Option (List ℕ) → List ℕ → Type 0
AppendsPart None new bs = ⊤
AppendsPart (Some xs) None bs = ⊥
AppendsPart (Some xs) (Some ys) bs =
    (ys ≡ xs ++ take (length ys - length xs) bs) × (length ys < length xs + length bs)
