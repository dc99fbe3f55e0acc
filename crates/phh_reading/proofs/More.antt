-- A step that reads the same with more text after the text, and leaves that text.
use Rattle.std.proofs.Common.{◌≡◌, ℕ, Bool, true, false, List, [], ◌++◌, Option, Some, None, option_map, option_and_then, if◌then◌else◌, refl, sym, inl, inr, ◌⊎◌}
use Rattle.std.proofs.lemmas.Option.{none-some, same_Some, some_pair_parts}
use Rattle.toml_parser.specs.Lexical.{Read}
use Rattle.phh_reading.proofs.Ends.{Ends}

-- what the first read reads, the second reads, too, and leaves r after it
abbrev pub More : {A : Type 0} → List ℕ → Read A → Read A → Type 0
More {A = A} r before after = (a : A) (rest : List ℕ) → before ≡ Some (a, rest) → Ends rest × (after ≡ Some (a, rest ++ r))

-- the same of a step that only goes on
abbrev pub Rests : List ℕ → Option (List ℕ) → Option (List ℕ) → Type 0
Rests r before after = (rest : List ℕ) → before ≡ Some rest → Ends rest × (after ≡ Some (rest ++ r))

-- the same of a step that may also read to the end of the text
abbrev pub MoreOr : {A : Type 0} → (A → Type 0) → List ℕ → Read A → Read A → Type 0
MoreOr {A = A} P r before after = (a : A) (rest : List ℕ) → before ≡ Some (a, rest) → (P a × (rest ≡ [])) ⊎ (Ends rest × (after ≡ Some (a, rest ++ r)))

pub more_none : {A : Type 0} (r : List ℕ) (after : Read A) → More r None after
more_none r after a rest e = absurd (none-some (a, rest) e)

pub more_some : {A : Type 0} (r : List ℕ) (x : A) (left : List ℕ) → Ends left → More r (Some (x, left)) (Some (x, left ++ r))
more_some r x left ends a rest e =
    let parts = some_pair_parts x a left rest e in
    rw (← parts.0, ← parts.1) (ends, refl)

pub more_if : {A : Type 0} (r : List ℕ) (b : Bool) (x y u v : Read A) → (b ≡ true → More r x u) → (b ≡ false → More r y v)
    → More r (if b then x else y) (if b then u else v)
more_if r true x y u v here other = here refl
more_if r false x y u v here other = other refl

pub more_map : {A B : Type 0} (r : List ℕ) (f : A → B) (x u : Read A) → More r x u
    → More r (option_map (λ p. (f p.0, p.1)) x) (option_map (λ p. (f p.0, p.1)) u)
more_map r f None u more = more_none r _
more_map r f (Some p) u more =
    let (ends, same) = more p.0 p.1 refl in
    rw same (more_some r (f p.0) p.1 ends)

pub more_then : {A B : Type 0} (r : List ℕ) (f g : A × List ℕ → Read B) (x u : Read A) → More r x u
    → ((a : A) (rest : List ℕ) → Ends rest → x ≡ Some (a, rest) → More r (f (a, rest)) (g (a, rest ++ r)))
    → More r (option_and_then f x) (option_and_then g u)
more_then r f g None u more next = more_none r _
more_then r f g (Some p) u more next =
    let (ends, same) = more p.0 p.1 refl in
    rw same (next p.0 p.1 ends refl)

pub rests_then : {B : Type 0} (r : List ℕ) (f g : List ℕ → Read B) (x u : Option (List ℕ)) → Rests r x u
    → ((rest : List ℕ) → Ends rest → More r (f rest) (g (rest ++ r)))
    → More r (option_and_then f x) (option_and_then g u)
rests_then r f g None u more next = more_none r _
rests_then r f g (Some rest) u more next =
    let (ends, same) = more rest refl in
    rw same (next rest ends)

pub rests_map : {B : Type 0} (r : List ℕ) (b : B) (f : List ℕ → List ℕ) (x u : Option (List ℕ)) → Rests r x u
    → ((rest : List ℕ) → Ends rest → Ends (f rest) × (f (rest ++ r) ≡ f rest ++ r))
    → More r (option_map (λ rest. (b, f rest)) x) (option_map (λ rest. (b, f rest)) u)
rests_map r b f None u more next = more_none r _
rests_map r b f (Some rest) u more next =
    let (ends, same) = more rest refl in
    let (after, kept) = next rest ends in
    rw (same, kept) (more_some r b (f rest) after)

pub rests_some : (r left : List ℕ) → Ends left → Rests r (Some left) (Some (left ++ r))
rests_some r left ends rest e = let same = same_Some left rest e in rw (← same) (ends, refl)

pub rests_none : (r : List ℕ) (after : Option (List ℕ)) → Rests r None after
rests_none r after rest e = absurd (none-some rest e)

pub rests_if : (r : List ℕ) (b : Bool) (x y u v : Option (List ℕ)) → (b ≡ true → Rests r x u) → (b ≡ false → Rests r y v)
    → Rests r (if b then x else y) (if b then u else v)
rests_if r true x y u v here other = here refl
rests_if r false x y u v here other = other refl

pub or_none : {A : Type 0} (P : A → Type 0) (r : List ℕ) (after : Read A) → MoreOr P r None after
or_none P r after a rest e = absurd (none-some (a, rest) e)

pub or_more : {A : Type 0} (P : A → Type 0) (r : List ℕ) (before after : Read A) → More r before after → MoreOr P r before after
or_more P r before after more a rest e = inr (more a rest e)

pub or_end : {A : Type 0} (P : A → Type 0) (r : List ℕ) (x : A) (after : Read A) → P x → MoreOr P r (Some (x, [])) after
or_end P r x after holds a rest e =
    let parts = some_pair_parts x a [] rest e in
    inl (rw (← parts.0) holds, sym parts.1)

pub or_if : {A : Type 0} (P : A → Type 0) (r : List ℕ) (b : Bool) (x y u v : Read A) → (b ≡ true → MoreOr P r x u) → (b ≡ false → MoreOr P r y v)
    → MoreOr P r (if b then x else y) (if b then u else v)
or_if P r true x y u v here other = here refl
or_if P r false x y u v here other = other refl

pub or_map : {A B : Type 0} (P : A → Type 0) (Q : B → Type 0) (r : List ℕ) (f : A → B) (x u : Read A) → ((a : A) → P a → Q (f a)) → MoreOr P r x u
    → MoreOr Q r (option_map (λ p. (f p.0, p.1)) x) (option_map (λ p. (f p.0, p.1)) u)
or_map P Q r f None u holds more = or_none Q r _
or_map P Q r f (Some p) u holds more =
    elim (more p.0 p.1 refl) [
      | inl over ↦ rw over.1 (or_end Q r (f p.0) _ (holds p.0 over.0))
      | inr on ↦ rw on.1 (or_more Q r _ _ (more_some r (f p.0) p.1 on.0))
    ]
