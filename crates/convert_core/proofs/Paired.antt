-- Lists of plays, pair by pair.
use Rattle.std.proofs.Common.{◌≡◌, ℕ, ◌+◌, ◌≤◌, ◌<◌, List, [], ◌∷◌, Option, None, length, refl, ap₂, arith}
use Rattle.std.specs.List.{AllByRecursion}
use Rattle.hand_canon.specs.declared.trace.Play.{Play}
use Rattle.hand_canon.specs.declared.writing.Unspelled.{Unspelled}
use Rattle.hand_canon.specs.WriteRefusals.{refused_at, refusal_from}
use Rattle.hand_canon.proofs.Refusals.{none_refused}
use Rattle.hand_canon.specs.SameHands.{AllPaired}

-- what follows for pairs, one by one
pub paired_more : (P Q : ℕ → Play → Play → Type 0) → ((place : ℕ) (play other : Play) → P place play other → Q place play other)
    → (place : ℕ) (plays others : List Play) → AllPaired P place plays others → AllPaired Q place plays others
unfolding AllPaired
paired_more P Q more place [] [] all = tt
paired_more P Q more place [] (other ∷ others) all = all
paired_more P Q more place (play ∷ plays) [] all = all
paired_more P Q more place (play ∷ plays) (other ∷ others) all = (more place play other all.0, paired_more P Q more (place + 1) plays others all.1)

pub paired_turned : (P Q : ℕ → Play → Play → Type 0) → ((place : ℕ) (play other : Play) → P place play other → Q place other play)
    → (place : ℕ) (plays others : List Play) → AllPaired P place plays others → AllPaired Q place others plays
unfolding AllPaired
paired_turned P Q turn place [] [] all = tt
paired_turned P Q turn place [] (other ∷ others) all = all
paired_turned P Q turn place (play ∷ plays) [] all = all
paired_turned P Q turn place (play ∷ plays) (other ∷ others) all = (turn place play other all.0, paired_turned P Q turn (place + 1) plays others all.1)

pub paired_both : (P Q R : ℕ → Play → Play → Type 0) → ((place : ℕ) (a b c : Play) → P place a b → Q place b c → R place a c)
    → (place : ℕ) (plays others more : List Play) → AllPaired P place plays others → AllPaired Q place others more → AllPaired R place plays more
unfolding AllPaired
paired_both P Q R both place [] [] [] all rest = tt
paired_both P Q R both place [] [] (c ∷ cs) all rest = rest
paired_both P Q R both place [] (b ∷ bs) more all rest = absurd all
paired_both P Q R both place (a ∷ xs) [] more all rest = absurd all
paired_both P Q R both place (a ∷ xs) (b ∷ bs) [] all rest = rest
paired_both P Q R both place (a ∷ xs) (b ∷ bs) (c ∷ cs) all rest = (both place a b c all.0 rest.0, paired_both P Q R both (place + 1) xs bs cs all.1 rest.1)

-- if none of the plays is refused, each has all its facts expressed
pub each_spelled : (unspelled : Play → Option Unspelled) (number : ℕ) (plays : List Play) → refusal_from unspelled number plays ≡ None → AllByRecursion (λ play. unspelled play ≡ None) plays
each_spelled unspelled number [] none = tt
each_spelled unspelled number (play ∷ plays) none =
    let parts = none_refused number (unspelled play) (refusal_from unspelled (number + 1) plays) none in
    (parts.0, each_spelled unspelled (number + 1) plays parts.1)

pub none_unspelled : (unspelled : Play → Option Unspelled) (number : ℕ) (plays : List Play) → AllByRecursion (λ play. unspelled play ≡ None) plays → refusal_from unspelled number plays ≡ None
none_unspelled unspelled number [] each = refl
none_unspelled unspelled number (play ∷ plays) each =
    ap₂ (refused_at number) each.0 (none_unspelled unspelled (number + 1) plays each.1)

-- what follows from two properties, one by one
pub each_both : (R S U : Play → Type 0) → ((play : Play) → R play → S play → U play) → (plays : List Play) → AllByRecursion R plays → AllByRecursion S plays → AllByRecursion U plays
each_both R S U both [] rs ss = tt
each_both R S U both (play ∷ plays) rs ss = (both play rs.0 ss.0, each_both R S U both plays rs.1 ss.1)

-- for pairs, a property of the first gives one of the second
pub each_second : (P : ℕ → Play → Play → Type 0) (R S : Play → Type 0) → ((place : ℕ) (play other : Play) → R play → P place play other → S other)
    → (place : ℕ) (plays others : List Play) → AllByRecursion R plays → AllPaired P place plays others → AllByRecursion S others
unfolding AllPaired
each_second P R S more place [] [] each all = tt
each_second P R S more place [] (other ∷ others) each all = absurd all
each_second P R S more place (play ∷ plays) [] each all = tt
each_second P R S more place (play ∷ plays) (other ∷ others) each all = (more place play other each.0 all.0, each_second P R S more (place + 1) plays others each.1 all.1)

-- plays have the same first refusal if in each pair the same fact cannot be expressed
pub one_refusal : (unspelled : Play → Option Unspelled) (number place : ℕ) (plays others : List Play)
    → AllPaired (λ _ play other. unspelled play ≡ unspelled other) place plays others → refusal_from unspelled number plays ≡ refusal_from unspelled number others
unfolding AllPaired
one_refusal unspelled number place [] [] all = refl
one_refusal unspelled number place [] (other ∷ others) all = absurd all
one_refusal unspelled number place (play ∷ plays) [] all = absurd all
one_refusal unspelled number place (play ∷ plays) (other ∷ others) all =
    ap₂ (refused_at number) all.0 (one_refusal unspelled (number + 1) (place + 1) plays others all.1)

-- pairs at places below a bound
pub paired_below : (most : ℕ) (P Q : ℕ → Play → Play → Type 0) (R S : Play → Type 0) → ((place : ℕ) (play other : Play) → place < most → R play → S other → P place play other → Q place play other)
    → (place : ℕ) (plays others : List Play) → place + length plays ≤ most → AllByRecursion R plays → AllByRecursion S others → AllPaired P place plays others → AllPaired Q place plays others
unfolding AllPaired
paired_below most P Q R S more place [] [] few each other_each all = tt
paired_below most P Q R S more place [] (other ∷ others) few each other_each all = all
paired_below most P Q R S more place (play ∷ plays) [] few each other_each all = all
paired_below most P Q R S more place (play ∷ plays) (other ∷ others) few each other_each all =
    (more place play other (omega (arith, few)) each.0 other_each.0 all.0, paired_below most P Q R S more (place + 1) plays others (omega (arith, few)) each.1 other_each.1 all.1)
