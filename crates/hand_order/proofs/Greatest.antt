-- The greatest points among choices are none if and only if no choice has points, and otherwise
-- those of a choice that no other exceeds.
use Rattle.std.proofs.Common.{◌≡◌, ℕ, ◌<◌, ◌≤◌, max, List, [], ◌∷◌, ◌++◌, map, Option, Some, None, ◌⊎◌, inl, inr, refl, sym, ◌∙◌, ap, arith}
use Rattle.std.specs.List.{flat_map}
use Rattle.std.proofs.lemmas.List.Concat.{flat_map-cons}
use Rattle.std.proofs.lemmas.Option.{same_Some}
use Rattle.std.proofs.lemmas.Bool.{cases_lt}
use Rattle.card_set.specs.declared.card.Card.{Card}
use Rattle.hand_order.specs.Choices.{IsAmong}
use Rattle.hand_order.specs.Points.{better, greatest}
use Rattle.card_set.proofs.Numbers.{max_assoc}

-- the better of three is found in any order
better_assoc : (a b c : Option ℕ) → better (better a b) c ≡ better a (better b c)
better_assoc None b c = refl
better_assoc (Some x) None c = refl
better_assoc (Some x) (Some y) None = refl
better_assoc (Some x) (Some y) (Some z) = ap (λ (n : ℕ). Some n) (max_assoc x y z)

-- nothing is better than none
better-none : (a : Option ℕ) → better a None ≡ a
better-none None = refl
better-none (Some x) = refl

-- the greatest of two lists of choices
pub greatest-append : (points : List Card → Option ℕ) (xs ys : List (List Card)) → greatest points (xs ++ ys) ≡ better (greatest points xs) (greatest points ys)
unfolding greatest
greatest-append points [] ys = refl
greatest-append points (x ∷ xs) ys = ap (λ (rest : Option ℕ). better (points x) rest) (greatest-append points xs ys) ∙ sym (better_assoc (points x) (greatest points xs) (greatest points ys))

-- the greatest of choices that are made from others
pub greatest-map : (points : List Card → Option ℕ) (f : List Card → List Card) (xs : List (List Card)) → greatest points (map f xs) ≡ greatest (λ x. points (f x)) xs
unfolding greatest
greatest-map points f [] = refl
greatest-map points f (x ∷ xs) = ap (λ (rest : Option ℕ). better (points (f x)) rest) (greatest-map points f xs)

-- the greatest of one choice
pub greatest-one : (points : List Card → Option ℕ) (x : List Card) → greatest points (x ∷ []) ≡ points x
unfolding greatest
greatest-one points x = better-none (points x)

pub greatest-none : (points : List Card → Option ℕ) → greatest points [] ≡ None
unfolding greatest
greatest-none points = refl

-- functions that agree have the same greatest
pub greatest-agree : (f g : List Card → Option ℕ) (xs : List (List Card)) → ((x : List Card) → f x ≡ g x) → greatest f xs ≡ greatest g xs
unfolding greatest
greatest-agree f g [] same = refl
greatest-agree f g (x ∷ xs) same = ap (λ (first : Option ℕ). better first (greatest f xs)) (same x) ∙ ap (λ (rest : Option ℕ). better (g x) rest) (greatest-agree f g xs same)

-- a choice of one list or the other
pub IsAmong-left : (x : List Card) (xs ys : List (List Card)) → IsAmong x xs → IsAmong x (xs ++ ys)
IsAmong-left x [] ys among = elim among [ ]
IsAmong-left x (y ∷ xs) ys (inl here) = inl here
IsAmong-left x (y ∷ xs) ys (inr there) = inr (IsAmong-left x xs ys there)

pub IsAmong-right : (x : List Card) (xs ys : List (List Card)) → IsAmong x ys → IsAmong x (xs ++ ys)
IsAmong-right x [] ys there = there
IsAmong-right x (y ∷ xs) ys there = inr (IsAmong-right x xs ys there)

pub IsAmong-map : (f : List Card → List Card) (x : List Card) (xs : List (List Card)) → IsAmong x xs → IsAmong (f x) (map f xs)
IsAmong-map f x [] among = elim among [ ]
IsAmong-map f x (y ∷ xs) (inl here) = inl (ap f here)
IsAmong-map f x (y ∷ xs) (inr there) = inr (IsAmong-map f x xs there)

-- a choice has the greatest points
pub record IsGreatest (points : List Card → Option ℕ) (xs : List (List Card)) (value : ℕ) : Type 0 where
  pub choice : List Card
  pub among : IsAmong choice xs
  pub pointed : points choice ≡ Some value
  pub most : (other : List Card) (less : ℕ) → IsAmong other xs → points other ≡ Some less → less ≤ value

-- what the greatest of choices says
abbrev pub Says : (List Card → Option ℕ) → List (List Card) → Option ℕ → Type 0
Says points xs None = (x : List Card) → IsAmong x xs → points x ≡ None
Says points xs (Some value) = IsGreatest points xs value

-- a choice has only one number of points
none_same : (points : List Card → Option ℕ) (other : List Card) (less : ℕ) → points other ≡ None → points other ≡ Some less → ⊥
none_same points other less is pointed = cc

none_some : (points : List Card → Option ℕ) (other x : List Card) (less : ℕ) → other ≡ x → points x ≡ None → points other ≡ Some less → ⊥
none_some points other x less here is pointed = none_same points x less is (ap points (sym here) ∙ pointed)

same_points : (points : List Card → Option ℕ) (other x : List Card) (less first : ℕ) → other ≡ x → points x ≡ Some first → points other ≡ Some less → less ≤ first
same_points points other x less first here is pointed = let e = same_Some less first (sym pointed ∙ ap points here ∙ is) in omega arith

no_points : (points : List Card → Option ℕ) (x : List Card) (xs : List (List Card)) → points x ≡ None → ((y : List Card) → IsAmong y xs → points y ≡ None) → (other : List Card) → IsAmong other (x ∷ xs) → points other ≡ None
no_points points x xs is says other (inl here) = ap points here ∙ is
no_points points x xs is says other (inr there) = says other there

-- the greater of one choice and the greatest of the others
larger : (points : List Card → Option ℕ) (x : List Card) (xs : List (List Card)) (first rest : ℕ) → points x ≡ Some first → IsGreatest points xs rest → (first < rest) ⊎ (rest ≤ first) → IsGreatest points (x ∷ xs) (max first rest)
larger points x xs first rest is says (inr less) = record {
  choice = x;
  among = inl refl;
  pointed = is ∙ ap (λ (n : ℕ). Some n) (omega arith);
  most = λ other value among pointed. elim among [ inl here ↦ omega (arith, same_points points other x value first here is pointed) | inr there ↦ omega (arith, says.most other value there pointed) ];
}
larger points x xs first rest is says (inl less) = record {
  choice = says.choice;
  among = inr says.among;
  pointed = says.pointed ∙ ap (λ (n : ℕ). Some n) (omega arith);
  most = λ other value among pointed. elim among [ inl here ↦ omega (arith, same_points points other x value first here is pointed) | inr there ↦ omega (arith, says.most other value there pointed) ];
}

-- one more choice
says-cons : (points : List Card → Option ℕ) (x : List Card) (xs : List (List Card)) (first rest : Option ℕ) → points x ≡ first → Says points xs rest → Says points (x ∷ xs) (better first rest)
says-cons points x xs None None is says = λ other among. no_points points x xs is says other among
says-cons points x xs None (Some rest) is says = record {
  choice = says.choice;
  among = inr says.among;
  pointed = says.pointed;
  most = λ other less among pointed. elim among [ inl here ↦ absurd (none_some points other x less here is pointed) | inr there ↦ says.most other less there pointed ];
}
says-cons points x xs (Some first) None is says = record {
  choice = x;
  among = inl refl;
  pointed = is;
  most = λ other less among pointed. elim among [ inl here ↦ same_points points other x less first here is pointed | inr there ↦ absurd (none_same points other less (says other there) pointed) ];
}
says-cons points x xs (Some first) (Some rest) is says = larger points x xs first rest is says (cases_lt first rest)

-- the greatest of choices is none if none has points, and otherwise the points of one that no other
-- exceeds
pub says_greatest : (points : List Card → Option ℕ) (xs : List (List Card)) → Says points xs (greatest points xs)
unfolding greatest
says_greatest points [] = λ x among. elim among [ ]
says_greatest points (x ∷ xs) = says-cons points x xs (points x) (greatest points xs) refl (says_greatest points xs)

-- the greatest of several lists of choices
pub greatest-flat_map : (points : List Card → Option ℕ) (f : List Card → List (List Card)) (xs : List (List Card)) → greatest points (flat_map f xs) ≡ greatest (λ x. greatest points (f x)) xs
unfolding greatest
greatest-flat_map points f [] = refl
greatest-flat_map points f (x ∷ xs) =
    ap (greatest points) (flat_map-cons f x xs)
    ∙ greatest-append points (f x) (flat_map f xs)
    ∙ ap (λ (rest : Option ℕ). better (greatest points (f x)) rest) (greatest-flat_map points f xs)
