-- A choice has as many cards as were asked for, and they are different if all cards are.
use Rattle.std.proofs.Common.{◌≡◌, ◌≢◌, ℕ, zero, suc, ◌+◌, List, [], ◌∷◌, ◌++◌, map, length, ◌⊎◌, inl, inr, refl, sym, ◌∙◌, ap, subst, arith, length-append}
use Rattle.std.specs.List.{flat_map}
use Rattle.std.proofs.lemmas.List.Concat.{flat_map-cons}
use Rattle.card_set.specs.declared.card.Card.{Card}
use Rattle.card_set.specs.Different.{Every, Lacks, AllDifferent}
use Rattle.card_set.specs.declared.pick.Pick.{Pick}
use Rattle.card_set.specs.declared.pick.Pick.TheVariants as picks
use Rattle.hand_order.specs.Choices.{choices, allowed, IsAmong, AreHeld, CanJoin, CanPick}

-- a choice of two lists is a choice of one or of the other
pub IsAmong-cases : (x : List Card) (xs ys : List (List Card)) → IsAmong x (xs ++ ys) → IsAmong x xs ⊎ IsAmong x ys
IsAmong-cases x [] ys among = inr among
IsAmong-cases x (y ∷ xs) ys (inl here) = inl (inl here)
IsAmong-cases x (y ∷ xs) ys (inr there) = elim (IsAmong-cases x xs ys there) [ inl left ↦ inl (inr left) | inr right ↦ inr right ]

-- a choice that is made from another
pub record IsMade (f : List Card → List Card) (x : List Card) (xs : List (List Card)) : Type 0 where
  pub origin : List Card
  pub among : IsAmong origin xs
  pub made : x ≡ f origin

IsMade-map : (f : List Card → List Card) (x : List Card) (xs : List (List Card)) → IsAmong x (map f xs) → IsMade f x xs
IsMade-map f x [] among = elim among [ ]
IsMade-map f x (y ∷ xs) (inl here) = record { origin = y; among = inl refl; made = here }
IsMade-map f x (y ∷ xs) (inr there) = let is = IsMade-map f x xs there in record { origin = is.origin; among = inr is.among; made = is.made }

-- a choice has the first card, or is one of the others
pub choice_cases : (n : ℕ) (card : Card) (rest more : List Card) → IsAmong more (choices (suc n) (card ∷ rest)) → IsMade (λ others. card ∷ others) more (choices n rest) ⊎ IsAmong more (choices (suc n) rest)
unfolding choices
choice_cases n card rest more among =
    elim (IsAmong-cases more (map (λ others. card ∷ others) (choices n rest)) (choices (suc n) rest) among) [
      | inl with ↦ inl (IsMade-map (λ others. card ∷ others) more (choices n rest) with)
      | inr without ↦ inr without
    ]

pub no_choice : (n : ℕ) (more : List Card) → IsAmong more (choices (suc n) []) → ⊥
unfolding choices
no_choice n more among = among

pub one_choice : (cards more : List Card) → IsAmong more (choices 0 cards) → more ≡ []
unfolding choices
one_choice cards more (inl here) = here
one_choice cards more (inr there) = elim there [ ]

-- what holds for each card holds for each that is chosen
pub every_chosen : (P : Card → Type 0) (n : ℕ) (cards more : List Card) → IsAmong more (choices n cards) → Every P cards → Every P more
every_chosen P zero cards more among every = subst (Every P) (sym (one_choice cards more among)) tt
every_chosen P (suc n) [] more among every = absurd (no_choice n more among)
every_chosen P (suc n) (card ∷ rest) more among every =
    elim (choice_cases n card rest more among) [
      | inl with ↦ subst (Every P) (sym with.made) (every.0, every_chosen P n rest with.origin with.among every.1)
      | inr without ↦ every_chosen P (suc n) rest more without every.1
    ]

-- from different cards, different ones are chosen
pub different_chosen : (n : ℕ) (cards more : List Card) → IsAmong more (choices n cards) → AllDifferent cards → AllDifferent more
different_chosen zero cards more among different = subst AllDifferent (sym (one_choice cards more among)) tt
different_chosen (suc n) [] more among different = absurd (no_choice n more among)
different_chosen (suc n) (card ∷ rest) more among different =
    elim (choice_cases n card rest more among) [
      | inl with ↦ subst AllDifferent (sym with.made) (every_chosen (λ other. card ≢ other) n rest with.origin with.among different.0, different_chosen n rest with.origin with.among different.1)
      | inr without ↦ different_chosen (suc n) rest more without different.1
    ]

-- as many cards are chosen as were asked for
pub length_chosen : (n : ℕ) (cards more : List Card) → IsAmong more (choices n cards) → length more ≡ n
length_chosen zero cards more among = ap (length {A = Card}) (one_choice cards more among)
length_chosen (suc n) [] more among = absurd (no_choice n more among)
length_chosen (suc n) (card ∷ rest) more among =
    elim (choice_cases n card rest more among) [
      | inl with ↦ ap (length {A = Card}) with.made ∙ ap (λ (k : ℕ). suc k) (length_chosen n rest with.origin with.among)
      | inr without ↦ length_chosen (suc n) rest more without
    ]

-- a choice is held
pub held_chosen : (n : ℕ) (cards more : List Card) → AllDifferent cards → IsAmong more (choices n cards) → AreHeld n more
held_chosen n cards more different among = (length_chosen n cards more among, different_chosen n cards more among different)

-- no card of the first ones is among the second
abbrev pub Apart : List Card → List Card → Type 0
Apart first second = Every (λ card. Lacks card second) first

every-append : (P : Card → Type 0) (xs ys : List Card) → Every P (xs ++ ys) → Every P xs × Every P ys
every-append P [] ys every = (tt, every)
every-append P (x ∷ xs) ys every = let parts = every-append P xs ys every.1 in ((every.0, parts.0), parts.1)

every-both : (P : Card → Type 0) (xs ys : List Card) → Every P xs → Every P ys → Every P (xs ++ ys)
every-both P [] ys first second = second
every-both P (x ∷ xs) ys first second = (first.0, every-both P xs ys first.1 second)

pub different_parts : (xs ys : List Card) → AllDifferent (xs ++ ys) → AllDifferent xs × AllDifferent ys × Apart xs ys
different_parts [] ys different = (tt, different, tt)
different_parts (x ∷ xs) ys different =
    let lacks = every-append (λ other. x ≢ other) xs ys different.0 in
    let parts = different_parts xs ys different.1 in
    ((lacks.0, parts.0), parts.1, (lacks.1, parts.2))

pub different_both : (xs ys : List Card) → AllDifferent xs → AllDifferent ys → Apart xs ys → AllDifferent (xs ++ ys)
different_both [] ys first second apart = second
different_both (x ∷ xs) ys first second apart = (every-both (λ other. x ≢ other) xs ys first.0 apart.0, different_both xs ys first.1 second apart.1)

-- choices from cards that are apart are apart
apart_chosen : (m : ℕ) (xs ys more : List Card) → IsAmong more (choices m ys) → Apart xs ys → Apart xs more
apart_chosen m [] ys more among apart = tt
apart_chosen m (x ∷ xs) ys more among apart = (every_chosen (λ other. x ≢ other) m ys more among apart.0, apart_chosen m xs ys more among apart.1)

-- choices of two lists together are held
pub held_both : (n m : ℕ) (first second chosen others : List Card) → AllDifferent (first ++ second) → IsAmong chosen (choices n first) → IsAmong others (choices m second) → AreHeld (n + m) (chosen ++ others)
held_both n m first second chosen others different one other =
    let parts = different_parts first second different in (
      omega (arith, length-append chosen others, length_chosen n first chosen one, length_chosen m second others other),
      different_both chosen others (different_chosen n first chosen one parts.0) (different_chosen m second others other parts.1)
          (every_chosen (λ card. Lacks card others) n first chosen one (apart_chosen m first second others other parts.2)),
    )

-- choices after an empty start are held
pub held_start : (held n : ℕ) (start cards more : List Card) → held ≡ n → start ≡ [] → AllDifferent cards → IsAmong more (choices n cards) → AreHeld held (start ++ more)
held_start held n start cards more same none different among =
    let is = held_chosen n cards more different among in
    subst (AreHeld held) (ap (λ (l : List Card). l ++ more) (sym none)) (is.0 ∙ sym same, is.1)

-- hole cards after an empty start can join the board
pub joins_start : (held : ℕ) (start hole board more : List Card) → held ≡ 5 → start ≡ [] → AllDifferent (hole ++ board) → IsAmong more (choices 2 hole) → CanJoin held (start ++ more) board
joins_start held start hole board more same none different among =
    let parts = different_parts hole board different in
    let apart = every_chosen (λ card. Lacks card board) 2 hole more among parts.2 in
    let joins : CanJoin held more board = (omega (arith, same, length_chosen 2 hole more among), different_both more board (different_chosen 2 hole more among parts.0) parts.1 apart) in
    subst (λ (l : List Card). CanJoin held l board) (ap (λ (l : List Card). l ++ more) (sym none)) joins

-- a choice that several others are made into
pub record IsSpread (f : List Card → List (List Card)) (x : List Card) (xs : List (List Card)) : Type 0 where
  pub origin : List Card
  pub among : IsAmong origin xs
  pub spread : IsAmong x (f origin)

IsSpread-flat_map : (f : List Card → List (List Card)) (x : List Card) (xs : List (List Card)) → IsAmong x (flat_map f xs) → IsSpread f x xs
IsSpread-flat_map f x [] among = elim among [ ]
IsSpread-flat_map f x (y ∷ xs) among =
    elim (IsAmong-cases x (f y) (flat_map f xs) (subst (IsAmong x) (flat_map-cons f y xs) among)) [
      | inl here ↦ record { origin = y; among = inl refl; spread = here }
      | inr there ↦ let is = IsSpread-flat_map f x xs there in record { origin = is.origin; among = inr is.among; spread = is.spread }
    ]

-- each choice that a pick allows is held
pub held_allowed : (held : ℕ) (pick : Pick) (hole board choice : List Card) → CanPick held pick hole board → AllDifferent (hole ++ board) → IsAmong choice (allowed pick hole board) → AreHeld held choice
held_allowed held picks.AnyFive hole board choice can different among = held_start held 5 [] (hole ++ board) choice can.0 refl different among
held_allowed held picks.TwoAndThree hole board choice can different among =
    let two = IsSpread-flat_map (λ chosen. map (λ others. chosen ++ others) (choices 3 board)) choice (choices 2 hole) among in
    let three = IsMade-map (λ others. two.origin ++ others) choice (choices 3 board) two.spread in
    let is = held_both 2 3 hole board two.origin three.origin different two.among three.among in
    subst (AreHeld held) (sym three.made) (is.0 ∙ sym can.0, is.1)
held_allowed held picks.AllHeld hole board choice can different (inl here) = subst (AreHeld held) (sym here) (can, (different_parts hole board different).0)
held_allowed held picks.AllHeld hole board choice can different (inr there) = elim there [ ]
