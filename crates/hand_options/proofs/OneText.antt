-- What is legal at a point of a hand is one value, and has one text.
use Rattle.std.proofs.Common.{◌≡◌, ◌⊎◌, ℕ, zero, suc, ◌<◌, ◌≤◌, Bool, true, false, ◌||◌, ◌&&◌, ◌==◌, nat_le, List, [], ◌∷◌, take, Option, Some, None as NoSeat, refl, sym, ap, ap₂, ◌∙◌, inl, inr, arith}
use Rattle.std.specs.List.{list_any}
use Rattle.std.proofs.lemmas.Bool.{eq-eqb, eqb-true, false≢true, le-leb, leb-true}
use Rattle.chip_ledger.specs.SeatsSaid.{seat_said}
use Rattle.chip_ledger.specs.declared.numbers.Seat.{Seat}
use Rattle.chip_ledger.proofs.Same.{seat_same}
use Rattle.hand_options.specs.Legal.{AreListed, AreOptions, IsSetOf, is_in_set}
use Rattle.hand_options.specs.Printed.{options_said}
use Rattle.hand_options.specs.declared.choices.Options.{Options}
use Rattle.hand_options.specs.declared.choices.RaiseSet.{RaiseSet}
use Rattle.hand_options.specs.declared.choices.RaiseSet.TheVariants as sets
use Rattle.play_event.specs.Past.{Past}
use Rattle.play_event.specs.Streets.{limit_of}
use Rattle.play_event.specs.declared.limit.Limit.{Limit}
use Rattle.play_event.specs.declared.setup.Rules.{Rules}
use Rattle.play_event.specs.declared.setup.Setup.{Setup}

-- a number is in a list
abbrev is_one : ℕ → List ℕ → Bool
is_one target listed = list_any (λ one. target == one) listed

-- two lists have the same numbers
abbrev HaveTheSame : List ℕ → List ℕ → Type 0
HaveTheSame xs ys = (target : ℕ) → is_one target xs ≡ is_one target ys

or_false : (b : Bool) → (b || false) ≡ true → b ≡ true
or_false true is = refl
or_false false is = is

or_true : (b : Bool) → (b || true) ≡ true
or_true true = refl
or_true false = refl

either : (b c : Bool) → (b || c) ≡ true → (b ≡ true) ⊎ (c ≡ true)
either true c is = inl refl
either false c is = inr is

both : (b c : Bool) → (b && c) ≡ true → (b ≡ true) × (c ≡ true)
both true c is = (refl, is)
both false c is = absurd (false≢true is)

-- the first of a list is in it, and so is the second, if there is one
first_is : (x : ℕ) (xs : List ℕ) → is_one x (x ∷ xs) ≡ true
first_is x xs = ap (λ (b : Bool). b || is_one x xs) (eq-eqb x x refl)

second_is : (x y : ℕ) → is_one y (x ∷ y ∷ []) ≡ true
second_is x y = ap (λ (b : Bool). (y == x) || b) (first_is y []) ∙ or_true (y == x)

-- in a list of one number there is no other, and in a list of two there are only these
of_one : (target x : ℕ) → is_one target (x ∷ []) ≡ true → target ≡ x
of_one target x is = eqb-true target x (or_false (target == x) is)

of_two : (target x y : ℕ) → is_one target (x ∷ y ∷ []) ≡ true → (target ≡ x) ⊎ (target ≡ y)
of_two target x y is =
    elim (either (target == x) (is_one target (y ∷ [])) is)
    [ inl here ↦ inl (eqb-true target x here) | inr there ↦ inr (of_one target y there) ]

-- what is listed is nothing, one number, or two in rising order
data IsShort (xs : List ℕ) : Type 0 where
  None : xs ≡ [] → IsShort xs
  One : (x : ℕ) → xs ≡ x ∷ [] → IsShort xs
  Two : (x y : ℕ) → x < y → xs ≡ x ∷ y ∷ [] → IsShort xs

is_short : (count : ℕ) (to : List ℕ) → AreListed count to → IsShort (take count to)
is_short zero to are = absurd (omega (arith, are.some))
is_short (suc zero) [] are = None refl
is_short (suc zero) (x ∷ rest) are = One x refl
is_short (suc (suc zero)) [] are = None refl
is_short (suc (suc zero)) (x ∷ []) are = One x refl
is_short (suc (suc zero)) (x ∷ y ∷ rest) are = Two x y (are.rising refl) refl
is_short (suc (suc (suc count))) to are = absurd (omega (arith, are.few))

nothing_in : (x : ℕ) (xs : List ℕ) → HaveTheSame [] (x ∷ xs) → ⊥
nothing_in x xs same = false≢true (same x ∙ first_is x xs)

one_in_two : (x y z : ℕ) → y < z → HaveTheSame (x ∷ []) (y ∷ z ∷ []) → ⊥
one_in_two x y z rising same =
    omega (arith, rising, of_one y x (same y ∙ first_is y (z ∷ [])), of_one z x (same z ∙ second_is y z))

two_in_two : (x y u v : ℕ) → x < y → u < v → (x ≡ u) ⊎ (x ≡ v) → (y ≡ u) ⊎ (y ≡ v) → (u ≡ x) ⊎ (u ≡ y) → (x ≡ u) × (y ≡ v)
two_in_two x y u v rising rises (inl a) (inl b) c = absurd (omega (arith, rising, a, b))
two_in_two x y u v rising rises (inl a) (inr b) c = (a, b)
two_in_two x y u v rising rises (inr a) b (inl c) = absurd (omega (arith, rises, a, c))
two_in_two x y u v rising rises (inr a) b (inr c) = absurd (omega (arith, rising, rises, a, c))

-- short lists with the same numbers are the same
same_short : (xs ys : List ℕ) → IsShort xs → IsShort ys → HaveTheSame xs ys → xs ≡ ys
same_short xs ys (None a) (None b) same = a ∙ sym b
same_short xs ys (None a) (One y b) same =
    absurd (nothing_in y [] (λ target. sym (ap (is_one target) a) ∙ same target ∙ ap (is_one target) b))
same_short xs ys (None a) (Two y z rising b) same =
    absurd (nothing_in y (z ∷ []) (λ target. sym (ap (is_one target) a) ∙ same target ∙ ap (is_one target) b))
same_short xs ys (One x a) (None b) same =
    absurd (nothing_in x [] (λ target. sym (ap (is_one target) b) ∙ sym (same target) ∙ ap (is_one target) a))
same_short xs ys (Two x y rising a) (None b) same =
    absurd (nothing_in x (y ∷ []) (λ target. sym (ap (is_one target) b) ∙ sym (same target) ∙ ap (is_one target) a))
same_short xs ys (One x a) (One y b) same =
    let here : HaveTheSame (x ∷ []) (y ∷ []) = λ target. sym (ap (is_one target) a) ∙ same target ∙ ap (is_one target) b in
    let one : x ≡ y = of_one x y (sym (here x) ∙ first_is x []) in
    a ∙ ap (λ (n : ℕ). n ∷ []) one ∙ sym b
same_short xs ys (One x a) (Two y z rising b) same =
    absurd (one_in_two x y z rising (λ target. sym (ap (is_one target) a) ∙ same target ∙ ap (is_one target) b))
same_short xs ys (Two y z rising a) (One x b) same =
    absurd (one_in_two x y z rising (λ target. sym (ap (is_one target) b) ∙ sym (same target) ∙ ap (is_one target) a))
same_short xs ys (Two x y rising a) (Two u v rises b) same =
    let here : HaveTheSame (x ∷ y ∷ []) (u ∷ v ∷ []) = λ target. sym (ap (is_one target) a) ∙ same target ∙ ap (is_one target) b in
    let one = two_in_two x y u v rising rises
    (of_two x u v (sym (here x) ∙ first_is x (y ∷ []))) (of_two y u v (sym (here y) ∙ second_is x y)) (of_two u x y (here u ∙ first_is u (v ∷ []))) in
    a ∙ ap₂ (λ (n m : ℕ). n ∷ m ∷ []) one.0 one.1 ∙ sym b

-- the ends of a range are in it
least_in : (least greatest : ℕ) → least ≤ greatest → is_in_set (sets.Range least greatest) least ≡ true
least_in least greatest order =
    ap (λ (b : Bool). b && nat_le least greatest) (le-leb least least (omega arith)) ∙ le-leb least greatest order

greatest_in : (least greatest : ℕ) → least ≤ greatest → is_in_set (sets.Range least greatest) greatest ≡ true
greatest_in least greatest order =
    ap (λ (b : Bool). b && nat_le greatest greatest) (le-leb least greatest order) ∙ le-leb greatest greatest (omega arith)

within : (target least greatest : ℕ) → is_in_set (sets.Range least greatest) target ≡ true → (least ≤ target) × (target ≤ greatest)
within target least greatest is =
    let parts = both (nat_le least target) (nat_le target greatest) is in
    (leb-true least target parts.0, leb-true target greatest parts.1)

-- a list of one target has 0 in its other place, and one of two targets has both, rising
data IsListed (count : ℕ) (to : List ℕ) : Type 0 where
  Single : (x : ℕ) → count ≡ 1 → to ≡ x ∷ 0 ∷ [] → IsListed count to
  Pair : (x y : ℕ) → count ≡ 2 → to ≡ x ∷ y ∷ [] → IsListed count to

is_listed : (count : ℕ) (to : List ℕ) → AreListed count to → IsListed count to
is_listed zero to are = absurd (omega (arith, are.some))
is_listed (suc zero) [] are = absurd (omega (arith, are.room))
is_listed (suc zero) (x ∷ []) are = absurd (omega (arith, are.room))
is_listed (suc zero) (x ∷ y ∷ []) are = Single x refl (ap (λ (n : ℕ). x ∷ n ∷ []) (are.spare refl))
is_listed (suc zero) (x ∷ y ∷ z ∷ rest) are = absurd (omega (arith, are.room))
is_listed (suc (suc zero)) [] are = absurd (omega (arith, are.room))
is_listed (suc (suc zero)) (x ∷ []) are = absurd (omega (arith, are.room))
is_listed (suc (suc zero)) (x ∷ y ∷ []) are = Pair x y refl refl
is_listed (suc (suc zero)) (x ∷ y ∷ z ∷ rest) are = absurd (omega (arith, are.room))
is_listed (suc (suc (suc count))) to are = absurd (omega (arith, are.few))

-- what is listed
shown : (count : ℕ) (to : List ℕ) (number : ℕ) (places : List ℕ) → count ≡ number → to ≡ places → take count to ≡ take number places
shown count to number places is are = ap₂ (λ (n : ℕ) (xs : List ℕ). take n xs) is are

-- a list of targets is not empty
some_listed : (count : ℕ) (to : List ℕ) → IsListed count to → [] ≡ take count to → ⊥
some_listed count to (Single x counted is) none =
    let one : [] ≡ x ∷ [] = none ∙ shown count to 1 (x ∷ 0 ∷ []) counted is in
    cc (one)
some_listed count to (Pair x y counted is) none =
    let two : [] ≡ x ∷ y ∷ [] = none ∙ shown count to 2 (x ∷ y ∷ []) counted is in
    cc (two)

-- lists of the same targets are one list
same_listed : (count other : ℕ) (to too : List ℕ) → IsListed count to → IsListed other too
    → take count to ≡ take other too → sets.List count to ≡ sets.List other too
same_listed count other to too (Single x counted is) (Single y numbered are) same =
    let one : x ∷ [] ≡ y ∷ [] = sym (shown count to 1 (x ∷ 0 ∷ []) counted is) ∙ same ∙ shown other too 1 (y ∷ 0 ∷ []) numbered are in
    let first : x ≡ y = cc (one) in
    cc (counted, is, numbered, are, first)
same_listed count other to too (Single x counted is) (Pair y z numbered are) same =
    let one : x ∷ [] ≡ y ∷ z ∷ [] = sym (shown count to 1 (x ∷ 0 ∷ []) counted is) ∙ same ∙ shown other too 2 (y ∷ z ∷ []) numbered are in
    absurd (cc (one))
same_listed count other to too (Pair y z numbered are) (Single x counted is) same =
    let one : x ∷ [] ≡ y ∷ z ∷ [] = sym (shown other too 1 (x ∷ 0 ∷ []) counted is) ∙ sym same ∙ shown count to 2 (y ∷ z ∷ []) numbered are in
    absurd (cc (one))
same_listed count other to too (Pair x y counted is) (Pair u v numbered are) same =
    let two : x ∷ y ∷ [] ≡ u ∷ v ∷ [] = sym (shown count to 2 (x ∷ y ∷ []) counted is) ∙ same ∙ shown other too 2 (u ∷ v ∷ []) numbered are in
    cc (counted, is, numbered, are, two)

-- sets of the same targets, in the form of one limit, are one set
same_raises : (limit : Limit) (a b : RaiseSet) → ((target : ℕ) → is_in_set a target ≡ is_in_set b target)
    → IsSetOf limit a → IsSetOf limit b → a ≡ b
same_raises limit sets.None sets.None same is it = refl
same_raises limit sets.None (sets.Range least greatest) same is it =
    absurd (false≢true (same least ∙ least_in least greatest it.1))
same_raises limit (sets.Range least greatest) sets.None same is it =
    absurd (false≢true (sym (same least) ∙ least_in least greatest is.1))
same_raises limit sets.None (sets.List count to) same is it =
    absurd (some_listed count to (is_listed count to it.1) (same_short [] (take count to) (None refl) (is_short count to it.1) same))
same_raises limit (sets.List count to) sets.None same is it =
    absurd (some_listed count to (is_listed count to is.1) (sym (same_short (take count to) [] (is_short count to is.1) (None refl) same)))
same_raises limit (sets.Range least greatest) (sets.List count to) same is it = absurd (false≢true (sym is.0 ∙ it.0))
same_raises limit (sets.List count to) (sets.Range least greatest) same is it = absurd (false≢true (sym it.0 ∙ is.0))
same_raises limit (sets.List count to) (sets.List other too) same is it =
    same_listed count other to too (is_listed count to is.1) (is_listed other too it.1)
    (same_short (take count to) (take other too) (is_short count to is.1) (is_short other too it.1) same)
same_raises limit (sets.Range least greatest) (sets.Range first last) same is it =
    let a = within least first last (sym (same least) ∙ least_in least greatest is.1) in
    let b = within greatest first last (sym (same greatest) ∙ greatest_in least greatest is.1) in
    let c = within first least greatest (same first ∙ least_in first last it.1) in
    let d = within last least greatest (same last ∙ greatest_in first last it.1) in
    let begins : least ≡ first = omega (arith, a.0, c.0) in
    let ends : greatest ≡ last = omega (arith, b.1, d.1) in
    ap₂ (λ (l g : ℕ). sets.Range l g) begins ends

-- seats with one number are one seat
same_seats : (a b : Option Seat) → seat_said a ≡ seat_said b → a ≡ b
same_seats NoSeat NoSeat same = refl
same_seats NoSeat (Some b) same = absurd (cc (same))
same_seats (Some a) NoSeat same = absurd (cc (same))
same_seats (Some a) (Some b) same =
    let number : a.number ≡ b.number = cc (same) in
    ap (λ (s : Seat). Some s) (seat_same a b number)

-- so options of one point of a hand are one value
pub one_options : (setup : Setup) (rules : Rules) (past : Past) (a b : Options)
    → AreOptions setup rules past a → AreOptions setup rules past b → a ≡ b
one_options setup rules past a b is it =
    let due : a.due ≡ b.due = is.due ∙ sym it.due in
    let seat : a.seat ≡ b.seat = same_seats a.seat b.seat (is.seat ∙ sym it.seat) in
    let fold : a.fold ≡ b.fold = is.fold ∙ sym it.fold in
    let call : a.call ≡ b.call = is.call ∙ sym it.call in
    let bring_in : a.bring_in ≡ b.bring_in = is.bring_in ∙ sym it.bring_in in
    let raise : a.raise ≡ b.raise =
    same_raises (limit_of setup.code) a.raise b.raise (λ target. is.raise target ∙ sym (it.raise target)) is.form it.form in
    ap (λ d. record { due = d; seat = a.seat; fold = a.fold; call = a.call; bring_in = a.bring_in; raise = a.raise }) due
    ∙ ap (λ s. record { due = b.due; seat = s; fold = a.fold; call = a.call; bring_in = a.bring_in; raise = a.raise }) seat
    ∙ ap (λ f. record { due = b.due; seat = b.seat; fold = f; call = a.call; bring_in = a.bring_in; raise = a.raise }) fold
    ∙ ap (λ c. record { due = b.due; seat = b.seat; fold = b.fold; call = c; bring_in = a.bring_in; raise = a.raise }) call
    ∙ ap (λ c. record { due = b.due; seat = b.seat; fold = b.fold; call = b.call; bring_in = c; raise = a.raise }) bring_in
    ∙ ap (λ r. record { due = b.due; seat = b.seat; fold = b.fold; call = b.call; bring_in = b.bring_in; raise = r }) raise

-- and they have one text
pub one_text : (hand events : ℕ) (setup : Setup) (rules : Rules) (past : Past) (a b : Options)
    → AreOptions setup rules past a → AreOptions setup rules past b → options_said hand events a ≡ options_said hand events b
one_text hand events setup rules past a b is it =
    ap (options_said hand events) (one_options setup rules past a b is it)
