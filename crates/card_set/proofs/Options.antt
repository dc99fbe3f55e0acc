-- Lemmas on values that may be there, and on results.
use Rattle.std.proofs.Common.{Bool, Err, IfOk, IfSome, IsSome, None, Ok, Option, Result, Some, ap, cond, false, is_none, is_some, not, refl, sym, true, ℕ, ◌↔◌, ◌≡◌, List, option_map, subst, ◌==◌, ◌||◌, true≢false}
use Rattle.card_set.proofs.Tests.{false_true}
use Rattle.std.specs.Prelude.{IfNone, option_and_then}
use Rattle.std.specs.Option.{ForSome, option_map_or, option_or}
use Rattle.std.proofs.lemmas.Option.{same_Some}
use Rattle.std.proofs.lemmas.Bool.{eqb-true, not-false}

-- what is not there
pub is_none_none : {A : Type 0} (gone : Option A) → is_none gone ≡ true → gone ≡ None
is_none_none None is = refl
is_none_none (Some value) is = false_true is

-- what follows for the value of a result
pub along : {T E : Type 0} {P Q : T → Type 0} (result : Result T E) → ((value : T) → P value → Q value) → IfOk result P → IfOk result Q
along (Ok value) goes is = goes value is
along (Err error) goes is = tt

-- what is there is not nothing
pub some_is_none : {A : Type 0} {x : A} → Some x ≡ None → ⊥
some_is_none is = cc

-- what is not some is none
pub none_some : (gone : Option ℕ) → is_some gone ≡ false → is_none gone ≡ true
none_some None is = refl
none_some (Some count) is = false_true (sym is)

-- what is none is not some
pub some_or_none : (gone : Option ℕ) → is_none gone ≡ not (is_some gone)
some_or_none None = refl
some_or_none (Some count) = refl

-- what holds for a value if there is one
pub some_more : {A : Type 0} (found : Option A) (P Q : A → Type 0) → ((x : A) → P x → Q x) → IfSome found P → IfSome found Q
some_more None P Q h is = is
some_more (Some x) P Q h is = h x is

pub on_none : {A : Type 0} (found : Option A) (P : Type 0) → P → IfNone found P
on_none None P p = p
on_none (Some x) P p = tt

-- a map that distinguishes all values distinguishes all optional values
pub options_same : {A B : Type 0} (f : A → B) → ((a b : A) → f a ≡ f b → a ≡ b) → (x y : Option A) → option_map f x ≡ option_map f y → x ≡ y
options_same f apart None None same = refl
options_same f apart None (Some b) same = absurd (cc)
options_same f apart (Some a) None same = absurd (cc)
options_same f apart (Some a) (Some b) same = ap Some (apart a b (same_Some (f a) (f b) same))

-- there is a value if a test passes
pub some_where : (test : Bool) (value : ℕ) → IsSome (cond test (Some value) None) ↔ (test ≡ true)
some_where true value = (λ some. refl, λ is. refl)
some_where false value = (λ some. some, λ is. is)

pub or_nothing : (found : Option ℕ) → option_or found None ≡ found
or_nothing (Some x) = refl
or_nothing None = refl

pub from_some_none : {A : Type 0} {P : Type 0} {x : A} → Some x ≡ None → P
from_some_none e = absurd (true≢false (ap is_some e))

pub from_none_some : {A : Type 0} {P : Type 0} {x : A} → None ≡ Some x → P
from_none_some e = absurd (true≢false (ap is_some (sym e)))

-- if an option was taken, the others follow
pub followed : {A : Type 0} (x : Option A) {B : Type 0} (f : A → Option B) (more : B) → option_and_then f x ≡ Some more
    → (some : A) × ((x ≡ Some some) × (f some ≡ Some more))
followed None f more e = cc
followed (Some some) f more e = (some, (refl, e))

pub none_from_not : {A : Type 0} (x : Option A) → not (is_some x) ≡ true → x ≡ None
none_from_not None e = refl
none_from_not (Some x) e = cc

-- an optional number is none if a test says that it is not there
pub none_by_test : (gone : Option ℕ) (b : Bool) → is_some gone ≡ b → is_none gone ≡ not b
none_by_test None true is = false_true is
none_by_test None false is = refl
none_by_test (Some count) true is = refl
none_by_test (Some count) false is = false_true (sym is)

-- what is there is there after a map
pub some_mapped : {A B : Type 0} (f : A → B) (found : Option A) → is_some found ≡ true → is_some (option_map f found) ≡ true
some_mapped f (Some x) some = refl
some_mapped f None some = cc

pub some_always : {A : Type 0} (told : Option A) (P : A → Type 0) → ((x : A) → P x) → IfSome told P
some_always (Some x) P each = each x
some_always None P each = tt

pub is_some-map : {X Y : Type 0} (f : X → Y) (x : Option X) → is_some (option_map f x) ≡ is_some x
is_some-map f (Some x) = refl
is_some-map f None = refl

-- for no value everything holds
pub for_none : {A : Type 0} (P : A → Type 0) (found : Option A) → found ≡ None → ForSome found P
for_none P found is = λ value some. absurd (cc (is, some))

pub if_none : {A : Type 0} (P : A → Type 0) (found : Option A) → found ≡ None → IfSome found P
if_none P found is = subst (λ o. IfSome o P) (sym is) tt

pub found_number : (o : Option ℕ) (number : ℕ) → option_map_or (λ next. next == number) o false ≡ true → o ≡ Some number
found_number None number is = absurd cc
found_number (Some next) number is = ap Some (eqb-true next number is)

-- an optional number that is not found to differ from a number is that number
pub next_number : (number : ℕ) (next : Option ℕ) → not (option_map_or (λ n. n == number) next false) ≡ false → next ≡ Some number
next_number number None is = false_true (sym is)
next_number number (Some other) is = ap Some (eqb-true other number (not-false (other == number) is))

pub none_anyway : (empty : Bool) (text : List ℕ) → cond (empty || true) None (Some text) ≡ None
none_anyway true text = refl
none_anyway false text = refl
