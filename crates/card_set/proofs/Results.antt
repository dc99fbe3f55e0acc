-- Lemmas on what holds for a result: what follows from it.
use Rattle.std.proofs.Common.{Result, Ok, Err, OnOk, IfErr, Bool, IfOk, None, Option, Some, false, if◌then◌else◌, refl, true, ◌≡◌}
use Rattle.std.specs.Prelude.{OnErr}
use Rattle.std.specs.Option.{option_map_or}

-- what follows for an error
pub if_err : {A E : Type 0} {P Q : E → Type 0} (result : Result A E) → ((e : E) → P e → Q e) → IfErr result P → IfErr result Q
if_err (Ok a) step is = tt
if_err (Err e) step is = step e is

-- what follows for a value
pub on_ok : {A E : Type 0} {P Q : Type 0} (result : Result A E) → (P → Q) → OnOk result P → OnOk result Q
on_ok (Ok a) step is = step is
on_ok (Err e) step is = tt

-- and what follows from both
pub on_ok_both : {A E : Type 0} {P Q R : Type 0} (result : Result A E) → (P → OnOk result Q) → (P → Q → R) → OnOk result P → OnOk result R
on_ok_both (Ok a) first step is = step is (first is)
on_ok_both (Err e) first step is = tt

-- what holds in any case
pub on_err : {A B : Type 0} (answer : Result A B) (P : Type 0) → P → OnErr answer P
on_err (Ok x) P p = tt
on_err (Err e) P p = p

-- one of two
pub ok_either : {A F : Type 0} (test : Bool) (x y : Result A F) (P : A → Type 0) → (test ≡ true → IfOk x P) → (test ≡ false → IfOk y P) → IfOk (if test then x else y) P
ok_either true x y P if_true if_false = if_true refl
ok_either false x y P if_true if_false = if_false refl

-- what follows for a value if there is one
pub ok_where_some : {X A F : Type 0} (found : Option X) (form : X → Result A F) (y : Result A F) (P : A → Type 0) → ((x : X) → IfOk (form x) P) → IfOk y P → IfOk (option_map_or form found y) P
ok_where_some (Some x) form y P some other = some x
ok_where_some None form y P some other = other

-- what follows for a value that is found
pub ok_where_found : {X A F : Type 0} (found : Option X) (form : X → Result A F) (y : Result A F) (P : A → Type 0) → ((x : X) → found ≡ Some x → IfOk (form x) P) → IfOk y P → IfOk (option_map_or form found y) P
ok_where_found (Some x) form y P some other = some x refl
ok_where_found None form y P some other = other

-- whatever is read before
pub ok_anyway : {A F : Type 0} (result : Result A F) → IfOk result (λ _. Unit {0})
ok_anyway (Ok x) = tt
ok_anyway (Err fault) = tt
