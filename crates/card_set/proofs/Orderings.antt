-- Lemmas on how two things are ordered: less, equal or greater.
use Rattle.std.proofs.Common.{Equal, Greater, Less, List, Ordering, ap, is_eq, nat_cmp, refl, sym, ℕ, ◌<◌, ◌≡◌, true≢false}
use Rattle.std.proofs.lemmas.Cmp.{nat_list_cmp_total, tied_itself}
use Rattle.std.specs.Cmp.{nat_cmp_is}
use Rattle.std.specs.Cmp.Lexicographic.{slice_cmp}
use Rattle.std.specs.Ordering.{ordering_then}

pub same_text : (xs : List ℕ) → slice_cmp nat_cmp xs xs ≡ Equal
same_text xs = tied_itself nat_list_cmp_total xs

pub less_not_equal : (o : Ordering) → o ≡ Less → o ≡ Equal → ⊥
less_not_equal Less is equal = true≢false (sym (ap is_eq equal))
less_not_equal Equal is equal = true≢false (ap is_eq is)
less_not_equal Greater is equal = true≢false (sym (ap is_eq equal))

pub equal : (x y : ℕ) → x ≡ y → nat_cmp x y ≡ Equal
equal x y same = sym (nat_cmp_is x y Equal same)

pub greater : (x y : ℕ) → y < x → nat_cmp x y ≡ Greater
greater x y lt = sym (nat_cmp_is x y Greater lt)

-- what two numbers compare as
pub less : (x y : ℕ) → x < y → nat_cmp x y ≡ Less
less x y lt = sym (nat_cmp_is x y Less lt)

pub then_assoc : (a b c : Ordering) → ordering_then (ordering_then a b) c ≡ ordering_then a (ordering_then b c)
then_assoc Less b c = refl
then_assoc Equal b c = refl
then_assoc Greater b c = refl

pub then_equal : (a : Ordering) → a ≡ ordering_then a Equal
then_equal Less = refl
then_equal Equal = refl
then_equal Greater = refl
