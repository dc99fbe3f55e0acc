-- An empty name, and the default name of a seat, read as no name.
use Rattle.std.proofs.Common.{◌≡◌, ℕ, suc, zero, ◌≤◌, ◌<◌, ◌^◌, Bool, true, false, ◌||◌, ◌==◌, nat_lt, cond, decimal, List, [], ◌∷◌, length, Some, None, Ok, refl, ap, ◌∙◌, arith, bytes_eq, subst, sym}
use Rattle.std.specs.Str.{is_utf8}
use Rattle.std.specs.Str.Parse.{AllDigits}
use Rattle.std.proofs.lemmas.Bool.Decides.{nat_tests}
use Rattle.std.proofs.lemmas.Fmt.{decimal_is_IsNumeral, length-decimal-le_succ, IsAscii-from_digits}
use Rattle.std.proofs.lemmas.Slice.Eq.{bytes_eq-Decides}
use Rattle.std.proofs.lemmas.Str.{is_utf8-from_IsUtf8, IsUtf8-from_ascii}
use Rattle.first_fault.specs.declared.limits.TheConstants.{MOST_TEXT_BYTES}
use Rattle.acpc_reading.specs.Names.{name_said}
use Rattle.card_set.proofs.Bytes.{same_bytes}
use Rattle.chip_ledger.specs.SeatsSaid.{default_name}

-- no bytes read as no name
empty_again : (seat at : ℕ) → name_said seat at [] ≡ Ok None
unfolding name_said
empty_again seat at =
    let utf8 : is_utf8 [] ≡ true = is_utf8-from_IsUtf8 [] (IsUtf8-from_ascii [] (λ i. omega arith)) in
    rw utf8 refl

-- the default name of a seat reads as no name
pub default_again : (seat at : ℕ) → seat ≤ 10 → name_said seat at (default_name seat) ≡ Ok None
unfolding name_said
default_again seat at few =
    let small : seat < 2 ^ 64 = omega (arith, few) in
    let digits = decimal_is_IsNumeral seat small in
    let utf8 : is_utf8 (default_name seat) ≡ true = is_utf8-from_IsUtf8 (default_name seat) (IsUtf8-from_ascii (default_name seat) (ascii digits.0.1)) in
    let short : nat_lt MOST_TEXT_BYTES (length (default_name seat)) ≡ false = grind (arith, nat_tests, length-decimal-le_succ seat small) in
    rw (utf8, short) (ap Ok (ap (λ b. cond (length (default_name seat) == 0 || b) None (Some (default_name seat))) (same_bytes (default_name seat)) ∙ ap (λ b. cond b None (Some (default_name seat))) (either_true (length (default_name seat) == 0))))
  where
    either_true : (b : Bool) → (b || true) ≡ true
    either_true true = refl
    either_true false = refl

    ascii : AllDigits 10 (decimal seat) → Rattle.std.proofs.Common.IsAscii (112 ∷ decimal seat)
    ascii all zero = omega arith
    ascii all (suc i) = IsAscii-from_digits (decimal seat) all i

-- an empty name, and the default name of the seat, read as no name
pub usual_again : (seat at : ℕ) (name : List ℕ) → seat ≤ 10 → (length name == 0 || bytes_eq name (default_name seat)) ≡ true → name_said seat at name ≡ Ok None
usual_again seat at [] few usual = empty_again seat at
usual_again seat at (sign ∷ name) few usual =
    let some : (length (sign ∷ name) == 0) ≡ false = grind (arith, nat_tests) in
    let same : bytes_eq (sign ∷ name) (default_name seat) ≡ true = ap (λ b. b || bytes_eq (sign ∷ name) (default_name seat)) (sym some) ∙ usual in
    subst (λ text. name_said seat at text ≡ Ok None) (sym ((bytes_eq-Decides (sign ∷ name) (default_name seat)).0 same)) (default_again seat at few)
