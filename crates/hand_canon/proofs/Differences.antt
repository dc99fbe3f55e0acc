-- The first of some comparisons whose numbers differ.
use Rattle.std.proofs.Common.{◌≡◌, ℕ, zero, suc, ◌+◌, ◌-◌, ◌<◌, Bool, true, false, cond, List, ◌++◌, map, find, is_some, Option, Some, None, refl, sym, ap, ◌∙◌, arith}
use Rattle.std.specs.List.{range_with_len}
use Rattle.std.specs.Option.{option_map, option_or}
use Rattle.std.proofs.lemmas.Bool.{true≢false}
use Rattle.std.proofs.lemmas.List.Folds.{find-append}
use Rattle.hand_canon.specs.Agreement.{Comparison, difference_of, is_different}

first_of : (c : Comparison) (rest : Option Comparison) (found : Option Comparison) (b : Bool) → cond b (Some c) None ≡ found → found ≡ None → cond b (Some c) rest ≡ rest
first_of c rest found true is none = absurd (let clash : Some c ≡ None = is ∙ none in cc)
first_of c rest found false is none = refl

here : (c : Comparison) (rest : Option Comparison) (d : Comparison) (b : Bool) → cond b (Some c) None ≡ Some d → cond b (Some c) rest ≡ Some d
here c rest d true is = is
here c rest d false is = absurd (cc)

-- a comparison whose numbers do not differ is passed over
pub passed_over : (f : ℕ → Comparison) (first count : ℕ) → 0 < count → difference_of (f first) ≡ None
    → find is_different (map f (range_with_len (first + 1) (count - 1))) ≡ find is_different (map f (range_with_len first count))
passed_over f first zero some none = absurd (omega (arith, some))
passed_over f first (suc count) some none =
    let same : suc count - 1 ≡ count = omega arith in
    ap (λ n. find is_different (map f (range_with_len (first + 1) n))) same
    ∙ sym (first_of (f first) (find is_different (map f (range_with_len (first + 1) count))) (difference_of (f first)) (is_different (f first)) refl none)

-- one whose numbers differ is the first
pub found_here : (f : ℕ → Comparison) (first count : ℕ) (d : Comparison) → 0 < count → difference_of (f first) ≡ Some d → find is_different (map f (range_with_len first count)) ≡ Some d
found_here f first zero d some is = absurd (omega (arith, some))
found_here f first (suc count) d some is = here (f first) (find is_different (map f (range_with_len (first + 1) count))) d (is_different (f first)) is

-- the seats are compared one after another: if this one does not differ, the first difference is at
-- a later seat
pub next_seat : {D : Type 0} (said : D → Comparison) (f : ℕ → Comparison) (i n : ℕ) (found : Option D) (first : Option Comparison) → i < n
    → option_map said found ≡ difference_of (f (i + 1)) → is_some found ≡ false
    → find is_different (map f (range_with_len (i + 1) (n - i))) ≡ first → find is_different (map f (range_with_len (i + 1 + 1) (n - (i + 1)))) ≡ first
next_seat said f i n (Some d) first within is missing before = absurd (true≢false missing)
next_seat said f i n None first within is missing before =
    let one_less : n - (i + 1) ≡ n - i - 1 = omega arith in
    ap (λ m. find is_different (map f (range_with_len (i + 1 + 1) m))) one_less
    ∙ passed_over f (i + 1) (n - i) (omega (arith, within)) (sym is)
    ∙ before

-- and if it differs it is the first difference
pub this_seat : {D : Type 0} (said : D → Comparison) (f : ℕ → Comparison) (i n : ℕ) (found : Option D) (first : Option Comparison) → i < n
    → option_map said found ≡ difference_of (f (i + 1)) → is_some found ≡ true
    → find is_different (map f (range_with_len (i + 1) (n - i))) ≡ first → option_map said found ≡ first
this_seat said f i n (Some d) first within is there before = sym (found_here f (i + 1) (n - i) (said d) (omega (arith, within)) (sym is)) ∙ before
this_seat said f i n None first within is there before = absurd (true≢false (sym there))

-- what follows if nothing differs
pub or_later : {D : Type 0} (said : D → Comparison) (xs ys : List Comparison) (found : Option D) → option_map said found ≡ find is_different xs → is_some found ≡ false
    → find is_different (xs ++ ys) ≡ find is_different ys
or_later said xs ys (Some d) is missing = absurd (true≢false missing)
or_later said xs ys None is missing = find-append is_different xs ys ∙ ap (λ o. option_or o (find is_different ys)) (sym is)

-- what differs comes before what follows
pub or_first : {D : Type 0} (said : D → Comparison) (xs ys : List Comparison) (found : Option D) → option_map said found ≡ find is_different xs → is_some found ≡ true
    → option_map said found ≡ find is_different (xs ++ ys)
or_first said xs ys (Some d) is there = sym (find-append is_different xs ys ∙ ap (λ o. option_or o (find is_different ys)) (sym is))
or_first said xs ys None is there = absurd (true≢false (sym there))
