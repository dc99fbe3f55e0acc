-- A text has one first table: its header is found, and its lines are those up to the next header.
use Rattle.std.proofs.Common.{◌≡◌, ℕ, zero, suc, ◌-◌, ◌<◌, ◌≤◌, Bool, true, false, ◌&&◌, ◌||◌, ◌==◌, List, [], ◌∷◌, ◌++◌, length, get_or, slice_index, take, drop, refl, sym, ap, ◌∙◌, inl, inr, ◌⊎◌, subst, arith, eqb-true, length-append}
use Rattle.std.proofs.lemmas.Bool.{cases_Bool, cases_lt, and_parts, false≢true}
use Rattle.std.proofs.lemmas.Bool.Decides.{nat_tests}
use Rattle.std.proofs.Math.ListN.{drop_of_length-le}
use Rattle.std.specs.Char.{is_ascii_digit, is_digit}
use Rattle.std.specs.List.{list_all, prefix_len}
use Rattle.toml_parser.specs.Lexical.{first, starts_newline}
use Rattle.toml_parser.proofs.LexicalLemmas.{prefix_len-run}
use Rattle.phh_reading.proofs.Ends.{ends_some}
use Rattle.phh_reading.specs.Tables.{IsHeader, has_header, ends_line_feed}

-- digits end at the first bracket
pub one_number : (a b s t : List ℕ) → list_all (λ sign. is_digit sign 10) a ≡ true → list_all (λ sign. is_digit sign 10) b ≡ true → a ++ 93 ∷ s ≡ b ++ 93 ∷ t → s ≡ t
one_number [] [] s t da db same = cc
one_number [] (y ∷ b) s t da db same =
    let digit = (and_parts (is_digit y 10) (list_all (λ sign. is_digit sign 10) b) db).0 in
    let is : 93 ≡ y = cc in
    absurd (false≢true (ap (λ sign. is_digit sign 10) is ∙ digit))
one_number (x ∷ a) [] s t da db same =
    let digit = (and_parts (is_digit x 10) (list_all (λ sign. is_digit sign 10) a) da).0 in
    let is : 93 ≡ x = cc in
    absurd (false≢true (ap (λ sign. is_digit sign 10) is ∙ digit))
one_number (x ∷ a) (y ∷ b) s t da db same =
    one_number a b s t (and_parts (is_digit x 10) (list_all (λ sign. is_digit sign 10) a) da).1 (and_parts (is_digit y 10) (list_all (λ sign. is_digit sign 10) b) db).1 cc

-- a text at a newline is at it with more text, too
pub newline_more : (t r : List ℕ) → starts_newline t ≡ true → starts_newline (t ++ r) ≡ true
newline_more [] r is = absurd (false≢true is)
newline_more (c ∷ []) r is =
    elim (cases_Bool (c == 10)) [
      | inl feed ↦ rw feed refl
      | inr other ↦
          let two : ((c == 13) && false) ≡ true = rw other at is in
          absurd (false≢true (and_parts (c == 13) false two).1)
    ]
newline_more (c ∷ d ∷ cs) r is = is

or_later : (b c : Bool) → c ≡ true → (b || c) ≡ true
or_later true c is = refl
or_later false c is = is

-- a bracket after a line feed is a header
header_at : (n : ℕ) (s : List ℕ) → suc n < length s → get_or s (suc n) 0 ≡ 91 → get_or s n 0 ≡ 10 → has_header s ≡ true
header_at n [] within bracket feed = absurd (omega arith)
header_at zero (c ∷ []) within bracket feed = absurd (omega arith)
header_at zero (c ∷ d ∷ cs) within bracket feed = rw (feed, bracket) refl
header_at (suc n) (c ∷ cs) within bracket feed =
    or_later ((c == 10) && (first cs == 91)) (has_header cs) (header_at n cs (omega arith) bracket feed)

last_feed : (s t : List ℕ) (k : ℕ) → suc k ≡ length s → ends_line_feed s ≡ true → get_or (s ++ t) k 0 ≡ 10
last_feed [] t k size ends = absurd (false≢true ends)
last_feed (c ∷ []) t zero size ends = eqb-true c 10 ends
last_feed (c ∷ []) t (suc k) size ends = absurd (omega (arith, size))
last_feed (c ∷ d ∷ cs) t zero size ends = absurd (omega (arith, size))
last_feed (c ∷ d ∷ cs) t (suc k) size ends = last_feed (d ∷ cs) t k (omega (arith, size)) ends

at_next : (s t : List ℕ) → get_or (s ++ t) (length s) 0 ≡ first t
at_next [] t = refl
at_next (c ∷ s) t = at_next s t

at_front : (s t : List ℕ) (n : ℕ) → n < length s → get_or (s ++ t) n 0 ≡ get_or s n 0
at_front [] t n within = absurd (omega arith)
at_front (c ∷ s) t zero within = refl
at_front (c ∷ s) t (suc n) within = at_front s t n (omega arith)

-- the lines up to the next header have one length
pub one_length : (n : ℕ) (s t : List ℕ) → n ≤ length (s ++ t) → (n < length (s ++ t) → slice_index (s ++ t) n ≡ 91) → (n < length (s ++ t) → (0 < n) × (slice_index (s ++ t) (n - 1) ≡ 10))
    → ((k : ℕ) → suc k < n → slice_index (s ++ t) (suc k) ≡ 91 → slice_index (s ++ t) k ≡ 10 → ⊥)
    → has_header s ≡ false → (t ≡ []) ⊎ (first t ≡ 91) → (t ≡ []) ⊎ (ends_line_feed s ≡ true) → n ≡ length s
one_length n s t within bracket feed none plain front ends =
    elim (cases_lt n (length s)) [
      | inl lt ↦ absurd (early n lt bracket feed)
      | inr least ↦ elim (cases_lt (length s) n) [
        | inl gt ↦ absurd (late front ends gt)
        | inr most ↦ omega (arith, least, most)
      ]
    ]
  where
    early : (m : ℕ) → m < length s → (m < length (s ++ t) → slice_index (s ++ t) m ≡ 91) → (m < length (s ++ t) → (0 < m) × (slice_index (s ++ t) (m - 1) ≡ 10)) → ⊥
    early zero lt bracket feed = absurd (omega (arith, (feed (omega (arith, lt, length-append s t))).0))
    early (suc m) lt bracket feed =
        let inside : suc m < length (s ++ t) = omega (arith, lt, length-append s t) in
        let at : get_or s (suc m) 0 ≡ 91 = sym (at_front s t (suc m) lt) ∙ bracket inside in
        let less : suc m - 1 ≡ m = omega arith in
        let before : get_or s m 0 ≡ 10 = sym (at_front s t m (omega (arith, lt))) ∙ (rw less at (feed inside).1) in
        false≢true (sym plain ∙ header_at m s lt at before)

    late : (t ≡ []) ⊎ (first t ≡ 91) → (t ≡ []) ⊎ (ends_line_feed s ≡ true) → length s < n → ⊥
    late (inl empty) _ gt = omega (arith, gt, within, length-append s t, ap length empty)
    late (inr at) (inl empty) gt = omega (arith, gt, within, length-append s t, ap length empty)
    late (inr at) (inr ends) gt =
        let k = length s - 1 in
        let next : suc k ≡ length s = omega (arith, ends_some s ends) in
        none k (omega (arith, gt, next)) (rw next (at_next s t ∙ at)) (last_feed s t k next ends)

take_front : (s t : List ℕ) → take (length s) (s ++ t) ≡ s
take_front [] t = refl
take_front (c ∷ s) t = ap (λ (rest : List ℕ). c ∷ rest) (take_front s t)

drop_front : (s t : List ℕ) → drop (length s) (s ++ t) ≡ t
drop_front [] t = refl
drop_front (c ∷ s) t = drop_front s t

ascii_digits : (s : List ℕ) → list_all (λ sign. is_digit sign 10) s ≡ true → list_all is_ascii_digit s ≡ true
ascii_digits [] all = refl
ascii_digits (c ∷ cs) all =
    let parts = and_parts (is_digit c 10) (list_all (λ sign. is_digit sign 10) cs) all in
    let here : is_ascii_digit c ≡ true = grind (arith, nat_tests) in
    rw here (ascii_digits cs parts.1)

-- the digits of a header, and what follows them
pub header_parts : (text number rest : List ℕ) → IsHeader text number rest
    → (take (prefix_len is_ascii_digit (drop 1 text)) (drop 1 text) ≡ number) × (drop (prefix_len is_ascii_digit (drop 1 text)) (drop 1 text) ≡ 93 ∷ rest)
header_parts text number rest is =
    let whole : drop 1 text ≡ number ++ 93 ∷ rest = ap (drop 1) is.text_is in
    let size : prefix_len is_ascii_digit (number ++ 93 ∷ rest) ≡ length number = prefix_len-run is_ascii_digit number (93 ∷ rest) (ascii_digits number is.digits) refl in
    (rw (whole, size) (take_front number (93 ∷ rest)), rw (whole, size) (drop_front number (93 ∷ rest)))

-- the front of a text up to its second line that begins with a bracket has no such line but the first
pub plain_front : (n : ℕ) (s : List ℕ) → ((k : ℕ) → suc k < n → slice_index s (suc k) ≡ 91 → slice_index s k ≡ 10 → ⊥) → has_header (take n s) ≡ false
plain_front zero s none = refl
plain_front (suc n) [] none = refl
plain_front (suc zero) (c ∷ cs) none =
    elim (cases_Bool (c == 10)) [
      | inl feed ↦ rw feed refl
      | inr other ↦ rw other refl
    ]
plain_front (suc (suc n)) (c ∷ []) none =
    elim (cases_Bool (c == 10)) [
      | inl feed ↦ rw feed refl
      | inr other ↦ rw other refl
    ]
plain_front (suc (suc n)) (c ∷ d ∷ cs) none =
    let later : has_header (take (suc n) (d ∷ cs)) ≡ false = plain_front (suc n) (d ∷ cs) (λ k within. none (suc k) (omega (arith, within))) in
    elim (cases_Bool (c == 10)) [
      | inl feed ↦ elim (cases_Bool (d == 91)) [
        | inl bracket ↦ absurd (none 0 (omega arith) (eqb-true d 91 bracket) (eqb-true c 10 feed))
        | inr other ↦ rw (feed, other) later
      ]
      | inr other ↦ rw other later
    ]

-- what follows the front is nothing, or begins with a bracket
pub bracket_next : (n : ℕ) (s : List ℕ) → n ≤ length s → (n < length s → slice_index s n ≡ 91) → (drop n s ≡ []) ⊎ (first (drop n s) ≡ 91)
bracket_next n s within bracket =
    elim (cases_lt n (length s)) [
      | inl lt ↦ inr (first_drop n s ∙ bracket lt)
      | inr past ↦ inl (drop_of_length-le s past)
    ]
  where
    first_drop : (m : ℕ) (t : List ℕ) → first (drop m t) ≡ slice_index t m
    first_drop zero t = refl
    first_drop (suc m) [] = refl
    first_drop (suc m) (c ∷ cs) = first_drop m cs

-- the lines of a first table are the front that ends before the next header
pub one_lines : (n : ℕ) (rest lines next : List ℕ) → rest ≡ lines ++ next → n ≤ length rest → (n < length rest → slice_index rest n ≡ 91) → (n < length rest → (0 < n) × (slice_index rest (n - 1) ≡ 10))
    → ((k : ℕ) → suc k < n → slice_index rest (suc k) ≡ 91 → slice_index rest k ≡ 10 → ⊥)
    → has_header lines ≡ false → (next ≡ []) ⊎ (first next ≡ 91) → (next ≡ []) ⊎ (ends_line_feed lines ≡ true) → take n rest ≡ lines
one_lines n rest lines next rest_is within bracket feed none plain front ends =
    let find = λ (text : List ℕ). n ≤ length text → (n < length text → slice_index text n ≡ 91) → (n < length text → (0 < n) × (slice_index text (n - 1) ≡ 10)) → ((k : ℕ) → suc k < n → slice_index text (suc k) ≡ 91 → slice_index text k ≡ 10 → ⊥) → n ≡ length lines in
    let size : n ≡ length lines = subst find (sym rest_is) (λ within bracket feed none. one_length n lines next within bracket feed none plain front ends) within bracket feed none in
    ap (take n) rest_is ∙ ap (λ m. take m (lines ++ next)) size ∙ take_front lines next
