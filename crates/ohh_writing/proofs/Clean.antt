-- What is written for a tree is on one line: no byte of it is a newline.
use Rattle.std.proofs.Common.{◌≡◌, ℕ, zero, suc, ◌+◌, ◌/◌, ◌%◌, Bool, true, false, not, cond, eqb, nat_lt, ◌==◌, ◌||◌, ℤ, pos, negsuc, List, [], ◌∷◌, ◌++◌, decimal, refl, arith}
use Rattle.std.specs.Fmt.{digits, digits_onto, digit_glyph, signed_decimal}
use Rattle.std.specs.List.{list_all}
use Rattle.std.specs.Char.{digit_char}
use Rattle.std.proofs.lemmas.Bool.{and_parts}
use Rattle.std.proofs.lemmas.Bool.Decides.{nat_tests}
use Rattle.json.specs.Print.{escape_letter, escape_byte, escape, quoted}
use Rattle.serde_json.specs.Data.{Data, null, boolean, number, string, array, object, unsigned, negative, float, Items, no_items, item, Members, no_members, member}
use Rattle.serde_json.specs.Written.{compact_text, items_text, members_text, comma_if}
use Rattle.hand_canon.specs.declared.trace.Play.{Play}
use Rattle.ohh_members.specs.declared.dialect.Dialect.{Dialect}
use Rattle.ohh_writing.specs.Lines.{hand_text}
use Rattle.ohh_writing.specs.Tree.{hand_tree}

-- a byte is not a newline
abbrev pub is_clean : ℕ → Bool
is_clean byte = not (byte == 10)

-- no byte of a text is a newline
abbrev pub are_clean : List ℕ → Bool
are_clean text = list_all is_clean text

both_clean : (a b : List ℕ) → are_clean a ≡ true → are_clean b ≡ true → are_clean (a ++ b) ≡ true
both_clean [] b one other = other
both_clean (c ∷ a) b one other = let parts = and_parts (is_clean c) (are_clean a) one in rw (parts.0, both_clean a b parts.1 other) refl

letter_from : (x : ℕ) (a b c d e f g : Bool) → eqb x 34 ≡ a → eqb x 92 ≡ b → is_clean (cond (a || b) x (cond c 98 (cond d 102 (cond e 110 (cond f 114 (cond g 116 0)))))) ≡ true
letter_from x true b c d e f g p q = let is : x ≡ 34 = grind (arith, nat_tests) in rw is refl
letter_from x false true c d e f g p q = let is : x ≡ 92 = grind (arith, nat_tests) in rw is refl
letter_from x false false true d e f g p q = refl
letter_from x false false false true e f g p q = refl
letter_from x false false false false true f g p q = refl
letter_from x false false false false false true g p q = refl
letter_from x false false false false false false true p q = refl
letter_from x false false false false false false false p q = refl

clean_letter : (x : ℕ) → is_clean (escape_letter x) ≡ true
clean_letter x = letter_from x (eqb x 34) (eqb x 92) (eqb x 8) (eqb x 12) (eqb x 10) (eqb x 13) (eqb x 9) refl refl

digit_from : (d : ℕ) (low : Bool) → is_clean (cond low (48 + d) (87 + d)) ≡ true
digit_from d true = let other : eqb (48 + d) 10 ≡ false = grind (arith, nat_tests) in rw other refl
digit_from d false = let other : eqb (87 + d) 10 ≡ false = grind (arith, nat_tests) in rw other refl

byte_from : (x letter : ℕ) (short low : Bool) → is_clean letter ≡ true → nat_lt x 32 ≡ low
    → are_clean (cond short (92 ∷ letter ∷ []) (cond low (92 ∷ 117 ∷ 48 ∷ 48 ∷ digit_char (x / 16) ∷ digit_char (x % 16) ∷ []) (x ∷ []))) ≡ true
byte_from x letter true low clean is = rw clean refl
byte_from x letter false true clean is = rw (digit_from (x / 16) (nat_lt (x / 16) 10), digit_from (x % 16) (nat_lt (x % 16) 10)) refl
byte_from x letter false false clean is = let other : eqb x 10 ≡ false = grind (arith, nat_tests) in rw other refl

clean_byte : (x : ℕ) → are_clean (escape_byte x) ≡ true
unfolding escape_byte
clean_byte x = byte_from x (escape_letter x) (nat_lt 0 (escape_letter x)) (nat_lt x 32) (clean_letter x) refl

clean_escape : (s : List ℕ) → are_clean (escape s) ≡ true
clean_escape [] = refl
clean_escape (x ∷ s) = both_clean (escape_byte x) (escape s) (clean_byte x) (clean_escape s)

clean_quoted : (s : List ℕ) → are_clean (quoted s) ≡ true
clean_quoted s = both_clean (escape s) (34 ∷ []) (clean_escape s) refl

either_clean : (last : Bool) (one other : List ℕ) → are_clean one ≡ true → are_clean other ≡ true → are_clean (cond last one other) ≡ true
either_clean true one other clean all = clean
either_clean false one other clean all = all

digits_clean : (k n : ℕ) (behind : List ℕ) → are_clean behind ≡ true → are_clean (digits_onto k 10 false n behind) ≡ true
digits_clean zero n behind clean = clean
digits_clean (suc k) n behind clean =
    let digit = digit_glyph false (n % 10) in
    let more : are_clean (digit ∷ behind) ≡ true = rw (digit_from (n % 10) (nat_lt (n % 10) 10), clean) refl in
    either_clean (n / 10 == 0) (digit ∷ behind) (digits_onto k 10 false (n / 10) (digit ∷ behind)) more (digits_clean k (n / 10) (digit ∷ behind) more)

clean_decimal : (n : ℕ) → are_clean (decimal n) ≡ true
unfolding digits
clean_decimal n = digits_clean 64 n [] refl

clean_signed : (z : ℤ) → are_clean (signed_decimal z) ≡ true
clean_signed (pos n) = clean_decimal n
clean_signed (negsuc n) = clean_decimal (suc n)

clean_comma : (later : Bool) → are_clean (comma_if later) ≡ true
clean_comma true = refl
clean_comma false = refl

mutual
  -- the text of a tree
  pub clean_text : (tree : Data) → are_clean (compact_text tree) ≡ true
  clean_text null = refl
  clean_text (boolean true) = refl
  clean_text (boolean false) = refl
  clean_text (number (unsigned n)) = clean_decimal n
  clean_text (number (negative z)) = clean_signed z
  clean_text (number (float x)) = refl
  clean_text (string s) = clean_quoted s
  clean_text (array items) = clean_items false items
  clean_text (object members) = clean_members false members

  clean_items : (later : Bool) (items : Items) → are_clean (items_text later items) ≡ true
  clean_items later no_items = refl
  clean_items later (item tree rest) =
      both_clean (comma_if later) (compact_text tree ++ items_text true rest) (clean_comma later)
      (both_clean (compact_text tree) (items_text true rest) (clean_text tree) (clean_items true rest))

  clean_members : (later : Bool) (members : Members) → are_clean (members_text later members) ≡ true
  clean_members later no_members = refl
  clean_members later (member key tree rest) =
      both_clean (comma_if later) (quoted key ++ 58 ∷ (compact_text tree ++ members_text true rest)) (clean_comma later)
      (both_clean (quoted key) (58 ∷ (compact_text tree ++ members_text true rest)) (clean_quoted key)
      (both_clean (compact_text tree) (members_text true rest) (clean_text tree) (clean_members true rest)))

-- the text of a hand
pub hand_clean : (dialect : Dialect) (place : ℕ) (play : Play) → list_all (λ byte. not (byte == 10)) (hand_text dialect place play) ≡ true
hand_clean dialect place play = clean_text (hand_tree dialect place play)
