-- Values before more text.
use Rattle.std.proofs.Common.{◌≡◌, ℕ, zero, suc, ◌+◌, ◌<◌, ◌≤◌, true, false, ◌==◌, List, [], ◌∷◌, ◌++◌, length, get_or, slice_index, take, drop, Option, Some, None, option_map, option_and_then, if◌then◌else◌, refl, ap, ◌∙◌, inl, inr, arith, eqb-true, length-append}
use Rattle.std.proofs.lemmas.Bool.{cases_Bool, false≢true}
use Rattle.std.proofs.lemmas.Bool.Decides.{nat_tests}
use Rattle.std.proofs.lemmas.List.{drop-append-le, take-append-le, get_or_append_left}
use Rattle.std.specs.List.{prefix_len}
use Rattle.std.specs.Char.{is_ascii_digit}
use Rattle.toml_parser.specs.Lexical.{Read, first, is_word, skip_ws, skip_blank}
use Rattle.toml_parser.specs.Strings.{key, starts_string, simple_key, key_after}
use Rattle.toml_parser.specs.Numbers.{word_len, word_value, unquoted}
use Rattle.toml.specs.Data.{Data, string, array, table, Items, no_items, push_item}
use Rattle.toml.specs.Tables.{Nodes, no_nodes, close, put}
use Rattle.toml.specs.Parse.{after_byte, after_element, key_equals, keyval, items, members, scalar_data, atom, val}
use Rattle.phh_reading.proofs.Ends.{Ends, ends_drop, ends_tail, ends_next, run_more}
use Rattle.phh_reading.proofs.More.{More, Rests, more_none, more_some, more_map, more_then, rests_then, rests_map, rests_some, rests_none}
use Rattle.phh_reading.proofs.Blanks.{first_more, skip_ws_more, skip_more}
use Rattle.phh_reading.proofs.MoreStrings.{starts_string_more, quoted_more, key_more}

-- the byte at a place in the text
at_more : (s r : List ℕ) (i : ℕ) → i < length s → slice_index (s ++ r) i ≡ slice_index s i
at_more s r i h = get_or_append_left s r 0 i h

pub word_len_more : (s r : List ℕ) → Ends s → (word_len (s ++ r) ≡ word_len s) × (word_len s < length s)
unfolding word_len
word_len_more s r e =
    let run = run_more is_word s r refl e in
    let len = prefix_len is_word s in
    rw (run.0, at_more s r len run.1) (elim (cases_Bool (slice_index s len == 32)) [
      | inl space ↦
          let here = eqb-true (slice_index s len) 32 space in
          let no_line : (get_or s len 0 == 10) ≡ false = ap (λ byte. byte == 10) here in
          let room : len + 1 < length s = ends_next len s e run.1 no_line in
          let ends = ends_drop (len + 1) s e room in
          let next = run_more is_word (drop (len + 1) s) r refl ends in
          let left = length_drop (len + 1) s room in
          rw (space, at_more s r (len + 1) room, drop-append-le (len + 1) s r (omega arith), next.0) (elim (cases_Bool (is_ascii_digit (slice_index s (len + 1)))) [
            | inl digit ↦ rw digit (refl, omega (arith, next.1, left))
            | inr other ↦ rw other (refl, run.1)
          ])
      | inr other ↦ rw other (refl, run.1)
    ])
  where
    length_drop : (n : ℕ) (s : List ℕ) → n < length s → length (drop n s) + n ≡ length s
    length_drop zero s h = omega arith
    length_drop (suc n) [] h = absurd (omega arith)
    length_drop (suc n) (c ∷ cs) h = omega (arith, length_drop n cs (omega arith))

pub unquoted_more : (s r : List ℕ) → Ends s → More r (unquoted s) (unquoted (s ++ r))
unfolding unquoted
unquoted_more s r e =
    let len = word_len_more s r e in
    let within : word_len s ≤ length s = omega (arith, len.1) in
    rw (len.0, take-append-le (word_len s) s r within, drop-append-le (word_len s) s r within) (elim (cases_Bool (word_len s == 0)) [
      | inl none ↦ rw none (more_none r _)
      | inr some ↦ rw some (word_more (word_value (take (word_len s) s)) (drop (word_len s) s) r (ends_drop (word_len s) s e len.1))
    ])
  where
    word_more : {A : Type 0} (o : Option A) (left r : List ℕ) → Ends left → More r (option_map (λ d. (d, left)) o) (option_map (λ d. (d, left ++ r)) o)
    word_more None left r e = more_none r _
    word_more (Some d) left r e = more_some r d left e

pub atom_more : (s r : List ℕ) → Ends s → More r (atom s) (atom (s ++ r))
unfolding atom
atom_more s r e =
    rw (starts_string_more s r e) (elim (cases_Bool (starts_string s)) [
      | inl is ↦ rw is (more_map r string _ _ (quoted_more s r e is))
      | inr other ↦ rw other (more_map r scalar_data _ _ (unquoted_more s r e))
    ])

-- nothing is read at the end of the text
atom_nil : atom [] ≡ None
unfolding atom unquoted word_len
atom_nil = refl

val_nil : (depth : ℕ) → val depth [] ≡ None
unfolding val
val_nil zero = atom_nil
val_nil (suc depth) = atom_nil

key_equals_nil : key_equals [] ≡ None
unfolding key_equals key_after simple_key
key_equals_nil = refl

-- after a byte that is no line feed
pub byte_more : (byte : ℕ) (s r : List ℕ) → (byte == 10) ≡ false → Ends s → Rests r (after_byte byte s) (after_byte byte (s ++ r))
byte_more byte [] r no_line e = absurd (false≢true e)
byte_more byte (c ∷ cs) r no_line e =
    elim (cases_Bool (c == byte)) [
      | inl is ↦ rw is (rests_some r cs (ends_tail c cs e (ap (λ b. b == 10) (eqb-true c byte is) ∙ no_line)))
      | inr other ↦ rw other (rests_none r _)
    ]

pub key_equals_more : (s r : List ℕ) → Ends s → More r (key_equals s) (key_equals (s ++ r))
unfolding key_equals
key_equals_more s r e =
    more_then r _ _ (key s) (key (s ++ r)) (key_more s r e) (λ k rest ends read.
    rests_map r k skip_ws _ _ (byte_more 61 rest r refl ends) (λ left over. skip_ws_more left r over))

-- after an element, at its comma or its bracket
abbrev at_element : ℕ → List ℕ → Option (List ℕ)
at_element closing t = if first t == 44 then Some (drop 1 t) else if first t == closing then Some t else None

at_element_more : (closing : ℕ) (t r : List ℕ) → Ends t → Rests r (at_element closing t) (at_element closing (t ++ r))
at_element_more closing [] r e = absurd (false≢true e)
at_element_more closing (c ∷ cs) r e =
    elim (cases_Bool (c == 44)) [
      | inl comma ↦ rw comma (rests_some r cs (ends_tail c cs e (ap (λ b. b == 10) (eqb-true c 44 comma))))
      | inr other ↦ rw other (elim (cases_Bool (c == closing)) [
        | inl end ↦ rw end (rests_some r (c ∷ cs) e)
        | inr none ↦ rw none (rests_none r _)
      ])
    ]

element_more : (closing : ℕ) (s r : List ℕ) → (closing == 0) ≡ false → Ends s → Rests r (after_element closing s) (after_element closing (s ++ r))
unfolding after_element
element_more closing s r some e =
    elim (skip_more true false s r e) [
      | inl all ↦
          let none : (0 == closing) ≡ false = grind (arith, nat_tests) in
          rw (all.0, none) (rests_none r _)
      | inr on ↦ rw on.1 (at_element_more closing (skip_blank s) r on.0)
    ]

-- a reader of values that reads the same before more text, and nothing at the end of the text
abbrev ValueMore : (List ℕ → Read Data) → List ℕ → Type 0
ValueMore value r = (value [] ≡ None) × ((s : List ℕ) → Ends s → More r (value s) (value (s ++ r)))

-- after a byte that is no line feed, which is at the front
pub after_mark : (mark : ℕ) (s r : List ℕ) → (mark == 10) ≡ false → Ends s → (first s == mark) ≡ true → Ends (drop 1 s) × (drop 1 (s ++ r) ≡ drop 1 s ++ r)
after_mark mark [] r no_line e is = absurd (false≢true e)
after_mark mark (c ∷ cs) r no_line e is = (ends_tail c cs e (ap (λ b. b == 10) (eqb-true c mark is) ∙ no_line), refl)

pub keyval_more : (value : List ℕ → Read Data) (s r : List ℕ) → ValueMore value r → Ends s → More r (keyval value s) (keyval value (s ++ r))
keyval_more value s r values e =
    more_then r _ _ (key_equals s) (key_equals (s ++ r)) (key_equals_more s r e) (λ k rest ends read.
    more_map r (λ d. (k, d)) _ _ (values.1 rest ends))

put_more : {A B : Type 0} (o : Option A) (f g : A → Read B) (r : List ℕ) → ((a : A) → More r (f a) (g a)) → More r (option_and_then f o) (option_and_then g o)
put_more None f g r more = more_none r _
put_more (Some a) f g r more = more a

items_more : (value : List ℕ → Read Data) (n m : ℕ) (found : Items) (s r : List ℕ) → ValueMore value r → n ≤ m → Ends s → More r (items value n found s) (items value m found (s ++ r))
unfolding items
items_more value zero m found s r values h e = more_none r _
items_more value (suc n) zero found s r values h e = absurd (omega arith)
items_more value (suc n) (suc m) found s r values h e =
    elim (skip_more true false s r e) [
      | inl all ↦ rw (all.0, values.0) (more_none r _)
      | inr on ↦ rw (on.1, first_more (skip_blank s) r on.0) (elim (cases_Bool (first (skip_blank s) == 93)) [
        | inl end ↦
            let after = after_mark 93 (skip_blank s) r refl on.0 end in
            rw (end, after.1) (more_some r found (drop 1 (skip_blank s)) after.0)
        | inr other ↦ rw other (more_then r _ _ (value (skip_blank s)) (value (skip_blank s ++ r)) (values.1 (skip_blank s) on.0) (λ d rest ends read.
            rests_then r _ _ _ _ (element_more 93 rest r refl ends) (λ left over. items_more value n m (push_item found d) left r values (omega arith) over)))
      ])
    ]

members_more : (value : List ℕ → Read Data) (n m : ℕ) (found : Nodes) (s r : List ℕ) → ValueMore value r → n ≤ m → Ends s → More r (members value n found s) (members value m found (s ++ r))
unfolding members
members_more value zero m found s r values h e = more_none r _
members_more value (suc n) zero found s r values h e = absurd (omega arith)
members_more value (suc n) (suc m) found s r values h e =
    elim (skip_more true false s r e) [
      | inl all ↦ rw (all.0, key_equals_nil) (more_none r _)
      | inr on ↦ rw (on.1, first_more (skip_blank s) r on.0) (elim (cases_Bool (first (skip_blank s) == 125)) [
        | inl end ↦
            let after = after_mark 125 (skip_blank s) r refl on.0 end in
            rw (end, after.1) (more_some r (close found) (drop 1 (skip_blank s)) after.0)
        | inr other ↦ rw other (more_then r _ _ (keyval value (skip_blank s)) (keyval value (skip_blank s ++ r)) (keyval_more value (skip_blank s) r values on.0) (λ pair rest ends read.
            put_more (put pair.0 pair.1 found) _ _ r (λ more. rests_then r _ _ _ _ (element_more 125 rest r refl ends) (λ left over. members_more value n m more left r values (omega arith) over))))
      ])
    ]

pub val_more : (depth : ℕ) (r : List ℕ) → ValueMore (val depth) r
unfolding val
val_more zero r = (val_nil zero, λ s e. atom_more s r e)
val_more (suc depth) r = (
  val_nil (suc depth),
  λ s e.
      rw (first_more s r e) (elim (cases_Bool (first s == 91)) [
        | inl bracket ↦
            let after = after_mark 91 s r refl e bracket in
            rw (bracket, after.1) (more_map r array _ _ (items_more (val depth) (length s) (length (s ++ r)) no_items (drop 1 s) r (val_more depth r) (omega (arith, length-append s r)) after.0))
        | inr other ↦ rw other (elim (cases_Bool (first s == 123)) [
          | inl bracket ↦
              let after = after_mark 123 s r refl e bracket in
              rw (bracket, after.1) (more_map r table _ _ (members_more (val depth) (length s) (length (s ++ r)) no_nodes (drop 1 s) r (val_more depth r) (omega (arith, length-append s r)) after.0))
          | inr plain ↦ rw plain (atom_more s r e)
        ])
      ]),
)
