-- Strings and keys before more text.
use Rattle.std.proofs.Common.{◌≡◌, ℕ, zero, suc, ◌<◌, ◌≤◌, Bool, true, false, ◌&&◌, ◌||◌, ◌==◌, nat_lt, nat_le, List, [], ◌∷◌, ◌++◌, length, take, drop, Option, Some, None, option_map, option_and_then, encode_utf8, refl, sym, ap, ◌∙◌, inl, inr, arith, eqb-true, length-append}
use Rattle.std.proofs.lemmas.Bool.{cases_Bool, cases_lt, and_parts, false≢true}
use Rattle.std.proofs.lemmas.Bool.Decides.{nat_tests}
use Rattle.std.proofs.lemmas.List.{drop-append-le, take-append-le}
use Rattle.std.proofs.Math.ListN.{drop_of_length-le}
use Rattle.std.specs.List.{prefix_len, list_all}
use Rattle.std.specs.Char.{is_digit}
use Rattle.std.specs.Str.Parse.{digits_value}
use Rattle.toml_parser.specs.Lexical.{Read, first, skip_ws, skip_lines, split_while, starts_newline, is_bare}
use Rattle.toml_parser.specs.Strings.{simple_escape, hex_len, is_scalar, hex_escape, escape_char, escape, is_plain, at_delims, special, prepend, after_piece, body, trim_newline, one_line, quoted, starts_string, simple_key, key_after, key}
use Rattle.phh_reading.proofs.Ends.{Ends, ends_some, ends_drop, ends_tail, run_more}
use Rattle.phh_reading.proofs.More.{More, MoreOr, more_none, more_some, more_map, more_then, or_none, or_more, or_end, or_map}
use Rattle.phh_reading.proofs.Blanks.{first_more, starts_newline_more, split_more, skip_ws_more, skip_more}

abbrev Any : {A : Type 0} → A → Type 0
Any a = Unit {0}

-- the text from a place, or its end
from_place : {A : Type 0} (P : A → Type 0) (x : A) (n : ℕ) (s r : List ℕ) → P x → Ends s → n ≤ length s → MoreOr P r (Some (x, drop n s)) (Some (x, drop n (s ++ r)))
from_place P x n s r holds e within =
    elim (cases_lt n (length s)) [
      | inl lt ↦ rw (drop-append-le n s r within) (or_more P r _ _ (more_some r x (drop n s) (ends_drop n s e lt)))
      | inr past ↦ rw (drop_of_length-le s past) (or_end P r x _ holds)
    ]

pub simple_more : (o : Option ℕ) (cs r : List ℕ) → Ends cs → More r (option_map (λ c. (c, cs)) o) (option_map (λ c. (c, cs ++ r)) o)
simple_more None cs r e = more_none r _
simple_more (Some c) cs r e = more_some r c cs e

pub hex_more : (n : ℕ) (s r : List ℕ) → Ends s → MoreOr Any r (hex_escape n s) (hex_escape n (s ++ r))
unfolding hex_escape
hex_more n s r e =
    elim (cases_lt (length s) n) [
      | inl short ↦
          let no : nat_le n (length s) ≡ false = grind (arith, nat_tests) in
          rw no (or_none Any r _)
      | inr within ↦
          let here : nat_le n (length s) ≡ true = grind (arith, nat_tests) in
          let room : nat_le n (length (s ++ r)) ≡ true = grind (arith, nat_tests, length-append s r) in
          rw (here, room, take-append-le n s r within) (elim (cases_Bool (list_all (λ c. is_digit c 16) (take n s) && is_scalar (digits_value 16 (take n s)))) [
            | inl fits ↦ rw fits (from_place Any (digits_value 16 (take n s)) n s r tt e within)
            | inr other ↦ rw other (or_none Any r _)
          ])
    ]

escape_char_more : (s r : List ℕ) → Ends s → MoreOr Any r (escape_char s) (escape_char (s ++ r))
unfolding escape_char
escape_char_more [] r e = absurd (false≢true e)
escape_char_more (c ∷ cs) r e =
    elim (cases_Bool (nat_lt 0 (hex_len c))) [
      | inl hex ↦
          let other : (c == 10) ≡ false = grind (arith, nat_tests) in
          rw hex (hex_more (hex_len c) cs r (ends_tail c cs e other))
      | inr simple ↦ rw simple (elim (cases_Bool (c == 10)) [
        | inl is ↦ let same = eqb-true c 10 is in rw same (or_none Any r _)
        | inr other ↦ or_more Any r _ _ (simple_more (simple_escape c) cs r (ends_tail c cs e other))
      ])
    ]

pub escape_more : (multi : Bool) (s r : List ℕ) → Ends s → MoreOr Any r (escape multi s) (escape multi (s ++ r))
unfolding escape
escape_more multi s r e =
    let ws = skip_ws_more s r e in
    let line = starts_newline_more (skip_ws s) r ws.0 in
    rw (ws.1, line) (elim (cases_Bool (multi && starts_newline (skip_ws s))) [
      | inl cut ↦ rw cut (elim (skip_more false false s r e) [
        | inl all ↦ rw all.0 (or_end Any r [] _ tt)
        | inr on ↦ rw on.1 (or_more Any r _ _ (more_some r [] (skip_lines s) on.0))
      ])
      | inr other ↦ rw other (or_map Any Any r encode_utf8 _ _ (λ a h. tt) (escape_char_more s r e))
    ])

-- a piece, and not the end of the string
abbrev Goes : Option (List ℕ) → Type 0
Goes None = ⊥
Goes (Some bytes) = Unit {0}

delims_more : (delim : ℕ) (s r : List ℕ) → Ends s → (delim == 10) ≡ false → first s ≡ delim → More r (at_delims delim s) (at_delims delim (s ++ r))
delims_more delim s r e no_line here =
    let other : (10 == delim) ≡ false = grind (arith, nat_tests) in
    let run = run_more (λ c. c == delim) s r other e in
    let long : 1 < length s = delim_long delim s e no_line here in
    let count = prefix_len (λ c. c == delim) s in
    rw run.0 (elim (cases_Bool (count == 3)) [
      | inl three ↦
          let is = eqb-true count 3 three in
          let room : 3 < length s = omega (arith, run.1, is) in
          rw (three, drop-append-le 3 s r (omega arith)) (more_some r None (drop 3 s) (ends_drop 3 s e room))
      | inr text ↦ rw text (elim (cases_Bool (nat_lt count 6)) [
        | inl few ↦ rw (few, drop-append-le 1 s r (omega arith)) (more_some r (Some (delim ∷ [])) (drop 1 s) (ends_drop 1 s e long))
        | inr many ↦ rw many (more_none r _)
      ])
    ])
  where
    delim_long : (delim : ℕ) (s : List ℕ) → Ends s → (delim == 10) ≡ false → first s ≡ delim → 1 < length s
    delim_long delim [] e no_line here = absurd (false≢true e)
    delim_long delim (c ∷ cs) e no_line here =
        omega (arith, ends_some cs (ends_tail c cs e (ap (λ byte. byte == 10) here ∙ no_line)))

special_at : (delim : ℕ) (multi : Bool) (s r : List ℕ) → Ends s → (delim == 10) ≡ false → (first s == delim) ≡ true → More r (special delim multi s) (special delim multi (s ++ r))
unfolding special
special_at delim true s r e no_line is = rw (first_more s r e, is) (delims_more delim s r e no_line (eqb-true (first s) delim is))
special_at delim false [] r e no_line is = absurd (false≢true e)
special_at delim false (c ∷ cs) r e no_line is =
    let other : (c == 10) ≡ false = ap (λ byte. byte == 10) (eqb-true c delim is) ∙ no_line in
    rw is (more_some r None cs (ends_tail c cs e other))

-- a line feed in a string on several lines
special_line : (delim : ℕ) (multi : Bool) (c : ℕ) (cs r : List ℕ) → Ends (c ∷ cs) → (c == delim) ≡ false → (c == 92) ≡ false → MoreOr Goes r (special delim multi (c ∷ cs)) (special delim multi (c ∷ cs ++ r))
unfolding special
special_line delim multi c [] r e other plain =
    rw (other, plain) (elim (cases_Bool (multi && starts_newline (c ∷ []))) [
      | inl line ↦ rw line (or_end Goes r (Some (c ∷ [])) _ tt)
      | inr none ↦ rw none (or_none Goes r _)
    ])
special_line delim multi c (d ∷ cs) r e other plain =
    rw (other, plain) (elim (cases_Bool (multi && starts_newline (c ∷ d ∷ cs))) [
      | inl line ↦ rw line (or_more Goes r _ _ (more_some r (Some (c ∷ [])) (d ∷ cs) e))
      | inr none ↦ rw none (or_none Goes r _)
    ])

special_escape : (delim : ℕ) (multi : Bool) (c : ℕ) (cs r : List ℕ) → Ends (c ∷ cs) → (c == delim) ≡ false → (c == 92) ≡ true → MoreOr Goes r (special delim multi (c ∷ cs)) (special delim multi (c ∷ cs ++ r))
unfolding special
special_escape delim multi c cs r e other is =
    let no_line : (c == 10) ≡ false = ap (λ byte. byte == 10) (eqb-true c 92 is) in
    rw (other, is) (or_map Any Goes r Some _ _ (λ a h. tt) (escape_more multi cs r (ends_tail c cs e no_line)))

special_more : (delim : ℕ) (multi : Bool) (s r : List ℕ) → Ends s → (delim == 10) ≡ false → MoreOr Goes r (special delim multi s) (special delim multi (s ++ r))
special_more delim multi [] r e no_line = absurd (false≢true e)
special_more delim multi (c ∷ cs) r e no_line =
    elim (cases_Bool (c == delim)) [
      | inl is ↦ or_more Goes r _ _ (special_at delim multi (c ∷ cs) r e no_line is)
      | inr other ↦ elim (cases_Bool (c == 92)) [
        | inl is ↦ special_escape delim multi c cs r e other is
        | inr plain ↦ special_line delim multi c cs r e other plain
      ]
    ]

-- the end of the text is in no string
body_nil : (delim : ℕ) (multi : Bool) (n : ℕ) → (delim == 0) ≡ false → body delim multi n [] ≡ None
unfolding body special
body_nil delim multi zero some = refl
body_nil delim multi (suc n) some =
    let other : (0 == delim) ≡ false = grind (arith, nat_tests) in
    rw other (grind (arith, nat_tests))

prepend_more : (r front : List ℕ) (x u : Read (List ℕ)) → More r x u → More r (prepend front x) (prepend front u)
prepend_more r front x u more = more_map r (λ bytes. front ++ bytes) x u more

piece_more : (r : List ℕ) (before after : List ℕ → Read (List ℕ)) (piece : Option (List ℕ)) (rest : List ℕ) → Ends rest → More r (before rest) (after (rest ++ r))
    → More r (after_piece before piece rest) (after_piece after piece (rest ++ r))
piece_more r before after None rest e more = more_some r [] rest e
piece_more r before after (Some bytes) rest e more = prepend_more r bytes _ _ more

-- at the end of the text there is nothing more of a string
piece_over : (delim : ℕ) (multi : Bool) (n : ℕ) (r : List ℕ) (piece : Option (List ℕ)) (after : Read (List ℕ)) → (delim == 0) ≡ false → Goes piece → More r (after_piece (body delim multi n) piece []) after
piece_over delim multi n r None after some h = absurd h
piece_over delim multi n r (Some bytes) after some h = rw (body_nil delim multi n some) (more_none r after)

abbrev BodyMore : ℕ → Bool → ℕ → ℕ → List ℕ → Type 0
BodyMore delim multi n m r = (s : List ℕ) → Ends s → More r (body delim multi n s) (body delim multi m (s ++ r))

plain_more : (delim : ℕ) (multi : Bool) (n m : ℕ) (c : ℕ) (cs r : List ℕ) → Ends (c ∷ cs) → (delim == 0) ≡ false → BodyMore delim multi n m r
    → More r (body delim multi n cs) (body delim multi m (cs ++ r))
plain_more delim multi n m c [] r e some next = rw (body_nil delim multi n some) (more_none r _)
plain_more delim multi n m c (d ∷ ds) r e some next = next (d ∷ ds) e

special_then : (delim : ℕ) (multi : Bool) (n m : ℕ) (r : List ℕ) (x u : Read (Option (List ℕ))) → (delim == 0) ≡ false → BodyMore delim multi n m r → MoreOr Goes r x u
    → More r (option_and_then (λ p. after_piece (body delim multi n) p.0 p.1) x) (option_and_then (λ p. after_piece (body delim multi m) p.0 p.1) u)
special_then delim multi n m r None u some next more = more_none r _
special_then delim multi n m r (Some p) u some next more =
    elim (more p.0 p.1 refl) [
      | inl over ↦ rw over.1 (piece_over delim multi n r p.0 _ some over.0)
      | inr on ↦ rw on.1 (piece_more r (body delim multi n) (body delim multi m) p.0 p.1 on.0 (next p.1 on.0))
    ]

pub body_more : (delim : ℕ) (multi : Bool) (n m : ℕ) (r : List ℕ) → n ≤ m → (delim == 10) ≡ false → (delim == 0) ≡ false → BodyMore delim multi n m r
unfolding body
body_more delim multi zero m r h no_line some s e = more_none r _
body_more delim multi (suc n) zero r h no_line some s e = absurd (omega arith)
body_more delim multi (suc n) (suc m) r h no_line some [] e = absurd (false≢true e)
body_more delim multi (suc n) (suc m) r h no_line some (c ∷ cs) e =
    let next : BodyMore delim multi n m r = body_more delim multi n m r (omega arith) no_line some in
    elim (cases_Bool (is_plain delim multi c)) [
      | inl plain ↦ rw plain (prepend_more r (c ∷ []) _ _ (plain_more delim multi n m c cs r e some next))
      | inr other ↦ rw other (special_then delim multi n m r (special delim multi (c ∷ cs)) (special delim multi (c ∷ cs ++ r)) some next (special_more delim multi (c ∷ cs) r e no_line))
    ]

-- the delimiter of a string
starts_delim : (c : ℕ) → ((c == 34) || (c == 39)) ≡ true → ((c == 10) ≡ false) × ((c == 0) ≡ false)
starts_delim c is = (grind (arith, nat_tests), grind (arith, nat_tests))

pub starts_string_more : (s r : List ℕ) → Ends s → starts_string (s ++ r) ≡ starts_string s
starts_string_more s r e = rw (first_more s r e) refl

pub one_line_more : (s r : List ℕ) → Ends s → starts_string s ≡ true → More r (one_line s) (one_line (s ++ r))
unfolding one_line
one_line_more [] r e is = absurd (false≢true e)
one_line_more (c ∷ cs) r e is =
    let other = starts_delim c is in
    body_more c false (length (c ∷ cs)) (length (c ∷ cs ++ r)) r (omega (arith, length-append cs r)) other.0 other.1 cs (ends_tail c cs e other.0)

-- the rest of a string on several lines, without a line feed right at its front
trimmed_more : (delim : ℕ) (n m : ℕ) (s r : List ℕ) → n ≤ m → Ends s → (delim == 10) ≡ false → (delim == 0) ≡ false
    → More r (body delim true n (trim_newline s)) (body delim true m (trim_newline (s ++ r)))
trimmed_more delim n m [] r h e no_line some = absurd (false≢true e)
trimmed_more delim n m (c ∷ []) r h e no_line some = rw (e, body_nil delim true n some) (more_none r _)
trimmed_more delim n m (c ∷ d ∷ cs) r h e no_line some =
    elim (cases_Bool (c == 10)) [
      | inl line ↦ rw line (body_more delim true n m r h no_line some (d ∷ cs) e)
      | inr other ↦ rw other (elim (cases_Bool ((c == 13) && (d == 10))) [
        | inl line ↦ rw line (plain_more delim true n m d cs r e some (body_more delim true n m r h no_line some))
        | inr text ↦ rw text (body_more delim true n m r h no_line some (c ∷ d ∷ cs) e)
      ])
    ]

pub quoted_more : (s r : List ℕ) → Ends s → starts_string s ≡ true → More r (quoted s) (quoted (s ++ r))
unfolding quoted
quoted_more [] r e is = absurd (false≢true e)
quoted_more (c ∷ []) r e is =
    let other = starts_delim c is in
    absurd (false≢true (sym other.0 ∙ e))
quoted_more (c ∷ d ∷ []) r e is =
    let other = starts_delim c is in
    let line : d ≡ 10 = eqb-true d 10 e in
    let apart : (10 == c) ≡ false = grind (arith, nat_tests) in
    rw (line, apart) (one_line_more (c ∷ 10 ∷ []) r refl is)
quoted_more (c ∷ d ∷ b ∷ cs) r e is =
    let other = starts_delim c is in
    elim (cases_Bool ((d == c) && (b == c))) [
      | inl three ↦
          let b_is : b ≡ c = eqb-true b c (and_parts (d == c) (b == c) three).1 in
          let no_line : (b == 10) ≡ false = ap (λ byte. byte == 10) b_is ∙ other.0 in
          rw three (trimmed_more c (length (c ∷ d ∷ b ∷ cs)) (length (c ∷ d ∷ b ∷ cs ++ r)) cs r (omega (arith, length-append cs r)) (ends_tail b cs e no_line) other.0 other.1)
      | inr one ↦ rw one (one_line_more (c ∷ d ∷ b ∷ cs) r e is)
    ]

pub simple_key_more : (s r : List ℕ) → Ends s → More r (simple_key s) (simple_key (s ++ r))
unfolding simple_key
simple_key_more s r e =
    rw (starts_string_more s r e, first_more s r e) (elim (cases_Bool (starts_string s)) [
      | inl is ↦ rw is (one_line_more s r e is)
      | inr other ↦ rw other (elim (cases_Bool (is_bare (first s))) [
        | inl bare ↦
            let parts = split_more is_bare s r refl e in
            rw (bare, parts.0) (more_some r (split_while is_bare s).0 (split_while is_bare s).1 parts.1)
        | inr none ↦ rw none (more_none r _)
      ])
    ])

after_dot : (s r : List ℕ) → Ends s → (first s == 46) ≡ true → Ends (skip_ws (drop 1 s)) × (skip_ws (drop 1 (s ++ r)) ≡ skip_ws (drop 1 s) ++ r)
after_dot [] r e dot = absurd (false≢true e)
after_dot (c ∷ cs) r e dot = skip_ws_more cs r (ends_tail c cs e (ap (λ byte. byte == 10) (eqb-true c 46 dot)))

pub key_after_more : (n : ℕ) (path : List (List ℕ)) (s r : List ℕ) → Ends s → More r (key_after n path s) (key_after n path (s ++ r))
unfolding key_after
key_after_more zero path s r e = more_none r _
key_after_more (suc n) path s r e =
    more_then r _ _ (simple_key s) (simple_key (s ++ r)) (simple_key_more s r e) (λ part rest ends read.
    let ws = skip_ws_more rest r ends in
    rw (ws.1, first_more (skip_ws rest) r ws.0) (elim (cases_Bool (first (skip_ws rest) == 46)) [
      | inl dot ↦
          let after = after_dot (skip_ws rest) r ws.0 dot in
          rw (dot, after.1) (key_after_more n (path ++ part ∷ []) (skip_ws (drop 1 (skip_ws rest))) r after.0)
      | inr last ↦ rw last (more_some r (path, part) (skip_ws rest) ws.0)
    ]))

pub key_more : (s r : List ℕ) → Ends s → More r (key s) (key (s ++ r))
key_more s r e = key_after_more 80 [] s r e
