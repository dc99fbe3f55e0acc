-- Lines before more text.
use Rattle.std.proofs.Common.{◌≡◌, ℕ, zero, suc, ◌+◌, ◌≤◌, true, false, ◌==◌, List, [], ◌∷◌, ◌++◌, length, Some, option_map, option_and_then, refl, ap, inl, inr, arith, eqb-true}
use Rattle.std.proofs.lemmas.Bool.{cases_Bool, false≢true}
use Rattle.std.proofs.lemmas.Bool.Decides.{nat_tests}
use Rattle.std.proofs.lemmas.Option.{none-some, same_Some}
use Rattle.toml_parser.specs.Lexical.{skip_ws, skip_blank}
use Rattle.toml_parser.specs.Strings.{key}
use Rattle.toml.specs.Tables.{Expression, Document, key_value, std_table, array_table, define}
use Rattle.toml.specs.Parse.{after_byte, val, header_key, expression, ends_line, line, lines}
use Rattle.phh_reading.proofs.Ends.{Ends, ends_tail, then_some}
use Rattle.phh_reading.proofs.More.{More, more_none, more_some, more_map, more_then, rests_map}
use Rattle.phh_reading.proofs.Blanks.{skip_ws_more, skip_more}
use Rattle.phh_reading.proofs.MoreStrings.{key_more}
use Rattle.phh_reading.proofs.MoreValues.{byte_more, keyval_more, val_more}

header_key_more : (s r : List ℕ) → Ends s → More r (header_key s) (header_key (s ++ r))
unfolding header_key
header_key_more s r e =
    let ws = skip_ws_more s r e in
    rw ws.1 (more_then r _ _ (key (skip_ws s)) (key (skip_ws s ++ r)) (key_more (skip_ws s) r ws.0) (λ k rest ends read.
    rests_map r k (λ left. left) _ _ (byte_more 93 rest r refl ends) (λ left over. (over, refl))))

-- a header in double brackets
array_header_more : (s r : List ℕ) → Ends s
    → More {A = Expression} r (option_and_then (λ k. option_map (λ rest. ((k.0, array_table), rest)) (after_byte 93 k.1)) (header_key s))
    (option_and_then (λ k. option_map (λ rest. ((k.0, array_table), rest)) (after_byte 93 k.1)) (header_key (s ++ r)))
array_header_more s r e =
    more_then r _ _ (header_key s) (header_key (s ++ r)) (header_key_more s r e) (λ k rest ends read.
    rests_map r (k, array_table) (λ left. left) _ _ (byte_more 93 rest r refl ends) (λ left over. (over, refl)))

pub expression_more : (s r : List ℕ) → Ends s → More r (expression s) (expression (s ++ r))
unfolding expression
expression_more [] r e = absurd (false≢true e)
expression_more (c ∷ []) r e =
    let line : (c == 91) ≡ false = ap (λ b. b == 91) (eqb-true c 10 e) in
    rw line (more_map r (λ p. (p.0, key_value p.1)) _ _ (keyval_more (val 80) (c ∷ []) r (val_more 80 r) e))
expression_more (c ∷ d ∷ cs) r e =
    elim (cases_Bool (c == 91)) [
      | inl bracket ↦ rw bracket (elim (cases_Bool (d == 91)) [
        | inl two ↦
            let no_line : (d == 10) ≡ false = ap (λ b. b == 10) (eqb-true d 91 two) in
            rw two (array_header_more cs r (ends_tail d cs e no_line))
        | inr one ↦ rw one (more_map r (λ k. (k, std_table)) _ _ (header_key_more (d ∷ cs) r e))
      ])
      | inr other ↦ rw other (more_map r (λ p. (p.0, key_value p.1)) _ _ (keyval_more (val 80) (c ∷ d ∷ cs) r (val_more 80 r) e))
    ]

ends_line_more : (s r : List ℕ) → Ends s → ends_line (s ++ r) ≡ ends_line s
ends_line_more [] r e = absurd (false≢true e)
ends_line_more (c ∷ cs) r e =
    let here : (length (c ∷ cs) == 0) ≡ false = grind (arith, nat_tests) in
    let there : (length (c ∷ cs ++ r) == 0) ≡ false = grind (arith, nat_tests) in
    rw (here, there) refl

pub line_more : (s r : List ℕ) → Ends s → More r (line s) (line (s ++ r))
unfolding line
line_more s r e =
    more_then r _ _ (expression s) (expression (s ++ r)) (expression_more s r e) (λ x rest ends read.
    let ws = skip_ws_more rest r ends in
    rw (ws.1, ends_line_more (skip_ws rest) r ws.0) (elim (cases_Bool (ends_line (skip_ws rest))) [
      | inl is ↦ rw is (more_some r x rest ends)
      | inr other ↦ rw other (more_none r _)
    ]))

-- more lines are allowed
pub lines_room : (n m : ℕ) (doc out : Document) (s : List ℕ) → n ≤ m → lines n doc s ≡ Some out → lines m doc s ≡ Some out
unfolding lines
lines_room zero m doc out s h e = absurd (none-some out e)
lines_room (suc n) zero doc out s h e = absurd (omega arith)
lines_room (suc n) (suc m) doc out s h e =
    elim (cases_Bool (length (skip_blank s) == 0)) [
      | inl over ↦ rw over (rw over at e)
      | inr on ↦
          let (x, read, more) = then_some _ (line (skip_blank s)) out (rw on at e) in
          let (next, defined, left) = then_some _ (define doc x.0) out more in
          rw (on, read, defined) (lines_room n m next out x.1 (omega arith) left)
    ]

-- a text that is blank, and what follows it, are read as what follows
pub after_blank : (n : ℕ) (doc out : Document) (s r : List ℕ) → skip_blank s ≡ skip_blank r → lines n doc r ≡ Some out → lines n doc s ≡ Some out
unfolding lines
after_blank zero doc out s r same e = absurd (none-some out e)
after_blank (suc n) doc out s r same e = rw same e

-- the lines of a text, and then those of the text after it
pub lines_more : (n k : ℕ) (doc next out : Document) (s r : List ℕ) → Ends s → lines n doc s ≡ Some next → lines k next r ≡ Some out → lines (n + k) doc (s ++ r) ≡ Some out
unfolding lines
lines_more zero k doc next out s r ends e later = absurd (none-some next e)
lines_more (suc n) k doc next out s r ends e later =
    let count : suc n + k ≡ suc (n + k) = omega arith in
    elim (skip_more true false s r ends) [
      | inl all ↦
          let done : doc ≡ next = same_Some doc next (rw all.0 at e) in
          lines_room k (suc n + k) doc out (s ++ r) (omega arith) (after_blank k doc out (s ++ r) r all.1 (rw done later))
      | inr on ↦
          let some : (length (skip_blank s) == 0) ≡ false = long (skip_blank s) on.0 in
          let longer : (length (skip_blank s ++ r) == 0) ≡ false = long_more (skip_blank s) r on.0 in
          let (x, read, more) = then_some _ (line (skip_blank s)) next (rw some at e) in
          let (step, defined, left) = then_some _ (define doc x.0) next more in
          let after = line_more (skip_blank s) r on.0 x.0 x.1 read in
          rw (count, on.1, longer, after.1, defined) (lines_more n k step next out x.1 r after.0 left later)
    ]
  where
    long : (t : List ℕ) → Ends t → (length t == 0) ≡ false
    long [] e = absurd (false≢true e)
    long (c ∷ cs) e = grind (arith, nat_tests)

    long_more : (t r : List ℕ) → Ends t → (length (t ++ r) == 0) ≡ false
    long_more [] r e = absurd (false≢true e)
    long_more (c ∷ cs) r e = grind (arith, nat_tests)
