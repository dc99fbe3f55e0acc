-- The lines and what follows them are the text after the header.
use Rattle.std.proofs.Common.{◌≡◌, ℕ, ◌∷◌, ◌++◌, List, length, sym, ap, ◌∙◌, refl, inl, inr, ⊎_elim, arith}
use Rattle.std.proofs.lemmas.List.{take-append-drop}
use Rattle.toml.specs.Parse.{parse_document}
use Rattle.phh_reading.specs.Tables.{ends_line_feed}
use Rattle.phh_reading.proofs.FirstLines.{newline_more, one_lines, one_number, plain_front, bracket_next}
use Rattle.phh_reading.proofs.Fronts.{front_whole, front_newline}
use Rattle.phh_reading.proofs.table.first_table.Goals as goal

pub returns-in-Some-2-clause-found : goal.returns-in-Some-2-clause-found
returns-in-Some-2-clause-found c =
    let front = c.split_at.ensures.front in
    let back = c.split_at.ensures.back in
    let n = c.lines_len.result in
    let rest = c.in-Some.rest.now in (
      c.split_at.result.0.now,
      record {
        table = record {
          text_is = c.in-Some.ensures.text ∙ ap (λ (t : List ℕ). 91 ∷ (c.in-Some.number.now ++ 93 ∷ t)) (sym (rw (front, back) (take-append-drop n rest)));
          some_digit = c.in-Some.ensures.some;
          digits = c.in-Some.ensures.digits;
          newline = rw front (front_newline n rest c.lines_len.ensures.line c.in-Some.ensures.line);
          whole = ⊎_elim (λ none. inl (back ∙ none)) (λ ends. inr (ap ends_line_feed front ∙ ends)) (front_whole n rest c.lines_len.ensures.line);
          read = rw c.in-Some-2.is at c.in_ok-table.ensures.read;
          plain = rw c.in-Some-2.is at c.in_ok-table.ensures.plain;
        };
        one = rw front (plain_front n rest c.lines_len.ensures.first);
        ends = rw back (bracket_next n rest c.lines_len.ensures.within c.lines_len.ensures.bracket);
        few = rw c.in-Some-2.is at c.in_ok-table.ensures.few;
      },
    )

pub returns-in-None-clause-none : goal.returns-in-None-clause-none
returns-in-None-clause-none c _ number lines next others is =
    let n = c.lines_len.result in
    let rest = c.in-Some.rest.now in
    let rest_is : rest ≡ lines ++ next = one_number c.in-Some.number.now number rest (lines ++ next) c.in-Some.ensures.digits is.table.digits (after_bracket _ _ (sym c.in-Some.ensures.text ∙ is.table.text_is)) in
    let same : c.split_at.result.0.now ≡ lines = c.split_at.ensures.front ∙ one_lines n rest lines next rest_is c.lines_len.ensures.within c.lines_len.ensures.bracket c.lines_len.ensures.line c.lines_len.ensures.first is.one is.ends is.table.whole in
    c.in_ok-table.ensures.none c.in-None.is (omega (arith, is.few, ap length same)) others (ap parse_document same ∙ is.table.read) is.table.plain
  where
    after_bracket : (s t : List ℕ) → 91 ∷ s ≡ 91 ∷ t → s ≡ t
    after_bracket s t same = cc

pub returns-in_default-clause-none : goal.returns-in_default-clause-none
returns-in_default-clause-none c _ number lines next others is =
    c.in_default.ensures.none refl number (lines ++ next) (record { text_is = is.table.text_is; some_digit = is.table.some_digit; digits = is.table.digits; newline = newline_more lines next is.table.newline })
