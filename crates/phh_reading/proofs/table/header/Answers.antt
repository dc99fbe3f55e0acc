-- The digits are a run of ASCII bytes, and end where a character does.
use Rattle.std.proofs.Common.{◌≡◌, ◌∷◌, ap, ◌∙◌, sym, arith, eqb-true, length, take, drop, true}
use Rattle.std.proofs.lemmas.Bool.Decides.{nat_tests}
use Rattle.std.specs.Char.{is_ascii_digit, is_digit}
use Rattle.std.specs.List.{list_all}
use Rattle.toml_parser.proofs.LexicalLemmas.{IsCharBoundary-ascii_run}
use Rattle.std.proofs.lemmas.Bool.{false≢true}
use Rattle.toml_parser.specs.Lexical.{first, starts_newline}
use Rattle.phh_reading.proofs.FirstLines.{header_parts}
use Rattle.phh_reading.proofs.Fronts.{digits_run}
use Rattle.phh_reading.proofs.table.header.Goals as goal
use Rattle.phh_reading.proofs.table.header.Goals.{then-is_empty-via-then-is_empty, then-is_empty-via-else-is_empty+then-first-ne93}

pub split_at-requires : goal.split_at-requires
split_at-requires c =
    let s = c.skip-after.result.now in
    rw c.digits_len.ensures (IsCharBoundary-ascii_run is_ascii_digit s c.skip-after.utf8 (λ byte e. grind (arith, nat_tests)))

pub returns-then-starts_newline-clause-digits : goal.returns-then-starts_newline-clause-digits
returns-then-starts_newline-clause-digits c =
    let s = c.skip-after.result.now in
    ap (list_all (λ sign. is_digit sign 10)) (c.split_at.ensures.front ∙ ap (λ n. take n s) c.digits_len.ensures) ∙ digits_run s

pub returns-then-is_empty-clause-none : goal.returns-then-is_empty-clause-none
returns-then-is_empty-clause-none c _ number rest is =
    let parts = header_parts c.args.text.now number rest is in
    let front : c.split_at.result.0.now ≡ number = c.split_at.ensures.front ∙ rw (c.digits_len.ensures, c.skip-after.ensures.rest) parts.0 in
    let back : c.split_at.result.1.now ≡ 93 ∷ rest = c.split_at.ensures.back ∙ rw (c.digits_len.ensures, c.skip-after.ensures.rest) parts.1 in
    let some = is.some_digit in
    let size = ap length front in
    let next = ap first back in
    elim c.then-is_empty.branch [
      | then-is_empty-via-then-is_empty w ↦
          let none : length c.split_at.result.0.now ≡ 0 = eqb-true (length c.split_at.result.0.now) 0 (sym c.is_empty.ensures ∙ w.if-is_empty.true) in
          omega (arith, none, size, some)
      | then-is_empty-via-else-is_empty+then-first-ne93 w ↦ omega (arith, w.if-first-ne93.true, w.first-else-is_empty.ensures, next)
    ]

pub returns-else-starts_newline-clause-none : goal.returns-else-starts_newline-clause-none
returns-else-starts_newline-clause-none c _ number rest is =
    let parts = header_parts c.args.text.now number rest is in
    let back : c.split_at.result.1.now ≡ 93 ∷ rest = c.split_at.ensures.back ∙ rw (c.digits_len.ensures, c.skip-after.ensures.rest) parts.1 in
    let lines : c.skip-lines.result.now ≡ rest = c.skip-lines.ensures.rest ∙ ap (drop 1) back in
    let newline : starts_newline c.skip-lines.result.now ≡ true = ap starts_newline lines ∙ is.newline in
    false≢true (sym c.if-starts_newline.false ∙ (c.starts_newline.ensures ∙ newline))
