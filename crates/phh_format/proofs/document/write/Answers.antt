use Rattle.std.proofs.Common.{List, ℕ, Some, Err, subst, sym, ap, ◌∙◌, arith, string_bytes, true≢false}
use Rattle.std.proofs.lemmas.Str.{IsUtf8-string_bytes}
use Rattle.toml.specs.Data.{members_depth, members_have_valid_dates}
use Rattle.phh_format.specs.Document.{Spells, document}
use Rattle.phh_format.proofs.Shape.{document_plain}
use Rattle.phh_format.proofs.Spelt.{nothing_spelled}
use Rattle.phh_format.proofs.document.write.Goals as goal

pub returns-then-is_empty-clause-written : goal.returns-then-is_empty-clause-written
returns-then-is_empty-clause-written c =
    subst (λ (bytes : List ℕ). Spells c.args.plays.now bytes) (sym c.new.ensures.items) (nothing_spelled c.args.plays.now (grind arith))

pub returns-in-Ok-clause-written : goal.returns-in-Ok-clause-written
returns-in-Ok-clause-written c =
    let plain = document_plain c.args.plays.now c.requires.sound in
    let written = c.in_ok-table.ensures ∙ ap document c.new-plays.ensures in
    let depth = ap members_depth written in
    let text : Spells c.args.plays.now (string_bytes c.in-Ok.text) =
    record { text = IsUtf8-string_bytes c.in-Ok.text; table = c.in-Ok.ensures.reads_back (omega (arith, depth, plain.shallow)) ∙ ap (λ t. Some t) written } in
    rw c.into_bytes.ensures.value text

pub unreachable-requires : goal.unreachable-requires
unreachable-requires c =
    let plain = document_plain c.args.plays.now c.requires.sound in
    let dates = ap members_have_valid_dates (c.in_ok-table.ensures ∙ ap document c.new-plays.ensures) in
    true≢false (sym plain.dates ∙ sym dates ∙ c.table_to_string.ensures.dates.0 (c.in-Err-DateInvalid.is ∙ ap Err c.in-Err-DateInvalid.field-0-is))
