-- Whether bytes are a document depends on whether they are text, and on what the text reads as.
use Rattle.std.proofs.Common.{◌≡◌, ℕ, List, None, sym, ap, ◌∙◌, if◌then◌else◌}
use Rattle.std.specs.Str.{IsUtf8}
use Rattle.card_set.proofs.Bytes.{is_text, is_no_text}
use Rattle.toml.specs.Parse.{parse_document}
use Rattle.phh_reading.specs.Reading.{document_of}

-- bytes that are text are the document that the text reads as
pub text_document : (bytes text : List ℕ) → text ≡ bytes → IsUtf8 bytes → document_of bytes ≡ parse_document text
text_document bytes text same utf8 =
    ap (λ b. if b then parse_document bytes else None) (is_text bytes utf8) ∙ ap parse_document (sym same)

-- bytes that are not text have no document
pub no_document : (bytes : List ℕ) → (IsUtf8 bytes → ⊥) → document_of bytes ≡ None
no_document bytes none = ap (λ b. if b then parse_document bytes else None) (is_no_text bytes none)
