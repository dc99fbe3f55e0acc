-- The records are those of the document that the bytes are.
use Rattle.std.proofs.Common.{sym, ap, subst}
use Rattle.phh_reading.specs.Reading.{Reads, document_said, reading}
use Rattle.phh_reading.proofs.Documents.{no_document, text_document}
use Rattle.phh_reading.proofs.reading.read.Goals as goal

pub returns-in-Ok-clause-reads : goal.returns-in-Ok-clause-reads
unfolding reading
returns-in-Ok-clause-reads c =
    let same = text_document c.args.bytes.now c.in-Ok.text.now c.in-Ok.ensures.cases.0 c.in-Ok.ensures.cases.1 in
    subst (λ document. Reads c.read_text.result (document_said document)) (sym same) c.read_text.ensures.reads

pub returns-in-Err-clause-reads : goal.returns-in-Err-clause-reads
unfolding reading
returns-in-Err-clause-reads c = ap document_said (no_document c.args.bytes.now c.in-Err.ensures.cases.0)
