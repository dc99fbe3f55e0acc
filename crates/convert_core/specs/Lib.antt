-- What records are replayed to, what a notation is, what a conversion results in, and when two
-- conversions have the same answer.
pub mod Judged
pub mod Faults
pub mod FaultText
pub mod Records
pub mod SoundOnce
pub mod Meaning
pub mod Lawful
pub mod ReadBack
pub mod ReadOrFail
pub mod Readings
pub mod OneReading
pub mod NoteParts
pub mod SameRecords
pub mod SameParts
pub mod PlainAlike
pub mod Conversion
pub mod Verdicts
pub mod Taking
pub mod Answers
pub mod SameAnswers
pub mod Lines
pub mod Phh
pub mod PhhAlike
pub mod UnderRules
pub mod PhhLaws
pub mod PhhReads
pub mod Ohh
pub mod OhhAlike
pub mod OhhLaws
pub mod OhhReads
pub mod Acpc
pub mod AcpcAlike
pub mod AcpcLaws
pub mod AcpcFaultLines
pub mod AcpcReads
pub mod KeptParts
pub mod PlainFacts
pub mod Formats
pub mod FormatLaws
-- Passed on to the crates above.
pub use Rattle.acpc_format.specs.KeptNotes as AcpcKeptNotes
pub use Rattle.ohh_format.specs.KeptNotes as OhhKeptNotes
pub use Rattle.phh_format.specs.KeptNotes as PhhKeptNotes
pub use Rattle.phh_format.specs.SameTables as PhhSameTables
