-- Bytes of a hand history say only one list of records, up to differences that cannot be observed.
-- This is a proof: no reader needs it.
use Rattle.std.proofs.Common.{◌≡◌, ℕ, List, map, Ok, sym, ◌∙◌}
use Rattle.hand_canon.specs.declared.record.Record.{Record}
use Rattle.hand_canon.specs.PlainHands.{plain}
use Rattle.convert_core.specs.Phh.{Say}
use Rattle.convert_core.specs.PlainAlike.{all_alike}
use Rattle.convert_core.specs.SameRecords.{AllAlike}

-- bytes say one list of records
pub one_reading : (bytes : List ℕ) (records others : List Record) → Say bytes records
    → Say bytes others → AllAlike records others
one_reading bytes records others say too =
    let same : Ok (map plain records) ≡ Ok (map plain others) = sym say.reads ∙ too.reads in
    all_alike records others say.each too.each (cc)
