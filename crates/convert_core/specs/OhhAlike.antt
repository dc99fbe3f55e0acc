-- In a dialect, bytes of Open Hand History say only one list of records, up to differences that
-- cannot be observed.
-- This is a proof: no reader needs it.
use Rattle.std.proofs.Common.{◌≡◌, ℕ, List, map, Ok, sym, ◌∙◌}
use Rattle.hand_canon.specs.declared.record.Record.{Record}
use Rattle.hand_canon.specs.PlainHands.{plain}
use Rattle.ohh_members.specs.declared.dialect.Dialect.{Dialect}
use Rattle.convert_core.specs.Ohh.{Say}
use Rattle.convert_core.specs.PlainAlike.{all_alike}
use Rattle.convert_core.specs.SameRecords.{AllAlike}

-- bytes say one list of records
pub one_reading : (dialect : Dialect) (bytes : List ℕ) (records others : List Record)
    → Say dialect bytes records → Say dialect bytes others → AllAlike records others
one_reading dialect bytes records others say too =
    let same : Ok (map plain records) ≡ Ok (map plain others) = sym say.reads ∙ too.reads in
    all_alike records others say.each too.each (cc)
