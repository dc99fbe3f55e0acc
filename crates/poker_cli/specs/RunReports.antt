-- What the run of a conversion says about the hands.
use Rattle.std.specs.Prelude.{◌⊎◌, ℕ, List, Option, Some, None, Result, Ok, Err}
use Rattle.std.proofs.Common.{inl, inr}
use Rattle.convert_core.specs.declared.convert_fault.ConvertFault.{ConvertFault}
use Rattle.convert_core.specs.declared.convert_fault.ConvertFault.TheVariants as faults
use Rattle.hand_canon.specs.declared.writing.Keep.{Keep}
use Rattle.poker_cli.specs.Headline.{ConversionEnds, IsTooLong, NamesFault}
use Rattle.poker_cli.specs.Run.{Sinks}
use Rattle.poker_cli.specs.declared.status.Status.{Status}
use Rattle.poker_cli.specs.declared.status.Status.TheVariants as statuses
use Rattle.convert_core.specs.declared.format.Format.{Format}

-- the fault of an input, except that an input that is too long says nothing about its hands
abbrev pub limit_report : (from : Format) (bytes : List ℕ) (out diag : Sinks)
    → IsTooLong bytes out diag ⊎ NamesFault from bytes out diag statuses.Limit
    → Option (Result (List ℕ) ConvertFault)
limit_report from bytes out diag (inl long) = None
limit_report from bytes out diag (inr named) = Some (Err (faults.Format named.fault))

-- What a run says about the hands: the output, which may be written in part, or why there is none.
-- A device that failed says nothing, nor does running out of memory, nor an input that is too long.
abbrev pub report_by : (from to : Format) (keep : Keep) (bytes : List ℕ) (out diag : Sinks)
    (status : Status) → ConversionEnds from to keep bytes out diag status
    → Option (Result (List ℕ) ConvertFault)
report_by from to keep bytes out diag statuses.Done ends = Some (Ok ends.output)
report_by from to keep bytes out diag statuses.WriteFault ends = Some (Ok ends.output)
report_by from to keep bytes out diag statuses.Refused ends =
    Some (Err (faults.Refused ends.number ends.why))
report_by from to keep bytes out diag statuses.Unspelled ends =
    Some (Err (faults.Unspelled ends.number ends.fact))
report_by from to keep bytes out diag statuses.BadInput ends =
    Some (Err (faults.Format ends.fault))
report_by from to keep bytes out diag statuses.Limit ends = limit_report from bytes out diag ends
report_by from to keep bytes out diag status ends = None
