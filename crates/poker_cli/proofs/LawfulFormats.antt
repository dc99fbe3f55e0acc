-- What follows for runs from the laws of conversions.
use Rattle.std.proofs.Common.{◌↔◌, ℕ, List, Option, None, Some, IfSome, Ok, inl, inr}
use Rattle.convert_core.proofs.Conversions.{equal_outputs, output_again, same_answers}
use Rattle.convert_core.specs.Answers.{Answers}
use Rattle.convert_core.specs.Conversion.{ReadAsPlays}
use Rattle.convert_core.specs.FormatLaws.{lawful_of}
use Rattle.convert_core.specs.Formats.{AreSameIn, SayRecords, kept_in, meaning_of}
use Rattle.convert_core.specs.SameAnswers.{AreSameAnswers}
use Rattle.convert_core.specs.declared.format.Format.{Format}
use Rattle.hand_canon.specs.SameHands.{AreSameHands, kept_notes}
use Rattle.hand_canon.specs.declared.trace.Play.{Play}
use Rattle.hand_canon.specs.declared.writing.Keep.{Keep}
use Rattle.hand_canon.specs.declared.writing.Keep.TheVariants as keeps
use Rattle.poker_cli.specs.Headline.{ConversionEnds, ConvertsInto}
use Rattle.poker_cli.specs.Run.{Sinks}
use Rattle.poker_cli.specs.RunReports.{report_by}
use Rattle.poker_cli.specs.declared.status.Status.{Status}
use Rattle.poker_cli.specs.declared.status.Status.TheVariants as statuses

-- what is converted into an output
pub converted : (from to : Format) (keep : Keep) (bytes output : List ℕ) → ConvertsInto from to keep bytes output → Answers (meaning_of from) (meaning_of to) keep bytes (Ok output)
converted from to keep bytes output into = record { plays = into.plays; read = into.can.legal; spelled = into.can.spelled; spell = into.spell; back = into.back }

-- what holds of a value that is there, if it follows from what held of it
if_some : {A : Type 0} {P Q : A → Type 0} (o : Option A) → ((a : A) → P a → Q a) → IfSome o P → IfSome o Q
if_some None more is = tt
if_some (Some a) more is = more a is

-- what a run reports is an answer of its conversion
tells : (from to : Format) (keep : Keep) (bytes : List ℕ) (out diag : Sinks) (status : Status) (ends : ConversionEnds from to keep bytes out diag status)
    → IfSome (report_by from to keep bytes out diag status ends) (Answers (meaning_of from) (meaning_of to) keep bytes)
tells from to keep bytes out diag statuses.Done ends = converted from to keep bytes ends.output ends.converts
tells from to keep bytes out diag statuses.WriteFault ends = converted from to keep bytes ends.output ends.converts
tells from to keep bytes out diag statuses.Refused ends = ends.first
tells from to keep bytes out diag statuses.Unspelled ends = ends.first
tells from to keep bytes out diag statuses.BadInput ends = ends.have
tells from to keep bytes out diag statuses.Limit (inl long) = tt
tells from to keep bytes out diag statuses.Limit (inr named) = named.have
tells from to keep bytes out diag status ends = tt

pub equal_runs : (from other to : Format) (keep : Keep) (bytes too output written : List ℕ) (plays others : List Play)
    → ReadAsPlays (SayRecords from bytes) plays → ReadAsPlays (SayRecords other too) others → ConvertsInto from to keep bytes output → ConvertsInto other to keep too written
    → AreSameHands (kept_notes keep (kept_in to)) plays others ↔ AreSameIn to output written
equal_runs from other to keep bytes too output written plays others read read_too into into_too =
    equal_outputs (lawful_of from) (lawful_of other) (lawful_of to) keep bytes too output written plays others read read_too (converted from to keep bytes output into) (converted other to keep too written into_too)

pub runs_again : (from to : Format) (keep again : Keep) (bytes output : List ℕ) → ConvertsInto from to keep bytes output
    → (out diag : Sinks) (status : Status) (ends : ConversionEnds to to again output out diag status)
    → IfSome (report_by to to again output out diag status ends) (AreSameAnswers (AreSameIn to) (Ok output))
runs_again from to keep again bytes output into out diag status ends =
    if_some (report_by to to again output out diag status ends)
    (λ answer. output_again (lawful_of from) (lawful_of to) keep again bytes output answer (converted from to keep bytes output into))
    (tells to to again output out diag status ends)

pub runs_by_way : (from by to : Format) (keep : Keep) (bytes output : List ℕ) → ConvertsInto from by keeps.All bytes output
    → (out diag others by_diag : Sinks) (status other : Status) (straight : ConversionEnds from to keep bytes out diag status) (by_way : ConversionEnds by to keep output others by_diag other)
    → IfSome (report_by from to keep bytes out diag status straight)
    (λ answer. IfSome (report_by by to keep output others by_diag other by_way) (AreSameAnswers (AreSameIn to) answer))
runs_by_way from by to keep bytes output into out diag others by_diag status other straight by_way =
    if_some (report_by from to keep bytes out diag status straight)
    (λ answer is. if_some (report_by by to keep output others by_diag other by_way)
    (λ again it. same_answers (lawful_of from) (lawful_of by) (lawful_of to) keep bytes output (converted from by keeps.All bytes output into) answer again is it)
    (tells by to keep output others by_diag other by_way))
    (tells from to keep bytes out diag status straight)
