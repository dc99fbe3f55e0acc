-- That the program ran over its devices. What is said here is shut: no other file can open it, so a
-- contract that promises it is met only by a call of `end_with`, the run of the program on its
-- words.
use Rattle.std.specs.Prelude.{◌≡◌, ℕ}
use Rattle.host_io.specs.StdSink.{inner_writer}
use Rattle.host_io.specs.StdSource.{inner_reader}
use Rattle.host_io.specs.declared.std_sink.StdSink.{StdSink}
use Rattle.host_io.specs.declared.std_source.StdSource.{StdSource}
use Rattle.poker_cli.specs.Status.{status_number}
use Rattle.poker_cli.specs.declared.status.Status.{Status}

-- The program ran: it began with this source, this sink and this sink for its line, left them as
-- `read`, `written` and `heard`, and ended with this status.
pub HasRun : {S K D : Type 0} → (source read : S) (sink written : K) (line heard : D) → Status
    → Type 0
HasRun {S} {K} {D} source read sink written line heard status = Unit {0}

-- for the end of a run alone: no other file may cite it
pub a_run_ended : {S K D : Type 0} → (source read : S) (sink written : K) (line heard : D)
    (status : Status) → HasRun source read sink written line heard status
unfolding HasRun
a_run_ended source read sink written line heard status = tt

-- A process with these streams ended with this number: it is that of the status of a run over these
-- very streams.
pub record RunsOver {R W D : Type 0} (input : R) (out : W) (diag : D) (number : ℕ) : Type 0 where
  pub status : Status
  pub number_is : number ≡ status_number status
  pub source : StdSource R
  pub read : StdSource R
  pub sink : StdSink W
  pub written : StdSink W
  pub line : StdSink D
  pub heard : StdSink D
  pub reads : inner_reader source ≡ input
  pub writes : inner_writer sink ≡ out
  pub prints : inner_writer line ≡ diag
  pub ran : HasRun source read sink written line heard status
