-- The report so far is on the hands so far.
use Rattle.std.proofs.Common.{take}
use Rattle.printed_hands.specs.SoFar.{IsReportSoFar}
use Rattle.printed_hands.proofs.report.report_text.Given as goal

abbrev pub invariant-loop-play : goal.invariant-loop-play
invariant-loop-play l = IsReportSoFar l.report (take l.play-index l.plays)
