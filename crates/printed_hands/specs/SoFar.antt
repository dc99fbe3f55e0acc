-- A report on the hands so far.
use Rattle.std.specs.Prelude.{◌≡◌, ◌*◌, List, [], length, map}
use Rattle.std.specs.List.{AllByRecursion}
use Rattle.hand_canon.specs.declared.trace.Play.{Play}
use Rattle.printed_hands.specs.Games.{AreFewSums, all_wanted, sums_of}
use Rattle.printed_hands.specs.Report.{hand_of}
use Rattle.printed_hands.specs.Tallies.{AreTallied, AreWithin, named_tallies, with_hands}
use Rattle.printed_hands.specs.declared.report.OpenReport.{OpenReport}

-- the report in progress has the tallies and the sums of these plays
pub record IsReportSoFar (report : OpenReport) (plays : List Play) : Type 0 where
  pub tallied : AreTallied report.places report.tallies.entries
  pub rows : named_tallies report.tallies.entries ≡ with_hands 1 [] (map hand_of plays)
  pub within : AreWithin (length plays * 10) (named_tallies report.tallies.entries)
  pub sums : report.sums.items ≡ map (sums_of (map hand_of plays)) all_wanted
  pub few : AllByRecursion (AreFewSums (length plays)) report.sums.items
  pub hands : report.hands ≡ length plays
