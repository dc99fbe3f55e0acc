-- The seats so far are tallied.
use Rattle.std.proofs.Common.{◌≡◌, ◌+◌, ◌-◌, ◌*◌, map}
use Rattle.std.specs.List.{range_with_len}
use Rattle.play_event.specs.Seats.{all_seats}
use Rattle.printed_hands.specs.Report.{seated_in}
use Rattle.printed_hands.specs.Tallies.{AreTallied, AreWithin, named_tallies, with_seats}
use Rattle.printed_hands.proofs.report.OpenReport.add_play.Given as goal

-- the seats that are left complete the hand, and the sums are as they were
abbrev pub invariant-loop-index : goal.invariant-loop-index
invariant-loop-index l = record {
  rows : with_seats l.number (named_tallies l.self.tallies.entries) (map (seated_in l.play) (range_with_len (l.index + 1) (l.play.trace.setup.stacks.seats - l.index)))
      ≡ with_seats l.number (named_tallies l.fn.self.tallies.entries) (map (seated_in l.play) (all_seats l.play.trace.setup));
  within : AreWithin ((l.number - 1) * 10 + l.index) (named_tallies l.self.tallies.entries);
  tallied : AreTallied l.self.places l.self.tallies.entries;
  sums : l.self.sums.items ≡ l.fn.self.sums.items;
}
