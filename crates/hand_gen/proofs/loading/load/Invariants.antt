-- The hands so far are made and counted.
use Rattle.std.proofs.Common.{◌≡◌}
use Rattle.hand_gen.specs.Load.{IsLoadTo}
use Rattle.hand_gen.specs.Loaded.{IsFewIn}
use Rattle.hand_gen.proofs.loading.load.Given as goal

abbrev pub invariant-loop-place : goal.invariant-loop-place
invariant-loop-place l =
    record {
      loaded : IsLoadTo l.seed l.number l.summary;
      few : IsFewIn l.place l.summary;
      counted : l.summary.hands ≡ l.place;
    }
