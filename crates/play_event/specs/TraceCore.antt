-- What a trace keeps of a hand except the shares of its pots: places and moves, who shows, and the
-- pots.
use Rattle.std.specs.Prelude.{ℕ, List, map, filter}
use Rattle.chip_ledger.specs.Pots.{PlainPot}
use Rattle.play_event.specs.declared.setup.Setup.{Setup}
use Rattle.play_event.specs.Said.{Said}
use Rattle.play_event.specs.Past.{Past, moves_of}
use Rattle.play_event.specs.Seats.{all_seats}
use Rattle.play_event.specs.Stakes.{pots_after, returned_after}
use Rattle.play_event.specs.Scripts.{past_at_end}
use Rattle.play_event.specs.Trace.{TracedMove, TracedPlace, traced_moves, traced_places, is_shown, is_mucked}

-- The places, the moves, the seats that showed and mucked, the pots before the rake, and what is
-- returned to each seat. Shares and finishing stacks are computed from these.
pub record TraceCore : Type 0 where
  pub places : List TracedPlace
  pub moves : List TracedMove
  pub shown : List ℕ
  pub mucked : List ℕ
  pub pots : List PlainPot
  pub returned : List ℕ

-- what the trace keeps of a past
abbrev pub core_of : Setup → Past → TraceCore
core_of setup past =
    record {
      places = traced_places setup past;
      moves = traced_moves setup (moves_of past);
      shown = filter (is_shown setup past) (all_seats setup);
      mucked = filter (is_mucked setup past) (all_seats setup);
      pots = pots_after setup (moves_of past);
      returned = map (returned_after setup (moves_of past)) (all_seats setup);
    }

-- what the trace keeps of a script
abbrev pub core_after : Setup → List Said → TraceCore
core_after setup script = core_of setup (past_at_end setup script)
