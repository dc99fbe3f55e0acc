-- The script so far, and what is still to be written of it, as the definitions see them.
use Rattle.std.specs.Prelude.{List, map}
use Rattle.play_event.specs.declared.event.Event.{Event}
use Rattle.play_event.specs.Said.{numbered}
use Rattle.acpc_reading.specs.declared.pending.Pending.{Pending}
use Rattle.acpc_reading.specs.Cards.{Written}
use Rattle.acpc_reading.specs.Left.{parts_left}

-- the script so far, and what is still to be written
abbrev pub written_by : List Event → Pending → Written
written_by script pending = record {
  events = map numbered script;
  number = pending.number;
  size = pending.size;
  boards = parts_left 47 pending.boards;
}
