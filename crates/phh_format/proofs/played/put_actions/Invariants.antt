use Rattle.std.proofs.Common.{◌≡◌, ◌++◌, length, map, true}
use Rattle.std.specs.List.{list_all}
use Rattle.toml.specs.Data.{string}
use Rattle.toml.specs.View.{view}
use Rattle.play_event.specs.Said.{said_of}
use Rattle.phh_actions.specs.Written.{event_text, has_words}
use Rattle.phh_format.proofs.played.put_actions.Given as goal

-- the texts of the events that are left complete the list, and each of these events has words
abbrev pub invariant-loop-event : goal.invariant-loop-event
invariant-loop-event l = record {
  texts : map view l.values.items ++ map string (map event_text (map said_of l.cursor)) ≡ map string (map event_text (map said_of l.script));
  words : list_all has_words (map said_of l.cursor) ≡ true;
}

abbrev pub decreases-loop-event : goal.decreases-loop-event
decreases-loop-event l = length l.cursor
