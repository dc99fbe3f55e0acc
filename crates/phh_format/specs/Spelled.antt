-- Which plays the format can write, and the first play that it cannot.
use Rattle.std.specs.Prelude.{if◌then◌else◌, Option, Some, None}
use Rattle.std.specs.List.{list_any}
use Rattle.hand_canon.specs.declared.trace.Play.{Play}
use Rattle.hand_canon.specs.declared.writing.Unspelled.{Unspelled}
use Rattle.hand_canon.specs.declared.writing.Unspelled.TheVariants as facts

-- The fact of a play that cannot be written: the format lets a player raise again only after a full
-- raise, so a raise that is closed under that rule cannot be written. Every other fact can, and
-- every note.
unfoldable pub unspelled : Play → Option Unspelled
unspelled play =
    if list_any (λ move. move.closed) play.trace.moves then Some facts.ReopenedShort else None
