-- Few events are few of each kind.
use Rattle.std.proofs.Common.{not, arith}
use Rattle.std.proofs.lemmas.List.{length-map}
use Rattle.std.proofs.lemmas.List.Sums.{count_by-le-length}
use Rattle.play_event.specs.PlayedScript.{is_move_event}
use Rattle.play_event.specs.Said.{Said, said_of}
use Rattle.replay_core.specs.Events.{said_by}
use Rattle.hand_table.proofs.hands.is_short.Goals as goal

pub returns : goal.returns
returns c = λ short.
    let script = c.args.script.now in
    let few = c.is_few.ensures short in
    record {
      moves = omega (arith, few, c.len.ensures, length-map script said_of, count_by-le-length is_move_event (said_by script));
      others = omega (arith, few, c.len.ensures, length-map script said_of, count_by-le-length (λ (event : Said). not (is_move_event event)) (said_by script));
    }
