use Rattle.std.proofs.Common.{◌∷◌, ◌∙◌, [], length, length-append, map, ap, arith}
use Rattle.std.proofs.lemmas.List.{map_push}
use Rattle.ohh_members.specs.Players.{plain_player}
use Rattle.ohh_members.proofs.Round.{sits, all_sit}
use Rattle.ohh_members.proofs.seating.sit.Goals as goal

pub loop-seat-preserved : goal.loop-seat-preserved
loop-seat-preserved c =
    let l = c.loop-seat in
    let next = c.find_next_player-last.result in
    let pushed = c.in_ok-try_push.ensures.items in
    record {
      count = ap length pushed ∙ omega (arith, l.invariant.count, length-append l.found.items (next ∷ []));
      order = rw (pushed, map_push plain_player l.found.items next) (sits (map plain_player c.args.players.now) (map plain_player l.found.items) (plain_player l.last) (plain_player next) (length c.args.players.now) l._seat _ c.loop-seat-test.true c.find_next_player-last.ensures l.invariant.order);
    }

pub returns-clause-order : goal.returns-clause-order
returns-clause-order c = let l = c.loop-seat in all_sit (map plain_player c.args.players.now) (map plain_player l.found.items) (plain_player l.last) (length c.args.players.now) l._seat _ (omega arith) l.invariant.order
