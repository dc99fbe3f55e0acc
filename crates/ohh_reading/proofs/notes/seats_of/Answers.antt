use Rattle.std.proofs.Common.{◌≡◌, ◌+◌, ◌<◌, ◌≤◌, sym, arith, length}
use Rattle.std.proofs.lemmas.List.{length-set}
use Rattle.hand_canon.specs.AllowedNotes.{IsWithin}
use Rattle.ohh_members.specs.Players.{plain_player}
use Rattle.card_set.proofs.Entries.{set_each, all_taken, one_more_taken}
use Rattle.ohh_reading.proofs.notes.seats_of.Goals as goal

pub loop-index-preserved : goal.loop-index-preserved
loop-index-preserved c =
    let l = c.loop-index in
    let inv = l.invariant in
    let p = c.index-players-index.result in
    let here : l.index < length l.seats = omega (arith, inv.ten, c.loop-index-test.true) in
    record {
      ten = omega (arith, inv.ten, length-set l.seats l.index p.seat);
      each = set_each 0 (λ k seat. k < l.index + 1 → IsWithin 1 255 seat) l.seats l.index p.seat here (λ k other late. inv.each k (omega (arith, late, other))) (λ late. (p.first_seat, p.last_seat));
      zeros = set_each 0 (λ k seat. l.index + 1 ≤ k → seat ≡ 0) l.seats l.index p.seat here (λ k other late. inv.zeros k (omega (arith, late))) (λ late. absurd (omega (arith, late)));
      read = one_more_taken plain_player (λ player. player.seat) l.seats c.args.seated.now.players.now l.index p here c.loop-index-test.true (sym c.index-players-index.is) inv.read;
    }

pub returns-clause-said : goal.returns-clause-said
returns-clause-said c = all_taken plain_player (λ player. player.seat) c.loop-index.seats c.args.seated.now.players.now c.loop-index.index (omega arith) c.loop-index.invariant.read
