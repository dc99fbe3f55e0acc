use Rattle.std.proofs.Common.{◌≡◌, ℕ, ◌+◌, ◌<◌, ◌≤◌, ◌∙◌, ◌++◌, ap, sym, arith, map, take, drop, length, List, Option, None, IfSome}
use Rattle.std.proofs.lemmas.List.{length-set, take_more_set}
use Rattle.hand_canon.specs.AllowedNotes.{IsName}
use Rattle.ohh_reading.specs.Notes.{names_from}
use Rattle.ohh_members.specs.Players.{plain_player}
use Rattle.ohh_reading.proofs.NamesFrom.{name_read, names_read}
use Rattle.card_set.proofs.Entries.{set_each}
use Rattle.ohh_reading.proofs.notes.names_of.Goals as goal

pub loop-index-preserved : goal.loop-index-preserved
loop-index-preserved c =
    let l = c.loop-index in
    let inv = l.invariant in
    let x = c.in_ok-names.field-0 in
    let here : l.index < length l.names = omega (arith, inv.ten, c.loop-index-test.true) in
    record {
      ten = omega (arith, inv.ten, length-set l.names l.index x);
      each = set_each None (λ k name. k < l.index + 1 → IfSome name (IsName (k + 1))) l.names l.index x here (λ k other late. inv.each k (omega (arith, late, other))) (λ late. c.in_ok-names.ensures.allowed);
      none = set_each None (λ k name. l.index + 1 ≤ k → name ≡ None) l.names l.index x here (λ k other late. inv.none k (omega (arith, late))) (λ late. absurd (omega (arith, late)));
      read =
          ap (λ (front : List (Option (List ℕ))). front ++ names_from (l.index + 1 + 1) (map plain_player (drop (l.index + 1) c.args.seated.now.players.now))) (take_more_set l.names l.index x here)
          ∙ name_read (take l.index l.names) c.args.seated.now.players.now l.index c.index-players-index.result x (names_from 1 (map plain_player c.args.seated.now.players.now)) c.loop-index-test.true (sym c.index-players-index.is) c.in_ok-names.ensures.said inv.read;
    }

pub returns-clause-said : goal.returns-clause-said
returns-clause-said c =
    let whole : c.loop-index.index ≡ length c.args.seated.now.players.now = omega arith in
    names_read (take (length c.args.seated.now.players.now) c.loop-index.names) c.args.seated.now.players.now c.loop-index.index (names_from 1 (map plain_player c.args.seated.now.players.now)) c.loop-index-test.false (rw (sym whole) c.loop-index.invariant.read)
