use Rattle.std.proofs.Common.{◌≡◌, ℕ, Ok, ◌+◌, ◌-◌, ◌<◌, ◌≤◌, ◌∷◌, None, IfSome, slice_index_or, ap, subst, arith, length, take}
use Rattle.std.proofs.lemmas.List.{length-set, take_more_set}
use Rattle.std.proofs.lemmas.Result.{err_from_is_err_and}
use Rattle.hand_canon.specs.AllowedNotes.{IsName}
use Rattle.acpc_reading.specs.Left.{parts_left}
use Rattle.acpc_reading.specs.Names.{names_said}
use Rattle.card_set.proofs.Entries.{set_each}
use Rattle.acpc_reading.proofs.Rows.{name_read, name_fails, names_done}
use Rattle.acpc_reading.proofs.names.read_names.Goals as goal

pub returns-in_err-name-clause-said : goal.returns-in_err-name-clause-said
returns-in_err-name-clause-said c =
    let l = c.loop-part in
    let p = err_from_is_err_and c.from_residual.result c.from_residual.ensures.1 in
    rw (p.1, p.2) (name_fails (take l.index l.names) (l.index + 1) l.place (parts_left 124 l.rest) (names_said c.args.players.number c.args.at c.args.text.now) c.in_err-name.field-0.0 c.in-Some.part.now (parts_left 124 c.in-Some.more) c.in-Some.ensures.parts c.in_err-name.ensures.said l.invariant.read)

pub loop-part-preserved : goal.loop-part-preserved
loop-part-preserved c =
    let l = c.loop-part in
    let inv = l.invariant in
    let name = c.in_ok-name.name in
    let part = c.in-Some.part.now in
    let parts = parts_left 124 c.in-Some.more in
    let all = parts_left 124 l.rest in
    let cut : all ≡ part ∷ parts = c.in-Some.ensures.parts in
    let within : l.index < length l.names = omega (arith, inv.ten, inv.count, ap length cut, c.args.players.most) in
    let place : l.place + (length part + 1) ≡ l.place + length part + 1 = omega arith in
    record {
      ten = omega (arith, inv.ten, length-set l.names l.index name);
      each = set_each None (λ k name. k < l.index + 1 → IfSome name (IsName (k + 1))) l.names l.index name within (λ k other late. inv.each k (omega (arith, late, other))) (λ late. c.in_ok-name.ensures.allowed);
      none = set_each None (λ k name. l.index + 1 ≤ k → name ≡ None) l.names l.index name within (λ k other late. inv.none k (omega (arith, late))) (λ late. absurd (omega (arith, late)));
      count = omega (arith, inv.count, ap length cut);
      place_is = omega (arith, inv.place_is, c.in-Some.ensures.len);
      read = rw (take_more_set l.names l.index name within, place) (name_read (take l.index l.names) (l.index + 1) l.place all (names_said c.args.players.number c.args.at c.args.text.now) part parts name cut c.in_ok-name.ensures.said inv.read);
    }

pub returns-clause-said : goal.returns-clause-said
returns-clause-said c =
    let l = c.loop-part in
    let whole : l.index ≡ c.args.players.number = omega (arith, l.invariant.count, ap length c.in_default.ensures.parts) in
    subst (λ (count : ℕ). names_said c.args.players.number c.args.at c.args.text.now ≡ Ok (take count l.names)) whole (names_done (take l.index l.names) (l.index + 1) l.place (parts_left 124 l.rest) (names_said c.args.players.number c.args.at c.args.text.now) c.in_default.ensures.parts l.invariant.read)

pub returns-clause-each : goal.returns-clause-each
returns-clause-each c seat first last =
    let l = c.loop-part in
    let within : seat - 1 < l.index = omega (arith, l.invariant.count, ap length c.in_default.ensures.parts, first, last) in
    let same : seat - 1 + 1 ≡ seat = omega (arith, first) in
    subst (λ n. IfSome (slice_index_or l.names (seat - 1) None) (IsName n)) same (l.invariant.each (seat - 1) within)
