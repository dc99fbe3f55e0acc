use Rattle.std.proofs.Common.{◌≡◌, ℕ, Ok, ◌+◌, ◌<◌, ◌≤◌, ◌∷◌, ◌∙◌, pos, ap, arith, length, take, set, subst, rules, w64}
use mir.Val.{SFits}
use Rattle.std.proofs.lemmas.Int.{to_z-of_z}
use Rattle.std.proofs.lemmas.List.{length-set, take_more_set}
use Rattle.std.proofs.lemmas.Result.{err_from_is_err_and}
use Rattle.acpc_reading.specs.Left.{parts_left}
use Rattle.acpc_reading.specs.Values.{values_said}
use Rattle.card_set.proofs.Entries.{set_each}
use Rattle.acpc_reading.proofs.Rows.{value_read, value_fails, values_done}
use Rattle.acpc_reading.proofs.values.read_values.Goals as goal

pub returns-in_err-value-clause-said : goal.returns-in_err-value-clause-said
returns-in_err-value-clause-said c =
    let l = c.loop-part in
    let p = err_from_is_err_and c.from_residual.result c.from_residual.ensures.1 in
    rw (p.1, p.2) (value_fails (take l.index l.nets) l.place (parts_left 124 l.rest) (values_said c.args.players.number c.args.at c.args.text.now) c.in_err-value.field-0.0 c.in-Some.part.now (parts_left 124 c.in-Some.more) c.in-Some.ensures.parts c.in_err-value.ensures l.invariant.read)

pub loop-part-preserved : goal.loop-part-preserved
loop-part-preserved c =
    let l = c.loop-part in
    let inv = l.invariant in
    let value = c.in_ok-value.value in
    let part = c.in-Some.part.now in
    let parts = parts_left 124 c.in-Some.more in
    let all = parts_left 124 l.rest in
    let cut : all ≡ part ∷ parts = c.in-Some.ensures.parts in
    let within : l.index < length l.nets = omega (arith, inv.ten, inv.count, ap length cut, c.args.players.most) in
    let place : l.place + (length part + 1) ≡ l.place + length part + 1 = omega arith in
    let fits : SFits w64 value = search rules in
    let put_is : c.put.new.nets ≡ set l.nets l.index value = c.put.ensures ∙ ap (set l.nets l.index) (to_z-of_z w64 value fits) in
    rw put_is (record {
      ten = omega (arith, inv.ten, length-set l.nets l.index value);
      zeros = set_each (pos 0) (λ k net. l.index + 1 ≤ k → net ≡ pos 0) l.nets l.index value within (λ k other late. inv.zeros k (omega (arith, late))) (λ late. absurd (omega (arith, late)));
      count = omega (arith, inv.count, ap length cut);
      place_is = omega (arith, inv.place_is, c.in-Some.ensures.len);
      read = rw (take_more_set l.nets l.index value within, place) (value_read (take l.index l.nets) l.place all (values_said c.args.players.number c.args.at c.args.text.now) part parts value cut c.in_ok-value.ensures inv.read);
    })

pub returns-clause-said : goal.returns-clause-said
returns-clause-said c =
    let l = c.loop-part in
    let whole : l.index ≡ c.args.players.number = omega (arith, l.invariant.count, ap length c.in_default.ensures.parts) in
    subst (λ (count : ℕ). values_said c.args.players.number c.args.at c.args.text.now ≡ Ok (take count l.nets)) whole (values_done (take l.index l.nets) l.place (parts_left 124 l.rest) (values_said c.args.players.number c.args.at c.args.text.now) c.in_default.ensures.parts l.invariant.read)
