use Rattle.std.proofs.Common.{◌≡◌, ℕ, ◌+◌, ◌<◌, ◌≤◌, ◌∙◌, ap, sym, arith, map, take, drop, length, List}
use Rattle.std.proofs.lemmas.List.{length-set, take_more_set}
use Rattle.std.proofs.lemmas.Result.{err_from_is_err_and}
use Rattle.toml.specs.View.{view}
use Rattle.first_fault.specs.Reading.{each_from}
use Rattle.first_fault.proofs.EachItem.{with_front, goes_on, ends, is_done}
use Rattle.hand_canon.specs.AllowedNotes.{IsWithin}
use Rattle.phh_reading.specs.declared.field_fault.FieldKey.TheVariants as keys
use Rattle.phh_reading.specs.Fields.{item_place, number_said}
use Rattle.phh_reading.specs.NoteFields.{numbers_from}
use Rattle.phh_reading.proofs.seating.fill_numbers.Goals as goal
use Rattle.card_set.proofs.Entries.{set_each}

pub returns-in_err-numbers-clause-said : goal.returns-in_err-numbers-clause-said
returns-in_err-numbers-clause-said c =
    let p = err_from_is_err_and c.from_residual.result c.from_residual.ensures.1 in
    rw (p.1, p.2) (ends view (λ n value. number_said 1 255 (item_place keys.Seats n) value) c.in_err-numbers.field-0.0 (take c.loop-index.index c.loop-index.numbers) c.args.players.now.values.now c.loop-index.index c.index-values-index.result (numbers_from (map view c.args.players.now.values.now)) c.loop-index-test.true (sym c.index-values-index.is) c.in_err-numbers.ensures.said c.loop-index.invariant.read)

pub loop-index-preserved : goal.loop-index-preserved
loop-index-preserved c =
    let l = c.loop-index in
    let inv = l.invariant in
    let x = c.in_ok-numbers.field-0 in
    let here : l.index < length l.numbers = omega (arith, inv.ten, c.loop-index-test.true) in
    record {
      ten = omega (arith, inv.ten, length-set l.numbers l.index x);
      each = set_each 0 (λ k number. k < l.index + 1 → IsWithin 1 255 number) l.numbers l.index x here (λ k other late. inv.each k (omega (arith, late, other))) (λ late. c.in_ok-numbers.ensures.within);
      zeros = set_each 0 (λ k number. l.index + 1 ≤ k → number ≡ 0) l.numbers l.index x here (λ k other late. inv.zeros k (omega (arith, late))) (λ late. absurd (omega (arith, late)));
      read =
          ap (λ (front : List ℕ). with_front front (each_from (λ n value. number_said 1 255 (item_place keys.Seats n) value) (l.index + 1 + 1) (map view (drop (l.index + 1) c.args.players.now.values.now)))) (take_more_set l.numbers l.index x here)
          ∙ goes_on view (λ n value. number_said 1 255 (item_place keys.Seats n) value) (take l.index l.numbers) c.args.players.now.values.now l.index c.index-values-index.result x _ c.loop-index-test.true (sym c.index-values-index.is) c.in_ok-numbers.ensures.said inv.read;
    }

pub returns-clause-said : goal.returns-clause-said
returns-clause-said c =
    let whole : c.loop-index.index ≡ length c.args.players.now.values.now = omega arith in
    is_done view (λ n value. number_said 1 255 (item_place keys.Seats n) value) (take (length c.args.players.now.values.now) c.loop-index.numbers) c.args.players.now.values.now c.loop-index.index (numbers_from (map view c.args.players.now.values.now)) c.loop-index-test.false (rw (sym whole) c.loop-index.invariant.read)
