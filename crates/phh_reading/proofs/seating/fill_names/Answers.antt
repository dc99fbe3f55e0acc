use Rattle.std.proofs.Common.{◌≡◌, ℕ, ◌+◌, ◌<◌, ◌≤◌, ◌∙◌, ap, sym, arith, map, take, drop, length, List, Option, None, IfSome}
use Rattle.std.proofs.lemmas.List.{length-set, take_more_set}
use Rattle.std.proofs.lemmas.Result.{err_from_is_err_and}
use Rattle.toml.specs.View.{view}
use Rattle.first_fault.specs.Reading.{each_from}
use Rattle.first_fault.proofs.EachItem.{with_front, goes_on, ends, is_done}
use Rattle.hand_canon.specs.AllowedNotes.{IsName}
use Rattle.phh_reading.specs.declared.field_fault.FieldKey.TheVariants as keys
use Rattle.phh_reading.specs.Fields.{item_place}
use Rattle.phh_reading.specs.NoteFields.{names_from, text_note_said}
use Rattle.phh_reading.proofs.seating.fill_names.Goals as goal
use Rattle.card_set.proofs.Entries.{set_each}
use Rattle.chip_ledger.specs.SeatsSaid.{default_name}

pub returns-in_err-names-clause-said : goal.returns-in_err-names-clause-said
returns-in_err-names-clause-said c =
    let p = err_from_is_err_and c.from_residual.result c.from_residual.ensures.1 in
    rw (p.1, p.2) (ends view (λ n value. text_note_said (default_name n) (item_place keys.Players n) value) c.in_err-names.field-0.0 (take c.loop-index.index c.loop-index.names) c.args.players.now.values.now c.loop-index.index c.index-values-index.result (names_from (map view c.args.players.now.values.now)) c.loop-index-test.true (sym c.index-values-index.is) c.in_err-names.ensures.said c.loop-index.invariant.read)

pub loop-index-preserved : goal.loop-index-preserved
loop-index-preserved c =
    let l = c.loop-index in
    let inv = l.invariant in
    let x = c.in_ok-names.field-0 in
    let here : l.index < length l.names = omega (arith, inv.ten, c.loop-index-test.true) in
    record {
      ten = omega (arith, inv.ten, length-set l.names l.index x);
      each = set_each None (λ k name. k < l.index + 1 → IfSome name (IsName (k + 1))) l.names l.index x here (λ k other late. inv.each k (omega (arith, late, other))) (λ late. c.in_ok-names.ensures.allowed);
      none = set_each None (λ k name. l.index + 1 ≤ k → name ≡ None) l.names l.index x here (λ k other late. inv.none k (omega (arith, late))) (λ late. absurd (omega (arith, late)));
      read =
          ap (λ (front : List (Option (List ℕ))). with_front front (each_from (λ n value. text_note_said (default_name n) (item_place keys.Players n) value) (l.index + 1 + 1) (map view (drop (l.index + 1) c.args.players.now.values.now)))) (take_more_set l.names l.index x here)
          ∙ goes_on view (λ n value. text_note_said (default_name n) (item_place keys.Players n) value) (take l.index l.names) c.args.players.now.values.now l.index c.index-values-index.result x _ c.loop-index-test.true (sym c.index-values-index.is) c.in_ok-names.ensures.said inv.read;
    }

pub returns-clause-said : goal.returns-clause-said
returns-clause-said c =
    let whole : c.loop-index.index ≡ length c.args.players.now.values.now = omega arith in
    is_done view (λ n value. text_note_said (default_name n) (item_place keys.Players n) value) (take (length c.args.players.now.values.now) c.loop-index.names) c.args.players.now.values.now c.loop-index.index (names_from (map view c.args.players.now.values.now)) c.loop-index-test.false (rw (sym whole) c.loop-index.invariant.read)
