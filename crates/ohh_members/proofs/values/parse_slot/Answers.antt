use Rattle.std.proofs.Common.{sym, ap, subst, ◌∙◌}
use Rattle.ohh_members.specs.Values.{one_slot}
use Rattle.card_set.specs.Row.{slots_of}
use Rattle.card_set.specs.Spelling.{HasFault}
use Rattle.ohh_members.proofs.Cards.{slot_read, bad_slot}
use Rattle.ohh_members.proofs.values.parse_slot.Goals as goal

pub returns-in-Ok : goal.returns-in-Ok
returns-in-Ok c = c.only.ensures ∙ ap one_slot c.as_slice.ensures ∙ sym (slot_read c.args.text.now (slots_of c.in-Ok.row) (sym c.as_bytes.ensures.value ∙ c.in-Ok.ensures.read))

pub returns-in-Err : goal.returns-in-Err
returns-in-Err c = sym (bad_slot c.args.text.now c.in-Err.field-0 (subst (λ text. HasFault text c.in-Err.field-0) c.as_bytes.ensures.value c.in-Err.ensures.fault))
