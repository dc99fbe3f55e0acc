use Rattle.std.proofs.Common.{sym, ◌∙◌, arith}
use Rattle.card_set.specs.Row.{slots_of}
use Rattle.phh_actions.proofs.CardLaws.{slots_read, bad_slots}
use Rattle.phh_actions.proofs.parts.read_slots.Goals as goal

pub returns-in_default : goal.returns-in_default
returns-in_default c = sym (bad_slots c.args.most c.args.word.now c.in_default.field-0 (omega arith) c.in_default.ensures.fault)

pub returns : goal.returns
returns c = c.keep_within.ensures ∙ sym (slots_read c.args.most c.args.word.now (slots_of c.in-Ok.slots) c.in-Ok.ensures.read)
