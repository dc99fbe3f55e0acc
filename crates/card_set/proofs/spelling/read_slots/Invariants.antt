use Rattle.std.proofs.Common.{◌≡◌, ◌*◌, take}
use Rattle.card_set.specs.Row.{slots_of}
use Rattle.card_set.specs.Spelling.{spelling}
use Rattle.card_set.proofs.spelling.read_slots.Given as goal

-- the pairs so far write the slots so far
abbrev pub invariant-loop-index : goal.invariant-loop-index
invariant-loop-index l = record {
  read : take (2 * l.index) l.bytes ≡ spelling (slots_of l.row);
  counted : l.row.len ≡ l.index;
}
