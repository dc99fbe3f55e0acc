use Rattle.std.proofs.Common.{◌≡◌, map}
use Rattle.serde_json.specs.View.{view}
use Rattle.card_set.specs.Row.{slots_of}
use Rattle.first_fault.proofs.EachItem.{with_front}
use Rattle.ohh_members.specs.Paths.{card_path}
use Rattle.ohh_members.specs.Values.{slot_said, slots_from}
use Rattle.ohh_members.proofs.EachIndex.{items_left}
use Rattle.ohh_members.proofs.values.read_slots.Given as goal

-- the cards so far and those of the values that are left are all of them
abbrev pub invariant-loop-index : goal.invariant-loop-index
invariant-loop-index l = record {
  len : l.row.len ≡ l.index;
  read : with_front (slots_of l.row) (items_left view (λ index. slot_said (card_path l.path index)) l.index l.values) ≡ slots_from l.path (map view l.values);
}
