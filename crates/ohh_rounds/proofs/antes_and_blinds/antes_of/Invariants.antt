use Rattle.std.proofs.Common.{◌≡◌, ◌≤◌, ℕ, List}
use Rattle.chip_ledger.specs.SeatRow.{amount_of}
use Rattle.ohh_rounds.specs.Posts.{AreFirst, PlainPost}
use Rattle.ohh_rounds.specs.AntesAndBlinds.{held_ante}
use Rattle.ohh_rounds.specs.NamedBlinds.{plain_named_blinds}
use Rattle.ohh_rounds.proofs.antes_and_blinds.antes_of.Given as goal

-- the seats so far have their antes
abbrev pub invariant-loop-index : goal.invariant-loop-index
invariant-loop-index l = record {
  seats : l.row.seats ≡ l.table.stacks.seats;
  antes : (posts : List PlainPost) → AreFirst posts l.firsts → (seat : ℕ) → 1 ≤ seat → seat ≤ l.index → amount_of l.row seat ≡ held_ante (plain_named_blinds l.table) posts seat;
  most : (seat : ℕ) → 1 ≤ seat → amount_of l.row seat ≤ amount_of l.table.stacks seat;
}
