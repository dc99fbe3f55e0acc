use Rattle.std.proofs.Common.{◌≡◌, ◌++◌}
use Rattle.std.specs.List.{flat_map}
use Rattle.chip_ledger.specs.Seat.{seats_of}
use Rattle.play_event.specs.SeatSlots.{slots_of_hand}
use Rattle.play_event.specs.CanonScript.{deal_said}
use Rattle.hand_canon.specs.SaidSoFar.{words_of}
use Rattle.hand_canon.proofs.canonical.write_deals.Given as goal

-- the deals to the seats so far are written
abbrev pub invariant-loop-index : goal.invariant-loop-index
invariant-loop-index l = words_of l.written ≡ words_of l.fn.written ++ flat_map (λ seat. deal_said seat (slots_of_hand l.hands seat)) (seats_of l.index)
