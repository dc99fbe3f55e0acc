use Rattle.std.proofs.Common.{◌≡◌}
use Rattle.std.specs.List.{list_any}
use Rattle.chip_ledger.specs.Seat.{seats_of}
use Rattle.card_places.specs.Refusals as why
use Rattle.card_places.proofs.card_state.CardState.some_lacks.Given as goal

abbrev pub invariant-loop-index : goal.invariant-loop-index
invariant-loop-index l = l.any ≡ list_any (why.is_owed_deal_in l.self l.live l.on) (seats_of l.index)
