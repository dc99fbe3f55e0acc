use Rattle.std.proofs.Common.{◌≡◌, map}
use Rattle.chip_ledger.specs.Seat.{seats_of}
use Rattle.play_event.specs.Said.{numbered}
use Rattle.ohh_rounds.specs.Play.{hole_deal}
use Rattle.ohh_rounds.specs.Steps.{plain_step}
use Rattle.ohh_rounds.proofs.play.hole_deals.Given as goal

-- the seats so far are dealt their cards
abbrev pub invariant-loop-index : goal.invariant-loop-index
invariant-loop-index l = map numbered l.script ≡ map (hole_deal l.seen.setting.hole_cards (map plain_step l.seen.steps.items)) (seats_of l.index)
