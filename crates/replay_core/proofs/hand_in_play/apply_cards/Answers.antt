-- What needs nothing of the pasts also serves if something is required of them.
use Rattle.std.proofs.Common.{Result}
use Rattle.chip_ledger.specs.declared.live_row.LiveRow.{LiveRow}
use Rattle.play_event.specs.declared.reason.Due.{Due}
use Rattle.play_event.specs.declared.reason.Illegal.{Illegal}
use Rattle.play_event.specs.declared.setup.Setup.{Setup}
use Rattle.play_event.specs.Past.{Past}
use Rattle.play_event.specs.Said.{Said}
use Rattle.card_places.specs.declared.card_state.CardState.{CardState}
use Rattle.deal_core.specs.Answered.{AsksNothing, IsAnswered}
use Rattle.replay_core.proofs.hand_in_play.apply_cards.Goals as goal

anyway : {t next : CardState} {due : Due} {live : LiveRow} {event : Said} {answer : Result (Unit {0}) Illegal} (asks : Setup → Past → Type 0) → IsAnswered t next due live AsksNothing event answer → IsAnswered t next due live asks event answer
anyway asks answered = record {
  legal = λ rules setup past now asked. answered.legal rules setup past now tt;
  illegal = λ rules setup past now asked. answered.illegal rules setup past now tt;
  stands = answered.stands;
  unchanged = answered.unchanged;
  hand = answered.hand;
}

pub returns-in-Hole : goal.returns-in-Hole
returns-in-Hole g c = anyway _ c.deal.ensures

pub returns-in-Discard : goal.returns-in-Discard
returns-in-Discard g c = anyway _ c.discard.ensures
