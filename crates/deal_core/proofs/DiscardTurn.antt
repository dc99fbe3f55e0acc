-- If a seat may discard, its draw is due, and it has not drawn yet.
use Rattle.std.proofs.Common.{◌≡◌, ℕ, false, List, None, sym, ap, ◌∙◌}
use Rattle.card_set.specs.declared.card.Slot.{Slot}
use Rattle.chip_ledger.specs.declared.live_row.LiveRow.{LiveRow}
use Rattle.play_event.specs.declared.reason.Due.{Due}
use Rattle.play_event.specs.declared.reason.Due.TheVariants as dues
use Rattle.play_event.specs.declared.setup.Setup.{Setup}
use Rattle.play_event.specs.Past.{Past}
use Rattle.play_event.specs.Dealing.{has_drawn}
use Rattle.play_event.specs.Due.{turn}
use Rattle.card_places.specs.declared.card_state.CardState.{CardState}
use Rattle.deal_core.specs.Standing.{IsNow}
use Rattle.card_places.specs.Refusals.{discard_reason}
use Rattle.card_places.proofs.Legal.{drawer_is}
use Rattle.play_laws.proofs.DueStreets.{draw_street}
use Rattle.card_set.proofs.Options.{from_some_none}

pub record IsDrawing (setup : Setup) (past : Past) (due : Due) (seat : ℕ) : Type 0 where
  pub draws : due ≡ dues.Draw (turn setup past).0
  pub undrawn : has_drawn past (turn setup past).0 seat ≡ false

pub discard_turn : (t : CardState) (due : Due) (live : LiveRow) (setup : Setup) (past : Past) (seat : ℕ) (cards : List Slot) → IsNow t due live setup past → discard_reason t live due seat cards ≡ None → IsDrawing setup past due seat
discard_turn t (dues.Draw on) live setup past seat cards now none =
    let drawer = drawer_is t live on seat cards none in
    let same = draw_street setup past on now.due_is in
    record {
      draws = ap dues.Draw same;
      undrawn = ap (λ (s : ℕ). has_drawn past s seat) (sym same) ∙ sym (now.stands.drew on seat (record { first = drawer.first; last = drawer.last })) ∙ drawer.undrawn;
    }
discard_turn t (dues.Deal on) live setup past seat cards now none = from_some_none none
discard_turn t dues.BringIn live setup past seat cards now none = from_some_none none
discard_turn t dues.Move live setup past seat cards now none = from_some_none none
discard_turn t dues.Show live setup past seat cards now none = from_some_none none
discard_turn t dues.Over live setup past seat cards now none = from_some_none none
