-- After a deal the state stands for the past with it.
use Rattle.std.proofs.Common.{◌≡◌, ℕ, Some, None, List, ◌∷◌, ap, subst, ◌∙◌}
use Rattle.card_set.specs.declared.card.Card.{Card}
use Rattle.card_set.specs.declared.card.Slot.{Slot}
use Rattle.card_set.specs.Known.{known_slots}
use Rattle.chip_ledger.specs.declared.live_row.LiveRow.{LiveRow}
use Rattle.chip_ledger.specs.LiveRow.{flag_of}
use Rattle.play_event.specs.declared.setup.Setup.{Setup}
use Rattle.play_event.specs.Said as said
use Rattle.play_event.specs.Past.{Past, Dealt, Boarded}
use Rattle.play_event.specs.Due.{turn}
use Rattle.play_event.specs.Places.{after_deal}
use Rattle.play_event.specs.Scripts.{with_event}
use Rattle.card_places.specs.declared.card_state.CardState.{CardState}
use Rattle.card_places.specs.declared.draws.Draws.{Draws}
use Rattle.card_places.specs.Drawn.{has_drawn_at, named_at}
use Rattle.card_places.specs.Dealt.{IsDealt}
use Rattle.deal_core.proofs.Same.{back, same_places}
use Rattle.deal_core.specs.Standing.{StandsFor}

stands_hole : (t next : CardState) (past : Past) (on seat : ℕ) (cards : List Slot) → StandsFor t past → IsDealt t next (Some seat) on cards → StandsFor next (Dealt on seat cards ∷ past)
stands_hole t next past on seat cards stands dealt = record {
  places = dealt.places ∙ ap (after_deal t.table.code (Some seat) on cards) stands.places ∙ same_places t next (Dealt on seat cards ∷ past) dealt.table;
  drew = λ street n in_hand. ap (λ (d : Draws). has_drawn_at d street n) dealt.draws ∙ stands.drew street n (back t next n dealt.seats in_hand);
  named = λ street n in_hand. ap (λ (d : Draws). named_at d street n) dealt.draws ∙ stands.named street n (back t next n dealt.seats in_hand);
  shown = λ n in_hand. ap (λ (r : LiveRow). flag_of r n) dealt.shown ∙ stands.shown n (back t next n dealt.seats in_hand);
  mucked = λ n in_hand. ap (λ (r : LiveRow). flag_of r n) dealt.mucked ∙ stands.mucked n (back t next n dealt.seats in_hand);
}

stands_board : (t next : CardState) (past : Past) (on : ℕ) (cards : List Card) → StandsFor t past → IsDealt t next None on (known_slots cards) → StandsFor next (Boarded on cards ∷ past)
stands_board t next past on cards stands dealt = record {
  places = dealt.places ∙ ap (after_deal t.table.code None on (known_slots cards)) stands.places ∙ same_places t next (Boarded on cards ∷ past) dealt.table;
  drew = λ street n in_hand. ap (λ (d : Draws). has_drawn_at d street n) dealt.draws ∙ stands.drew street n (back t next n dealt.seats in_hand);
  named = λ street n in_hand. ap (λ (d : Draws). named_at d street n) dealt.draws ∙ stands.named street n (back t next n dealt.seats in_hand);
  shown = λ n in_hand. ap (λ (r : LiveRow). flag_of r n) dealt.shown ∙ stands.shown n (back t next n dealt.seats in_hand);
  mucked = λ n in_hand. ap (λ (r : LiveRow). flag_of r n) dealt.mucked ∙ stands.mucked n (back t next n dealt.seats in_hand);
}

-- with the event
pub hole_stands : (t next : CardState) (setup : Setup) (past : Past) (on seat : ℕ) (cards : List Slot) → StandsFor t past → on ≡ (turn setup past).0 → IsDealt t next (Some seat) on cards → StandsFor next (with_event setup (said.Hole seat cards) past)
unfolding with_event
hole_stands t next setup past on seat cards stands on_is dealt =
    subst (λ (s : ℕ). StandsFor next (Dealt s seat cards ∷ past)) on_is (stands_hole t next past on seat cards stands dealt)

pub board_stands : (t next : CardState) (setup : Setup) (past : Past) (on : ℕ) (cards : List Card) → StandsFor t past → on ≡ (turn setup past).0 → IsDealt t next None on (known_slots cards) → StandsFor next (with_event setup (said.Board cards) past)
unfolding with_event
board_stands t next setup past on cards stands on_is dealt =
    subst (λ (s : ℕ). StandsFor next (Boarded s cards ∷ past)) on_is (stands_board t next past on cards stands dealt)
