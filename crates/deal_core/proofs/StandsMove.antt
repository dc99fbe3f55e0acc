-- A fold changes places, and no other move does.
use Rattle.std.proofs.Common.{◌≡◌, false, if◌then◌else◌, ◌∷◌, sym, ap, ◌∙◌}
use Rattle.play_event.specs.Past.{Past, Move, Moved, is_folding}
use Rattle.play_event.specs.Places.{after_fold}
use Rattle.play_event.specs.Table.{places_of}
use Rattle.card_places.specs.declared.card_state.CardState.{CardState}
use Rattle.deal_core.specs.Standing.{StandsFor}

-- a move that is no fold leaves the places
pub places_kept : (t : CardState) (past : Past) (move : Move) → is_folding move.act ≡ false → places_of t.table.code (Moved move ∷ past) ≡ places_of t.table.code past
places_kept t past move is = ap (λ b. if b then after_fold move.seat (places_of t.table.code past) else places_of t.table.code past) is

pub move_kept : (t : CardState) (past : Past) (move : Move) → StandsFor t past → is_folding move.act ≡ false → StandsFor t (Moved move ∷ past)
move_kept t past move stands is = record {
  places = stands.places ∙ sym (places_kept t past move is);
  drew = stands.drew;
  named = stands.named;
  shown = stands.shown;
  mucked = stands.mucked;
}
