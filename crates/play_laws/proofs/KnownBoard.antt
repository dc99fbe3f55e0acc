-- The cards of the board are known.
use Rattle.std.proofs.Common.{◌≡◌, ℕ, ◌+◌, Bool, true, false, inl, inr, Option, Some, None, List, [], ◌∷◌, map, length, count_by, sym, ◌∙◌, ap, if◌then◌else◌}
use Rattle.card_set.specs.declared.card.Card.{Card}
use Rattle.card_set.specs.declared.card.Slot.TheVariants as slots
use Rattle.play_event.specs.declared.setup.Setup.{Setup}
use Rattle.play_event.specs.declared.setup.Rules.{Rules}
use Rattle.play_event.specs.Said.{Said}
use Rattle.play_event.specs.Past.{Past, Resolved, is_folding}
use Rattle.play_event.specs.Due.{turn}
use Rattle.card_set.specs.Known.{hides_card}
use Rattle.play_event.specs.Places.{Place, after_fold, places_dealt, is_past_deck, is_in_group}
use Rattle.play_event.specs.NameMatching.{after_discard, after_show}
use Rattle.play_event.specs.Table.{places_of}
use Rattle.play_event.specs.Scripts.{past_of, with_event}
use Rattle.play_event.specs.Laws.{AreLegal, IsAmong}
use Rattle.card_set.proofs.Options.{some_is_none}
use Rattle.play_event.proofs.ClashLaws.{among_append}
use Rattle.play_laws.proofs.LegalEvents.{Stepped, stepped, deals, boards, mucks, shows, discards, moves}
use Rattle.play_laws.proofs.DealtPlaces.{are_new}
use Rattle.play_laws.proofs.KnownUpCards.{AreSureOf, discard_sure, show_sure, fold_sure}
use Rattle.play_laws.proofs.UnknownOrder.{sure_from}

-- the cards of the board are known
pub IsBoardKnown : List Place → Type 0
IsBoardKnown placed = (place : Place) → IsAmong placed place → place.owner ≡ None → hides_card place.slot ≡ false

known_sure : (olds news : List Place) → AreSureOf olds news → IsBoardKnown olds → IsBoardKnown news
unfolding IsBoardKnown
known_sure olds news sure known place among none =
    let it = sure_from olds news place sure among in
    let was : hides_card it.old.slot ≡ false = known it.old it.among (sym it.sure.owner ∙ none) in
    ap hides_card (it.sure.slot was) ∙ was

board_dealt : (owner : Option ℕ) (at : ℕ) (late : Bool) (index number : ℕ) (cards : List Card) (place : Place) → IsAmong (places_dealt owner at late index number (map (λ card. slots.Known card) cards)) place → hides_card place.slot ≡ false
board_dealt owner at late index number [] place among = absurd among
board_dealt owner at late index number (card ∷ rest) place (inl same) = ap (λ (p : Place). hides_card p.slot) (sym same)
board_dealt owner at late index number (card ∷ rest) place (inr later) = board_dealt owner at late (index + 1) (number + 1) rest place later

known_step : (setup : Setup) (before : Past) (at : ℕ) (event : Resolved) → Stepped setup before at event → IsBoardKnown (places_of setup.code before) → IsBoardKnown (places_of setup.code (event ∷ before))
unfolding IsBoardKnown
known_step setup before at _ (deals seat cards due is some few free) known = λ place among none.
    let placed = places_of setup.code before in
    elim (among_append placed (places_dealt (Some seat) at (is_past_deck setup.code placed at) (count_by (is_in_group (Some seat) at) placed) (length placed) cards) place among) [
      | inl old ↦ known place old none
      | inr new ↦ absurd (some_is_none (sym (are_new (Some seat) at (is_past_deck setup.code placed at) (count_by (is_in_group (Some seat) at) placed) (length placed) cards place new).owner ∙ none))
    ]
known_step setup before at _ (boards cards due some few free) known = λ place among none.
    let placed = places_of setup.code before in
    elim (among_append placed (places_dealt None at (is_past_deck setup.code placed at) (count_by (is_in_group None at) placed) (length placed) (map (λ card. slots.Known card) cards)) place among) [
      | inl old ↦ known place old none
      | inr new ↦ board_dealt None at (is_past_deck setup.code placed at) (count_by (is_in_group None at) placed) (length placed) cards place new
    ]
known_step setup before at _ (mucks seat may) known = known
known_step setup before at _ (shows seat cards may free) known = known_sure (places_of setup.code before) (after_show setup.code seat cards (places_of setup.code before)) (show_sure setup.code seat cards (places_of setup.code before)) known
known_step setup before at _ (discards seat cards no_deal draw next few free held) known = known_sure (places_of setup.code before) (after_discard at seat cards (places_of setup.code before)) (discard_sure at seat cards (places_of setup.code before)) known
known_step setup before at _ (moves move no_deal no_draw on) known = by_fold (is_folding move.act)
  where
    by_fold : (b : Bool) → IsBoardKnown (if b then after_fold move.seat (places_of setup.code before) else places_of setup.code before)
    by_fold true = known_sure (places_of setup.code before) (after_fold move.seat (places_of setup.code before)) (fold_sure move.seat (length (places_of setup.code before)) (places_of setup.code before)) known
    by_fold false = known

-- after legal events they are
pub board_known : (setup : Setup) (rules : Rules) (events : List Said) → AreLegal setup rules events → (place : Place) → IsAmong (places_of setup.code (past_of setup events)) place → place.owner ≡ None → hides_card place.slot ≡ false
unfolding with_event IsBoardKnown
board_known setup rules [] legal = λ place among none. absurd among
board_known setup rules (event ∷ events) legal =
    known_step setup (past_of setup events) (turn setup (past_of setup events)).0 _ (stepped setup rules (past_of setup events) event legal.0) (board_known setup rules events legal.1)
