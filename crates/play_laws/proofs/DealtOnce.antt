-- In a game without draws no card is dealt twice, not even after its seat folded.
use Rattle.std.proofs.Common.{◌≡◌, ◌≢◌, ℕ, Bool, true, false, ◌&&◌, List, refl, sym, ap, ◌∙◌}
use Rattle.play_event.specs.declared.setup.Rules.{Rules}
use Rattle.play_event.specs.declared.setup.Setup.{Setup}
use Rattle.play_event.specs.Laws.{AreLegal, IsAmong}
use Rattle.play_event.specs.Places.{Place}
use Rattle.play_event.specs.Said.{Said}
use Rattle.play_event.specs.Scripts.{past_of}
use Rattle.play_event.specs.Streets.{has_draw}
use Rattle.play_event.specs.Table.{places_of}
use Rattle.play_event.specs.Taken.{is_gone_before, is_one_card, may_repeat}
use Rattle.play_event.proofs.SafePlaces.{none_clash}
use Rattle.play_laws.proofs.InDeck.{lawful}
use Rattle.play_laws.proofs.ApartCards.{unclashed}

-- nothing is dealt past the end of the deck
within_deck : (setup : Setup) (rules : Rules) (events : List Said) (place : Place) → AreLegal setup rules events → ((street : ℕ) → has_draw setup.code street ≡ false) → IsAmong (places_of setup.code (past_of setup events)) place → (b : Bool) → place.past_deck ≡ b → place.past_deck ≡ false
within_deck setup rules events place legal no_draw among false is = is
within_deck setup rules events place legal no_draw among true is =
    let late = (lawful setup rules events legal).late place among is in
    is ∙ sym late.0 ∙ no_draw place.street

-- so no two places have the same card
pub dealt_once : (setup : Setup) (rules : Rules) (events : List Said) (a b : Place) → AreLegal setup rules events → ((street : ℕ) → has_draw setup.code street ≡ false) → IsAmong (places_of setup.code (past_of setup events)) a → IsAmong (places_of setup.code (past_of setup events)) b → a.number ≢ b.number → is_one_card a.slot b.slot ≡ false
dealt_once setup rules events a b legal no_draw in_a in_b apart =
    unclashed (may_repeat a b) (may_repeat b a) (is_one_card a.slot b.slot)
    (ap (λ (late : Bool). late && is_gone_before b.gone_after a.number) (within_deck setup rules events a legal no_draw in_a a.past_deck refl))
    (ap (λ (late : Bool). late && is_gone_before a.gone_after b.number) (within_deck setup rules events b legal no_draw in_b b.past_deck refl))
    (none_clash setup rules events legal a b in_a in_b apart)
