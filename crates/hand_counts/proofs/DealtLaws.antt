-- A card from a place on differs from the cards that were dealt before the place.
use Rattle.std.proofs.Common.{◌≡◌, ◌≢◌, ℕ, ◌<◌, ◌≤◌, List, [], ◌∷◌, ◌++◌, ap, subst, sym, arith}
use Rattle.card_set.specs.declared.card.Card.{Card}
use Rattle.card_set.specs.Deck.{deck_index}
use Rattle.card_set.specs.Different.{AllDifferent, Every}
use Rattle.hand_counts.specs.Dealt.{AreDealt}

-- a later place comes after the cards too
every_before : (from later : ℕ) (cards : List Card) → from ≤ later → Every (λ card. deck_index card < from) cards → Every (λ card. deck_index card < later) cards
every_before from later [] le every = tt
every_before from later (card ∷ rest) le every = (omega (arith, every.0), every_before from later rest le every.1)

every_push : (P : Card → Type 0) (cards : List Card) (card : Card) → Every P cards → P card → Every P (cards ++ card ∷ [])
every_push P [] card every holds = (holds, tt)
every_push P (other ∷ rest) card every holds = (every.0, every_push P rest card every.1 holds)

different_push : (from : ℕ) (cards : List Card) (card : Card) → from ≤ deck_index card → AllDifferent cards → Every (λ other. deck_index other < from) cards → AllDifferent (cards ++ card ∷ [])
different_push from [] card le different before = (tt, tt)
different_push from (other ∷ rest) card le different before =
    (every_push (λ another. other ≢ another) rest card different.0 (λ same. let places = ap deck_index same in absurd (omega (arith, before.0))), different_push from rest card le different.1 before.1)

-- one more card is dealt
pub dealt_push : (from later : ℕ) (cards next : List Card) (card : Card) → AreDealt from cards → from ≤ deck_index card → deck_index card < later → next ≡ cards ++ card ∷ [] → AreDealt later next
dealt_push from later cards next card dealt le within is =
    subst (AreDealt later) (sym is) (record {
      different = different_push from cards card le dealt.different dealt.before;
      before = every_push (λ other. deck_index other < later) cards card (every_before from later cards (omega arith) dealt.before) within;
    })

pub dealt_none : (from : ℕ) (cards : List Card) → cards ≡ [] → AreDealt from cards
dealt_none from cards none = subst (AreDealt from) (sym none) (record { different = tt; before = tt })

-- places that reach further
pub dealt_later : (from later : ℕ) (cards : List Card) → from ≤ later → AreDealt from cards → AreDealt later cards
dealt_later from later cards le dealt = record { different = dealt.different; before = every_before from later cards le dealt.before }
