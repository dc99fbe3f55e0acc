-- Among a seat's unknown cards those dealt first are discarded first; discards keep it so.
use Rattle.std.proofs.Common.{◌≡◌, ℕ, zero, suc, ◌<◌, Bool, true, false, inl, inr, Some, List, [], ◌∷◌, refl, sym, ◌∙◌, ap, subst, arith, if◌then◌else◌}
use Rattle.card_set.specs.declared.card.Card.{Card}
use Rattle.card_set.specs.declared.card.Slot.{Slot}
use Rattle.card_set.specs.declared.card.Slot.TheVariants as slots
use Rattle.card_set.specs.Known.{hides_card}
use Rattle.play_event.specs.Places.{Place}
use Rattle.play_event.specs.NameMatching.{matched_card, after_matching, discarded_now, is_named}
use Rattle.play_event.specs.Laws.{IsAmong}
use Rattle.card_set.proofs.Tests.{false_true}
use Rattle.play_laws.specs.LegalPlaces.{OutFirst, UnknownsFirst}

-- a place after the names: unchanged, or covered and discarded, or known
data Became (covers : Place → Bool) (street count : ℕ) (old new : Place) : Type 0 where
  as_it_was : new ≡ old → Became covers street count old new
  discarded : covers old ≡ true → new ≡ discarded_now street count old → Became covers street count old new
  now_known : hides_card new.slot ≡ false → Became covers street count old new

became_known : (covers : Place → Bool) (street count : ℕ) (names : List Card) (card : Card) (place : Place) (b : Bool) → place.slot ≡ slots.Known card → Became covers street count place (if b then discarded_now street count place else place)
became_known covers street count names card place true here = now_known (ap hides_card here)
became_known covers street count names card place false here = as_it_was refl

became : (covers : Place → Bool) (street count : ℕ) (names : List Card) (slot : Slot) (others : List Card) (blanks : ℕ) (place : Place) → place.slot ≡ slot → covers place ≡ true → Became covers street count place (matched_card (discarded_now street count) names slot others blanks place).place
became covers street count names (slots.Known card) others blanks place here covered = became_known covers street count names card place (is_named card names) here
became covers street count names slots.Unknown (card ∷ others) blanks place here covered = now_known refl
became covers street count names slots.Unknown [] zero place here covered = as_it_was refl
became covers street count names slots.Unknown [] (suc blanks) place here covered = discarded covered refl

-- where a place after the names comes from
record CameFrom (covers : Place → Bool) (street count : ℕ) (placed : List Place) (new : Place) : Type 0 where
  old : Place
  among : IsAmong placed old
  how : Became covers street count old new

later_from : (covers : Place → Bool) (street count : ℕ) (first : Place) (rest : List Place) (new : Place) → CameFrom covers street count rest new → CameFrom covers street count (first ∷ rest) new
later_from covers street count first rest new from = record { old = from.old; among = inr from.among; how = from.how }

first_from : (covers : Place → Bool) (street count : ℕ) (first : Place) (rest : List Place) (new place : Place) → Became covers street count first place → place ≡ new → CameFrom covers street count (first ∷ rest) new
first_from covers street count first rest new place how is =
    let P : Place → Type 0 = CameFrom covers street count (first ∷ rest) in
    subst P is (record { old = first; among = inl refl; how = how })

from_step : (covers : Place → Bool) (street count : ℕ) (names others : List Card) (blanks : ℕ) (first : Place) (rest : List Place) (new : Place) (c : Bool) → covers first ≡ c → ((os : List Card) (n : ℕ) → IsAmong (after_matching covers (discarded_now street count) names os n rest) new → CameFrom covers street count rest new) → IsAmong (if c then (let found = matched_card (discarded_now street count) names first.slot others blanks first in found.place ∷ after_matching covers (discarded_now street count) names found.others found.blanks rest) else (first ∷ after_matching covers (discarded_now street count) names others blanks rest)) new → CameFrom covers street count (first ∷ rest) new
from_step covers street count names others blanks first rest new true covered later (inl is) =
    first_from covers street count first rest new (matched_card (discarded_now street count) names first.slot others blanks first).place (became covers street count names first.slot others blanks first refl covered) is
from_step covers street count names others blanks first rest new true covered later (inr among) =
    later_from covers street count first rest new (later (matched_card (discarded_now street count) names first.slot others blanks first).others (matched_card (discarded_now street count) names first.slot others blanks first).blanks among)
from_step covers street count names others blanks first rest new false covered later (inl is) = first_from covers street count first rest new first (as_it_was refl) is
from_step covers street count names others blanks first rest new false covered later (inr among) = later_from covers street count first rest new (later others blanks among)

came_from : (covers : Place → Bool) (street count : ℕ) (names others : List Card) (blanks : ℕ) (placed : List Place) (new : Place) → IsAmong (after_matching covers (discarded_now street count) names others blanks placed) new → CameFrom covers street count placed new
came_from covers street count names others blanks [] new among = absurd among
came_from covers street count names others blanks (first ∷ rest) new among =
    from_step covers street count names others blanks first rest new (covers first) refl (λ os n. came_from covers street count names os n rest new) among

-- if no name and no blank is left, what is unknown is unchanged
left_step : (covers : Place → Bool) (street count : ℕ) (names : List Card) (first : Place) (rest : List Place) (new : Place) (slot : Slot) (c : Bool) → first.slot ≡ slot → hides_card new.slot ≡ true → (IsAmong (after_matching covers (discarded_now street count) names [] 0 rest) new → IsAmong rest new) → IsAmong (if c then (let found = matched_card (discarded_now street count) names slot [] 0 first in found.place ∷ after_matching covers (discarded_now street count) names found.others found.blanks rest) else (first ∷ after_matching covers (discarded_now street count) names [] 0 rest)) new → IsAmong (first ∷ rest) new
left_step covers street count names first rest new slot false here unknown later (inl is) = inl is
left_step covers street count names first rest new slot false here unknown later (inr among) = inr (later among)
left_step covers street count names first rest new slots.Unknown true here unknown later (inl is) = inl is
left_step covers street count names first rest new slots.Unknown true here unknown later (inr among) = inr (later among)
left_step covers street count names first rest new (slots.Known card) true here unknown later (inl is) = known_stays (is_named card names) is
  where
    known_stays : (b : Bool) → (if b then discarded_now street count first else first) ≡ new → IsAmong (first ∷ rest) new
    known_stays true same = false_true (sym (ap hides_card here) ∙ (ap (λ (p : Place). hides_card p.slot) same ∙ unknown))
    known_stays false same = inl same
left_step covers street count names first rest new (slots.Known card) true here unknown later (inr among) = inr (later among)

left_alone : (covers : Place → Bool) (street count : ℕ) (names : List Card) (placed : List Place) (new : Place) → hides_card new.slot ≡ true → IsAmong (after_matching covers (discarded_now street count) names [] 0 placed) new → IsAmong placed new
left_alone covers street count names [] new unknown among = absurd among
left_alone covers street count names (first ∷ rest) new unknown among =
    left_step covers street count names first rest new first.slot (covers first) refl unknown (left_alone covers street count names rest new unknown) among

-- what the cover of a seat's discard guarantees: a covered card is the seat's and not discarded;
-- another card of the seat was discarded on an earlier street
pub record CoversHand (covers : Place → Bool) (seat street : ℕ) (placed : List Place) : Type 0 where
  pub held : (place : Place) → IsAmong placed place → covers place ≡ true → (place.owner ≡ Some seat) × (place.discarded ≡ 0)
  pub gone_after : (place : Place) → IsAmong placed place → covers place ≡ false → place.owner ≡ Some seat → (0 < place.discarded) × (place.discarded < street)

hand_rest : (covers : Place → Bool) (seat street : ℕ) (first : Place) (rest : List Place) → CoversHand covers seat street (first ∷ rest) → CoversHand covers seat street rest
hand_rest covers seat street first rest hand = record { held = λ place among. hand.held place (inr among); gone_after = λ place among. hand.gone_after place (inr among) }

-- the first place is unchanged
first_same : (covers : Place → Bool) (seat street count : ℕ) (first : Place) (rest : List Place) → covers first ≡ false → CoversHand covers seat street (first ∷ rest) → ((second : Place) → IsAmong rest second → OutFirst first second) → (second : Place) → CameFrom covers street count rest second → OutFirst first second
first_same covers seat street count first rest not_covered hand before second from = by_how from.old from.among from.how
  where
    by_how : (old : Place) → IsAmong rest old → Became covers street count old second → OutFirst first second
    by_how old among (as_it_was is) = let P : Place → Type 0 = OutFirst first in subst P (sym is) (before old among)
    by_how old among (now_known known) = λ owner one two some held when. false_true (sym known ∙ two)
    by_how old among (discarded covered is) = λ owner one two some held when.
        let mine = hand.gone_after first (inl refl) not_covered (owner ∙ (ap (λ (p : Place). p.owner) is ∙ (hand.held old (inr among) covered).0)) in
        let out : second.discarded ≡ street = ap (λ (p : Place). p.discarded) is in
        absurd (elim when [ inl none ↦ omega (arith, none, mine.0) | inr later ↦ omega (arith, later, out, mine.1) ])

-- the first place discarded now
first_out : (covers : Place → Bool) (seat street count : ℕ) (first : Place) (rest : List Place) → first.discarded ≡ 0 → ((second : Place) → IsAmong rest second → OutFirst first second) → (second : Place) → CameFrom covers street count rest second → OutFirst (discarded_now street count first) second
first_out covers seat street count first rest here before second from = by_how from.old from.among from.how
  where
    by_how : (old : Place) → IsAmong rest old → Became covers street count old second → OutFirst (discarded_now street count first) second
    by_how old among (now_known known) = λ owner one two some held when. false_true (sym known ∙ two)
    by_how old among (discarded covered is) = λ owner one two some held when. sym (ap (λ (p : Place). p.discarded) is)
    by_how old among (as_it_was is) = λ owner one two some held when.
        let P : Place → Type 0 = OutFirst first in
        let same : first.discarded ≡ second.discarded = subst P (sym is) (before old among) owner one two some held (inl here) in
        absurd (omega (arith, same, here, some))

-- the places after a discard
unknowns_step : (covers : Place → Bool) (seat street count : ℕ) (names : List Card) (slot : Slot) (others : List Card) (blanks : ℕ) (first : Place) (rest : List Place) (c : Bool) → first.slot ≡ slot → covers first ≡ c → CoversHand covers seat street (first ∷ rest) → ((second : Place) → IsAmong rest second → OutFirst first second) → ((os : List Card) (n : ℕ) → UnknownsFirst (after_matching covers (discarded_now street count) names os n rest)) → UnknownsFirst (if c then (let found = matched_card (discarded_now street count) names slot others blanks first in found.place ∷ after_matching covers (discarded_now street count) names found.others found.blanks rest) else (first ∷ after_matching covers (discarded_now street count) names others blanks rest))
unknowns_step covers seat street count names slot others blanks first rest false here covered hand before later =
    (λ second among. first_same covers seat street count first rest covered hand before second (came_from covers street count names others blanks rest second among), later others blanks)
unknowns_step covers seat street count names (slots.Known card) others blanks first rest true here covered hand before later =
    (λ second among owner one two some held when. false_true (sym (still_known (is_named card names)) ∙ one), later others blanks)
  where
    still_known : (b : Bool) → hides_card (if b then discarded_now street count first else first).slot ≡ false
    still_known true = ap hides_card here
    still_known false = ap hides_card here
unknowns_step covers seat street count names slots.Unknown (card ∷ others) blanks first rest true here covered hand before later =
    (λ second among owner one two some held when. false_true one, later others blanks)
unknowns_step covers seat street count names slots.Unknown [] zero first rest true here covered hand before later =
    (λ second among owner one two. before second (left_alone covers street count names rest second two among) owner one two, later [] 0)
unknowns_step covers seat street count names slots.Unknown [] (suc blanks) first rest true here covered hand before later =
    (λ second among. first_out covers seat street count first rest (hand.held first (inl refl) covered).1 before second (came_from covers street count names [] blanks rest second among), later [] blanks)

-- a discard keeps the unknown cards of a seat in the order of dealing
pub discard_unknowns : (covers : Place → Bool) (seat street count : ℕ) (names others : List Card) (blanks : ℕ) (placed : List Place) → CoversHand covers seat street placed → UnknownsFirst placed → UnknownsFirst (after_matching covers (discarded_now street count) names others blanks placed)
discard_unknowns covers seat street count names others blanks [] hand before = tt
discard_unknowns covers seat street count names others blanks (first ∷ rest) hand before =
    unknowns_step covers seat street count names first.slot others blanks first rest (covers first) refl refl hand before.0
    (λ os n. discard_unknowns covers seat street count names os n rest (hand_rest covers seat street first rest hand) before.1)
