-- Each known card of a legal past is in the deck; and the places of a legal past are lawful.
use Rattle.std.proofs.Common.{◌≡◌, ℕ, ◌<◌, Bool, true, false, ◌+◌, ◌&&◌, ◌==◌, not, nat_lt, nat_le, inl, inr, Option, Some, None, List, [], ◌∷◌, map, filter, length, count_by, refl, sym, ◌∙◌, ap, arith, if◌then◌else◌}
use Rattle.std.specs.List.{list_any}
use Rattle.std.proofs.lemmas.Bool.{or_parts, or_cases, and_parts, leb-true, ltb-true}
use Rattle.card_set.specs.declared.card.Slot.{Slot}
use Rattle.card_set.specs.declared.card.Slot.TheVariants as slots
use Rattle.play_event.specs.declared.code.Code.{Code}
use Rattle.play_event.specs.declared.setup.Setup.{Setup}
use Rattle.play_event.specs.declared.setup.Rules.{Rules}
use Rattle.play_event.specs.Said.{Said}
use Rattle.play_event.specs.Past.{Past, Resolved, Move, moves_of, newest_street, is_folding, moves_before}
use Rattle.card_set.specs.Known.{known_among}
use Rattle.play_event.specs.Due.{turn}
use Rattle.play_event.specs.Places.{Place, is_in_group, is_past_deck, places_dealt, after_deal, is_held_by, folded_place, after_fold, gone_now}
use Rattle.play_event.specs.NameMatching.{after_discard, after_show, discarded_now, unmatched_names, blanks_in, can_be_named, is_show_of_all}
use Rattle.play_event.specs.Table.{places_of}
use Rattle.play_event.specs.Taken.{is_not_in_deck, is_in_deck, has_taken_card, is_taken, has_misplaced_card, is_misplaced, newly_known, has_repeat, is_clash, slot_is_card}
use Rattle.play_event.specs.Scripts.{with_event, past_of}
use Rattle.play_event.specs.Laws.{IsAmong, AreLegal}
use Rattle.play_event.proofs.Kept.{AreKept, ComesFrom, comes_from, names_keep, held_is_there}
use Rattle.play_event.proofs.ClashLaws.{among_append, not_at}
use Rattle.play_event.proofs.SafePlaces.{none_clash, discard_mark, show_mark}
use Rattle.play_laws.specs.LegalPlaces.{has_owner_folded, is_gone_by, PlacesLaw, AreLawful}
use Rattle.play_laws.proofs.DueAtEvents.{turn_reaches}
use Rattle.play_laws.proofs.LegalEvents.{Stepped, deals, boards, moves, discards, shows, mucks, stepped}
use Rattle.play_laws.proofs.LegalPlaces.{LegalPast, legal_past}
use Rattle.play_laws.proofs.PlaceLists.{ListLaw, list_law}
use Rattle.std.specs.Option.{is_some}

-- known cards are in the deck
abbrev pub AreInDeck : Code → List Place → Type 0
AreInDeck code placed = (place : Place) → IsAmong placed place → is_not_in_deck code place.slot ≡ false

taken_deck : (code : Code) (placed : List Place) (late : Bool) (slot : Slot) → is_taken code placed late slot ≡ false → is_not_in_deck code slot ≡ false
taken_deck code placed late (slots.Known card) free = (or_parts (not (is_in_deck code card)) (list_any (λ place. not (late && is_some place.gone_after) && slot_is_card card place.slot) placed) free).0
taken_deck code placed late slots.Unknown free = refl

dealt_deck : (code : Code) (placed : List Place) (taking : Bool) (owner : Option ℕ) (street : ℕ) (late : Bool) (index number : ℕ) (cards : List Slot) → list_any (is_taken code placed taking) cards ≡ false → AreInDeck code (places_dealt owner street late index number cards)
dealt_deck code placed taking owner street late index number [] free place among = absurd among
dealt_deck code placed taking owner street late index number (slot ∷ rest) free place (inl same) =
    ap (λ (p : Place). is_not_in_deck code p.slot) (sym same) ∙ taken_deck code placed taking slot (or_parts (is_taken code placed taking slot) (list_any (is_taken code placed taking) rest) free).0
dealt_deck code placed taking owner street late index number (slot ∷ rest) free place (inr later) =
    dealt_deck code placed taking owner street late (index + 1) (number + 1) rest (or_parts (is_taken code placed taking slot) (list_any (is_taken code placed taking) rest) free).1 place later

deal_deck : (code : Code) (owner : Option ℕ) (street : ℕ) (cards : List Slot) (placed : List Place) → has_taken_card code placed street cards ≡ false → AreInDeck code placed → AreInDeck code (after_deal code owner street cards placed)
deal_deck code owner street cards placed free deck place among =
    let late : Bool = is_past_deck code placed street in
    elim (among_append placed (places_dealt owner street late (count_by (is_in_group owner street) placed) (length placed) cards) place among) [
      | inl old ↦ deck place old
      | inr new ↦ dealt_deck code placed late owner street late (count_by (is_in_group owner street) placed) (length placed) cards (or_parts (list_any (is_taken code placed late) cards) (has_repeat cards) free).0 place new
    ]

kept_deck : (code : Code) (count : ℕ) (olds news : List Place) → AreKept count olds news → has_misplaced_card code olds news ≡ false → AreInDeck code olds → AreInDeck code news
kept_deck code count olds news kept fits deck place among = by_known (comes_from count olds news kept place among)
  where
    by_known : ComesFrom count olds news place → is_not_in_deck code place.slot ≡ false
    by_known from = elim (from.known) [
      | inl same ↦ ap (is_not_in_deck code) same ∙ deck from.old from.among
      | inr fresh ↦ (or_parts (is_not_in_deck code place.slot) (list_any (λ other. not (other.number == place.number) && is_clash place other) news) (not_at (is_misplaced code news) (newly_known olds news) place fits fresh)).0
    ]

fold_deck : (code : Code) (seat count : ℕ) (placed : List Place) → AreInDeck code placed → AreInDeck code (map (folded_place seat count) placed)
fold_deck code seat count [] deck place among = absurd among
fold_deck code seat count (first ∷ rest) deck place (inl same) = ap (λ (p : Place). is_not_in_deck code p.slot) (sym same) ∙ (one (is_held_by seat first) ∙ deck first (inl refl))
  where
    one : (b : Bool) → is_not_in_deck code (if b then gone_now count first else first).slot ≡ is_not_in_deck code first.slot
    one true = refl
    one false = refl
fold_deck code seat count (first ∷ rest) deck place (inr later) = fold_deck code seat count rest (λ other among. deck other (inr among)) place later

-- a legal event keeps known cards in the deck
pub deck_law : (setup : Setup) (before : Past) (at : ℕ) (event : Resolved) → Stepped setup before at event → AreInDeck setup.code (places_of setup.code before) → AreInDeck setup.code (places_of setup.code (event ∷ before))
deck_law setup before at _ (deals seat cards due is some few free) deck = deal_deck setup.code (Some seat) at cards (places_of setup.code before) free deck
deck_law setup before at _ (boards cards due some few free) deck = deal_deck setup.code None at (map (λ card. slots.Known card) cards) (places_of setup.code before) free deck
deck_law setup before at _ (mucks seat may) deck = deck
deck_law setup before at _ (shows seat cards may free) deck =
    let placed = places_of setup.code before in
    let covers : Place → Bool = can_be_named setup.code seat (is_show_of_all placed seat cards) in
    kept_deck setup.code (length placed) placed (after_show setup.code seat cards placed)
    (names_keep (length placed) covers (λ (p : Place). p) (show_mark (length placed)) (λ place covered. held_is_there seat place (and_parts (is_held_by seat place) _ covered).0) cards (unmatched_names (filter covers placed) cards) 0 placed) free deck
deck_law setup before at _ (discards seat cards no_deal draw next few free held) deck =
    let placed = places_of setup.code before in
    kept_deck setup.code (length placed) placed (after_discard at seat cards placed)
    (names_keep (length placed) (is_held_by seat) (discarded_now at (length placed)) (discard_mark at (length placed)) (held_is_there seat) (known_among cards) (unmatched_names (filter (is_held_by seat) placed) (known_among cards)) (blanks_in cards) placed) free deck
deck_law setup before at _ (moves move no_deal no_draw on) deck = by_fold (is_folding move.act)
  where
    by_fold : (b : Bool) → AreInDeck setup.code (if b then after_fold move.seat (places_of setup.code before) else places_of setup.code before)
    by_fold true = fold_deck setup.code move.seat (length (places_of setup.code before)) (places_of setup.code before) deck
    by_fold false = deck

-- all laws of a legal past
pub record LegalCards (setup : Setup) (before : Past) : Type 0 where
  pub legal : LegalPast setup before
  pub list : ListLaw setup.code (places_of setup.code before)
  pub deck : AreInDeck setup.code (places_of setup.code before)

-- after legal events known cards are in the deck, and the list of places is in order
pub legal_cards : (setup : Setup) (rules : Rules) (events : List Said) → AreLegal setup rules events → LegalCards setup (past_of setup events)
unfolding with_event
legal_cards setup rules [] legal = record { legal = legal_past setup rules [] legal; list = record { numbered = tt; indexed = λ owner street. tt; unknowns = tt }; deck = λ place among. absurd among }
legal_cards setup rules (event ∷ events) legal =
    let before = past_of setup events in
    let it = legal_cards setup rules events legal.1 in
    let come = turn_reaches setup before it.legal.past.within in
    let step = stepped setup rules before event legal.0 in
    record {
      legal = legal_past setup rules (event ∷ events) legal;
      list = list_law setup before (turn setup before).0 _ it.legal.past it.legal.places come step it.list;
      deck = deck_law setup before (turn setup before).0 _ step it.deck;
    }

gone_later : (code : Code) (list : List Move) (newest : ℕ) (placed : List Place) (place : Place) (street : ℕ) → PlacesLaw code list newest placed → IsAmong placed place → is_gone_by list street place ≡ true → place.street < street
gone_later code list newest placed place street law among gone = elim (or_cases (nat_lt 0 place.discarded && nat_le place.discarded street) (has_owner_folded (moves_before street list) place.owner) gone) [
  | inl out ↦
      let parts = and_parts (nat_lt 0 place.discarded) (nat_le place.discarded street) out in
      omega (arith, law.out_after place among (ltb-true 0 place.discarded parts.0), leb-true place.discarded street parts.1)
  | inr folded ↦ law.folded_after place street among folded
]

-- after legal events the places are lawful
pub lawful : (setup : Setup) (rules : Rules) (events : List Said) → AreLegal setup rules events → AreLawful setup.code (moves_of (past_of setup events)) (places_of setup.code (past_of setup events))
lawful setup rules events legal =
    let past = past_of setup events in
    let law = (legal_past setup rules events legal).places in
    record {
      apart = none_clash setup rules events legal;
      gone_when = law.gone_when;
      gone_after = λ place street among gone. gone_later setup.code (moves_of past) (newest_street past) (places_of setup.code past) place street law among gone;
      late = law.late;
    }
