-- Up-cards of a street that were known stay unchanged.
use Rattle.std.proofs.Common.{◌≡◌, ℕ, zero, suc, ◌<◌, Bool, true, false, ◌&&◌, nat_lt, nat_le, inl, inr, Option, Some, List, [], ◌∷◌, ◌++◌, map, filter, length, count_by, refl, sym, ◌∙◌, ap, arith, if◌then◌else◌}
use Rattle.std.specs.List.{list_any}
use Rattle.std.proofs.lemmas.Bool.{or_parts, and_right, lt-leb}
use Rattle.std.proofs.lemmas.List.{append-nil}
use Rattle.card_set.specs.declared.card.Slot.{Slot}
use Rattle.card_set.specs.declared.card.Slot.TheVariants as slots
use Rattle.card_set.specs.declared.card.Card.{Card}
use Rattle.std.proofs.lemmas.List.Elements.{filter-append}
use Rattle.play_event.specs.declared.code.Code.{Code}
use Rattle.play_event.specs.declared.setup.Setup.{Setup}
use Rattle.play_event.specs.declared.setup.Rules.{Rules}
use Rattle.play_event.specs.Past.{Move}
use Rattle.card_set.specs.Known.{hides_card, known_among}
use Rattle.play_event.specs.Places.{Place, is_same_owner, is_in_group, is_up, is_past_deck, places_dealt, after_deal, is_held_by, folded_place, gone_now}
use Rattle.play_event.specs.NameMatching.{after_matching, after_discard, after_show, discarded_now, unmatched_names, blanks_in, can_be_named, is_show_of_all, matched_card, is_named}
use Rattle.play_event.specs.Laws.{IsAmong}
use Rattle.card_set.proofs.Tests.{false_true}
use Rattle.play_laws.proofs.PlayerToActUps.{player_to_act_same}
use Rattle.play_laws.proofs.DealtPlaces.{are_new}
use Rattle.play_laws.proofs.MovesLaw.{is_up_by, ups_by, IsPlayerToAct, free, shown, FitsMove, MovesLaw}
use Rattle.play_event.specs.Streets.{up_cards_on, down_cards_on}

-- the new place has the same owner and street as the old, and the same card if that was known
pub record IsSureOf (old new : Place) : Type 0 where
  pub owner : new.owner ≡ old.owner
  pub street : new.street ≡ old.street
  pub index : new.index ≡ old.index
  pub slot : hides_card old.slot ≡ false → new.slot ≡ old.slot

-- places are where they were, and what was known of them is known
abbrev pub AreSureOf : List Place → List Place → Type 0
AreSureOf [] [] = Unit {0}
AreSureOf [] (new ∷ news) = ⊥
AreSureOf (old ∷ olds) [] = ⊥
AreSureOf (old ∷ olds) (new ∷ news) = IsSureOf old new × AreSureOf olds news

sure_same : (place : Place) → IsSureOf place place
sure_same place = record { owner = refl; street = refl; index = refl; slot = λ known. refl }

sure_maybe : (place other : Place) (b : Bool) → IsSureOf place other → IsSureOf place (if b then other else place)
sure_maybe place other true sure = sure
sure_maybe place other false sure = sure_same place

-- a mark changes neither where a place is nor its card
record IsPlain (mark : Place → Place) : Type 0 where
  owner : (place : Place) → (mark place).owner ≡ place.owner
  street : (place : Place) → (mark place).street ≡ place.street
  index : (place : Place) → (mark place).index ≡ place.index
  slot : (place : Place) → (mark place).slot ≡ place.slot

sure_mark : (mark : Place → Place) → IsPlain mark → (place : Place) → IsSureOf place (mark place)
sure_mark mark plain place = record { owner = plain.owner place; street = plain.street place; index = plain.index place; slot = λ known. plain.slot place }

sure_found : (mark : Place → Place) → IsPlain mark → (names : List Card) (slot : Slot) (others : List Card) (blanks : ℕ) (place : Place) → place.slot ≡ slot → IsSureOf place (matched_card mark names slot others blanks place).place
sure_found mark plain names (slots.Known card) others blanks place here = sure_maybe place (mark place) (is_named card names) (sure_mark mark plain place)
sure_found mark plain names slots.Unknown (card ∷ others) blanks place here =
    let named : Place = record place { slot = slots.Known card } in
    record { owner = plain.owner named; street = plain.street named; index = plain.index named; slot = λ known. false_true (sym known ∙ ap hides_card here) }
sure_found mark plain names slots.Unknown [] zero place here = sure_same place
sure_found mark plain names slots.Unknown [] (suc blanks) place here = sure_mark mark plain place

sure_step : (covers : Place → Bool) (mark : Place → Place) (names others : List Card) (blanks : ℕ) (place : Place) (rest : List Place) (c : Bool) → IsPlain mark → ((os : List Card) (n : ℕ) → AreSureOf rest (after_matching covers mark names os n rest)) → AreSureOf (place ∷ rest) (if c then (let found = matched_card mark names place.slot others blanks place in found.place ∷ after_matching covers mark names found.others found.blanks rest) else (place ∷ after_matching covers mark names others blanks rest))
sure_step covers mark names others blanks place rest true plain later = (sure_found mark plain names place.slot others blanks place refl, later (matched_card mark names place.slot others blanks place).others (matched_card mark names place.slot others blanks place).blanks)
sure_step covers mark names others blanks place rest false plain later = (sure_same place, later others blanks)

names_sure : (covers : Place → Bool) (mark : Place → Place) → IsPlain mark → (names others : List Card) (blanks : ℕ) (placed : List Place) → AreSureOf placed (after_matching covers mark names others blanks placed)
names_sure covers mark plain names others blanks [] = tt
names_sure covers mark plain names others blanks (place ∷ rest) = sure_step covers mark names others blanks place rest (covers place) plain (λ os n. names_sure covers mark plain names os n rest)

-- a discard keeps what was known
pub discard_sure : (street seat : ℕ) (cards : List Slot) (placed : List Place) → AreSureOf placed (after_discard street seat cards placed)
discard_sure street seat cards placed = names_sure (is_held_by seat) (discarded_now street (length placed)) (record { owner = λ place. refl; street = λ place. refl; index = λ place. refl; slot = λ place. refl }) (known_among cards) (unmatched_names (filter (is_held_by seat) placed) (known_among cards)) (blanks_in cards) placed

-- so does a show
pub show_sure : (code : Code) (seat : ℕ) (cards : List Card) (placed : List Place) → AreSureOf placed (after_show code seat cards placed)
show_sure code seat cards placed = names_sure (can_be_named code seat (is_show_of_all placed seat cards)) (λ place. place) (record { owner = λ place. refl; street = λ place. refl; index = λ place. refl; slot = λ place. refl }) cards (unmatched_names (filter (can_be_named code seat (is_show_of_all placed seat cards)) placed) cards) 0 placed

-- and a fold
pub fold_sure : (seat count : ℕ) (placed : List Place) → AreSureOf placed (map (folded_place seat count) placed)
fold_sure seat count [] = tt
fold_sure seat count (place ∷ rest) = (sure_maybe place (gone_now count place) (is_held_by seat place) (record { owner = refl; street = refl; index = refl; slot = λ known. refl }), fold_sure seat count rest)

-- known up-cards are the same
up_same : (code : Code) (street seat : ℕ) (old new : Place) → IsSureOf old new → is_up_by code street seat new ≡ is_up_by code street seat old
up_same code street seat old new sure =
    ap (λ o. is_same_owner o (Some seat) && (is_up code new && nat_le new.street street)) sure.owner
    ∙ ap (λ s. is_same_owner old.owner (Some seat) && ((nat_lt 0 (up_cards_on code s) && nat_le (down_cards_on code s) new.index) && nat_le s street)) sure.street
    ∙ ap (λ i. is_same_owner old.owner (Some seat) && ((nat_lt 0 (up_cards_on code old.street) && nat_le (down_cards_on code old.street) i) && nat_le old.street street)) sure.index

ups_step : (old new : Place) (olds news : List Place) (a b : Bool) → a ≡ b → IsSureOf old new → (list_any hides_card (map (λ (p : Place). p.slot) olds) ≡ false → map (λ (p : Place). p.slot) news ≡ map (λ (p : Place). p.slot) olds) → list_any hides_card (map (λ (p : Place). p.slot) (if b then (old ∷ olds) else olds)) ≡ false → map (λ (p : Place). p.slot) (if a then (new ∷ news) else news) ≡ map (λ (p : Place). p.slot) (if b then (old ∷ olds) else olds)
ups_step old new olds news true true same sure later known =
    let parts = or_parts (hides_card old.slot) (list_any hides_card (map (λ (p : Place). p.slot) olds)) known in
    ap (λ s. s ∷ map (λ (p : Place). p.slot) news) (sure.slot parts.0) ∙ ap (λ l. old.slot ∷ l) (later parts.1)
ups_step old new olds news true false same sure later known = false_true (sym same)
ups_step old new olds news false true same sure later known = false_true same
ups_step old new olds news false false same sure later known = later known

-- up-cards of a seat that were known stay unchanged
pub ups_sure : (code : Code) (street seat : ℕ) (olds news : List Place) → AreSureOf olds news → list_any hides_card (ups_by code olds street seat) ≡ false → ups_by code news street seat ≡ ups_by code olds street seat
ups_sure code street seat [] [] sure known = refl
ups_sure code street seat [] (new ∷ news) sure known = absurd sure
ups_sure code street seat (old ∷ olds) [] sure known = absurd sure
ups_sure code street seat (old ∷ olds) (new ∷ news) sure known =
    ups_step old new (filter (is_up_by code street seat) olds) (filter (is_up_by code street seat) news) (is_up_by code street seat new) (is_up_by code street seat old) (up_same code street seat old new sure.0) sure.0 (ups_sure code street seat olds news sure.1) known

-- a deal on a later street adds none
none_up : (code : Code) (street seat : ℕ) (placed : List Place) → ((place : Place) → IsAmong placed place → street < place.street) → filter (is_up_by code street seat) placed ≡ []
none_up code street seat [] later = refl
none_up code street seat (first ∷ rest) later =
    ap (λ b. if b then (first ∷ filter (is_up_by code street seat) rest) else filter (is_up_by code street seat) rest)
    (and_right (is_same_owner first.owner (Some seat)) (is_up code first && nat_le first.street street) (and_right (is_up code first) (nat_le first.street street) (lt-leb first.street street (later first (inl refl)))))
    ∙ none_up code street seat rest (λ place among. later place (inr among))

-- a deal of a later street adds no up-card to a street
pub ups_deal : (code : Code) (street seat : ℕ) (owner : Option ℕ) (on : ℕ) (cards : List Slot) (placed : List Place) → street < on → ups_by code (after_deal code owner on cards placed) street seat ≡ ups_by code placed street seat
ups_deal code street seat owner on cards placed later =
    let late : Bool = is_past_deck code placed on in
    let news : List Place = places_dealt owner on late (count_by (is_in_group owner on) placed) (length placed) cards in
    ap (map (λ (p : Place). p.slot)) (filter-append (is_up_by code street seat) placed news
    ∙ ap (λ l. filter (is_up_by code street seat) placed ++ l) (none_up code street seat news (λ place among. omega (arith, later, (are_new owner on late (count_by (is_in_group owner on) placed) (length placed) cards place among).street)))
    ∙ append-nil (filter (is_up_by code street seat) placed))

-- so whose turn it was is unchanged
pub player_to_act_still : (setup : Setup) (olds news : List Place) (older : List Move) (street seat : ℕ) → ((other : ℕ) → list_any hides_card (ups_by setup.code olds street other) ≡ false → ups_by setup.code news street other ≡ ups_by setup.code olds street other) → IsPlayerToAct setup olds older street seat → IsPlayerToAct setup news older street seat
player_to_act_still setup olds news older street seat same (free by) = free by
player_to_act_still setup olds news older street seat same (shown known by) =
    shown (λ other least most able. ap (list_any hides_card) (same other (known other least most able)) ∙ known other least most able)
    (player_to_act_same setup older street (ups_by setup.code news street) (ups_by setup.code olds street) (λ other least most able. same other (known other least most able)) ∙ by)

-- a move that fits still fits if known up-cards are unchanged
pub fits_still : (setup : Setup) (rules : Rules) (olds news : List Place) (older : List Move) (move : Move) → ((other : ℕ) → list_any hides_card (ups_by setup.code olds move.street other) ≡ false → ups_by setup.code news move.street other ≡ ups_by setup.code olds move.street other) → FitsMove setup rules olds older move → FitsMove setup rules news older move
fits_still setup rules olds news older move same fits =
    record { several = fits.several; due = fits.due; is_due = fits.is_due; event = fits.event; is_move = fits.is_move; in_turn = player_to_act_still setup olds news older move.street move.seat same fits.in_turn; none = fits.none; place = fits.place }

-- all moves are on streets before a deal
abbrev pub AreBefore : ℕ → List Move → Type 0
AreBefore street [] = Unit {0}
AreBefore street (move ∷ rest) = (move.street < street) × AreBefore street rest

-- so do all moves
pub moves_sure : (setup : Setup) (rules : Rules) (olds news : List Place) (list : List Move) → AreSureOf olds news → MovesLaw setup rules olds list → MovesLaw setup rules news list
moves_sure setup rules olds news [] sure law = tt
moves_sure setup rules olds news (move ∷ older) sure law =
    (fits_still setup rules olds news older move (λ other known. ups_sure setup.code move.street other olds news sure known) law.0, moves_sure setup rules olds news older sure law.1)

-- and they still fit after a deal of a later street
pub moves_deal : (setup : Setup) (rules : Rules) (owner : Option ℕ) (on : ℕ) (cards : List Slot) (placed : List Place) (list : List Move) → AreBefore on list → MovesLaw setup rules placed list → MovesLaw setup rules (after_deal setup.code owner on cards placed) list
moves_deal setup rules owner on cards placed [] early law = tt
moves_deal setup rules owner on cards placed (move ∷ older) early law = (
  fits_still setup rules placed (after_deal setup.code owner on cards placed) older move (λ other known. ups_deal setup.code move.street other owner on cards placed early.0) law.0,
  moves_deal setup rules owner on cards placed older early.1 law.1,
)
