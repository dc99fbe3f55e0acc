-- The order of a trace's places keeps the order of dealing for each owner: so of a seat's unknown
-- cards, those that come first are discarded first in that order too.
use Rattle.std.proofs.Common.{◌≡◌, ℕ, zero, suc, ◌+◌, ◌≤◌, ◌<◌, Bool, true, false, inl, inr, Option, Some, None, List, [], ◌∷◌, ◌++◌, map, filter, length, count_by, refl, ap, subst, arith, if◌then◌else◌}
use Rattle.std.specs.List.{flat_map, range_with_len}
use Rattle.card_set.specs.declared.card.Slot.{Slot}
use Rattle.card_set.specs.declared.card.Slot.TheVariants as slots
use Rattle.play_event.specs.declared.code.Code.{Code}
use Rattle.play_event.specs.declared.setup.Setup.{Setup}
use Rattle.play_event.specs.declared.setup.Rules.{Rules}
use Rattle.play_event.specs.Said.{Said}
use Rattle.play_event.specs.Past.{Past, Resolved, is_folding}
use Rattle.play_event.specs.Due.{turn}
use Rattle.play_event.specs.Places.{Place, is_in_group, is_past_deck, places_dealt, after_deal, after_fold}
use Rattle.play_event.specs.NameMatching.{after_discard, after_show}
use Rattle.play_event.specs.Table.{places_of}
use Rattle.play_event.specs.Scripts.{with_event, past_of}
use Rattle.play_event.specs.Laws.{IsAmong, AreLegal}
use Rattle.play_event.proofs.ClashLaws.{among_append}
use Rattle.play_laws.specs.LegalPlaces.{OutFirst, UnknownsFirst}
use Rattle.play_laws.proofs.DueAtEvents.{Reaches, turn_reaches}
use Rattle.play_laws.proofs.LegalEvents.{Stepped, deals, boards, moves, discards, shows, mucks, stepped}
use Rattle.play_laws.proofs.LegalPlaces.{PlacesOf, legal_past}
use Rattle.play_laws.proofs.DealtPlaces.{are_new}
use Rattle.play_laws.proofs.PlaceGroups.{AreRising, passed}
use Rattle.play_laws.proofs.KnownUpCards.{AreSureOf, IsSureOf, discard_sure, show_sure, fold_sure}

-- streets count up
abbrev pub AreSorted : List Place → Type 0
AreSorted [] = Unit {0}
AreSorted (first ∷ rest) = ((later : Place) → IsAmong rest later → first.street ≤ later.street) × AreSorted rest

-- a place with the same card, owner and street was there before
pub record SureFrom (olds : List Place) (new : Place) : Type 0 where
  pub old : Place
  pub among : IsAmong olds old
  pub sure : IsSureOf old new

-- each place of later streets comes from such a place
pub sure_from : (olds news : List Place) (new : Place) → AreSureOf olds news → IsAmong news new → SureFrom olds new
sure_from [] [] new sure among = absurd among
sure_from [] (first ∷ news) new sure among = absurd sure
sure_from (old ∷ olds) [] new sure among = absurd among
sure_from (old ∷ olds) (first ∷ news) new sure (inl same) = let P : Place → Type 0 = IsSureOf old in record { old = old; among = inl refl; sure = subst P same sure.0 }
sure_from (old ∷ olds) (first ∷ news) new sure (inr later) = let it = sure_from olds news new sure.1 later in record { old = it.old; among = inr it.among; sure = it.sure }

sorted_sure : (olds news : List Place) → AreSureOf olds news → AreSorted olds → AreSorted news
sorted_sure [] [] sure sorted = tt
sorted_sure [] (new ∷ news) sure sorted = absurd sure
sorted_sure (old ∷ olds) [] sure sorted = absurd sure
sorted_sure (old ∷ olds) (new ∷ news) sure sorted =
    (λ later among. let it = sure_from olds news later sure.1 among in omega (arith, sure.0.street, it.sure.street, sorted.0 it.old it.among), sorted_sure olds news sure.1 sorted.1)

sorted_append : (placed more : List Place) (street : ℕ) → AreSorted placed → ((place : Place) → IsAmong placed place → place.street ≤ street) → ((place : Place) → IsAmong more place → place.street ≡ street) → AreSorted (placed ++ more)
sorted_append [] more street sorted early here = all_here more here
  where
    all_here : (more : List Place) → ((place : Place) → IsAmong more place → place.street ≡ street) → AreSorted more
    all_here [] on = tt
    all_here (first ∷ rest) on = (λ later among. omega (arith, on first (inl refl), on later (inr among)), all_here rest (λ place among. on place (inr among)))
sorted_append (first ∷ rest) more street sorted early here = (
  λ later among. elim (among_append rest more later among) [
    | inl old ↦ sorted.0 later old
    | inr new ↦ omega (arith, early first (inl refl), here later new)
  ],
  sorted_append rest more street sorted.1 (λ place among. early place (inr among)) here,
)

deal_sorted : (code : Code) (owner : Option ℕ) (at : ℕ) (cards : List Slot) (placed : List Place) → ((place : Place) → IsAmong placed place → place.street ≤ at) → AreSorted placed → AreSorted (after_deal code owner at cards placed)
deal_sorted code owner at cards placed early sorted =
    let late : Bool = is_past_deck code placed at in
    let index : ℕ = count_by (is_in_group owner at) placed in
    sorted_append placed (places_dealt owner at late index (length placed) cards) at sorted early (λ place among. (are_new owner at late index (length placed) cards place among).street)

sorted_step : (setup : Setup) (before : Past) (at : ℕ) (event : Resolved) → PlacesOf setup before → Reaches setup before at → Stepped setup before at event → AreSorted (places_of setup.code before) → AreSorted (places_of setup.code (event ∷ before))
sorted_step setup before at _ law come (deals seat cards due is some few free) sorted = deal_sorted setup.code (Some seat) at cards (places_of setup.code before) (λ place among. omega (arith, law.reached place among, come.on)) sorted
sorted_step setup before at _ law come (boards cards due some few free) sorted = deal_sorted setup.code None at (map (λ card. slots.Known card) cards) (places_of setup.code before) (λ place among. omega (arith, law.reached place among, come.on)) sorted
sorted_step setup before at _ law come (mucks seat may) sorted = sorted
sorted_step setup before at _ law come (shows seat cards may free) sorted = sorted_sure (places_of setup.code before) (after_show setup.code seat cards (places_of setup.code before)) (show_sure setup.code seat cards (places_of setup.code before)) sorted
sorted_step setup before at _ law come (discards seat cards no_deal draw next few free held) sorted = sorted_sure (places_of setup.code before) (after_discard at seat cards (places_of setup.code before)) (discard_sure at seat cards (places_of setup.code before)) sorted
sorted_step setup before at _ law come (moves move no_deal no_draw on) sorted = by_fold (is_folding move.act)
  where
    by_fold : (b : Bool) → AreSorted (if b then after_fold move.seat (places_of setup.code before) else places_of setup.code before)
    by_fold true = sorted_sure (places_of setup.code before) (after_fold move.seat (places_of setup.code before)) (fold_sure move.seat (length (places_of setup.code before)) (places_of setup.code before)) sorted
    by_fold false = sorted

-- after legal events places are in the order of their streets
pub legal_sorted : (setup : Setup) (rules : Rules) (events : List Said) → AreLegal setup rules events → AreSorted (places_of setup.code (past_of setup events))
unfolding with_event
legal_sorted setup rules [] legal = tt
legal_sorted setup rules (event ∷ events) legal =
    let before = past_of setup events in
    let it = legal_past setup rules events legal.1 in
    sorted_step setup before (turn setup before).0 _ it.places (turn_reaches setup before it.past.within) (stepped setup rules before event legal.0) (legal_sorted setup rules events legal.1)

-- an earlier street has smaller numbers, and smaller numbers come first
pub street_number : (placed : List Place) (a b : Place) → AreRising placed → AreSorted placed → IsAmong placed a → IsAmong placed b → a.street < b.street → a.number < b.number
street_number [] a b up sorted in_a in_b less = absurd in_a
street_number (first ∷ rest) a b up sorted (inl is_a) (inl is_b) less = absurd (omega (arith, less, ap (λ (p : Place). p.street) is_a, ap (λ (p : Place). p.street) is_b))
street_number (first ∷ rest) a b up sorted (inl is_a) (inr in_b) less = omega (arith, up.0 b in_b, ap (λ (p : Place). p.number) is_a)
street_number (first ∷ rest) a b up sorted (inr in_a) (inl is_b) less = absurd (omega (arith, less, sorted.0 a in_a, ap (λ (p : Place). p.street) is_b))
street_number (first ∷ rest) a b up sorted (inr in_a) (inr in_b) less = street_number rest a b up.1 sorted.1 in_a in_b less

-- of two unknown cards of a seat the one with the lower number comes first
pub number_out : (placed : List Place) (a b : Place) → AreRising placed → UnknownsFirst placed → IsAmong placed a → IsAmong placed b → a.number < b.number → OutFirst a b
number_out [] a b up before in_a in_b less = absurd in_a
number_out (first ∷ rest) a b up before (inl is_a) (inl is_b) less = absurd (omega (arith, less, ap (λ (p : Place). p.number) is_a, ap (λ (p : Place). p.number) is_b))
number_out (first ∷ rest) a b up before (inl is_a) (inr in_b) less = let P : Place → Type 0 = λ p. OutFirst p b in subst P is_a (before.0 b in_b)
number_out (first ∷ rest) a b up before (inr in_a) (inl is_b) less = absurd (omega (arith, less, up.0 a in_a, ap (λ (p : Place). p.number) is_b))
number_out (first ∷ rest) a b up before (inr in_a) (inr in_b) less = number_out rest a b up.1 before.1 in_a in_b less

-- pieces one after another
pub out_append : (xs ys : List Place) → UnknownsFirst xs → UnknownsFirst ys → ((x y : Place) → IsAmong xs x → IsAmong ys y → OutFirst x y) → UnknownsFirst (xs ++ ys)
out_append [] ys first second cross = second
out_append (x ∷ xs) ys first second cross = (
  λ later among. elim (among_append xs ys later among) [
    | inl here ↦ first.0 later here
    | inr there ↦ cross x later (inl refl) there
  ],
  out_append xs ys first.1 second (λ a b in_a in_b. cross a b (inr in_a) in_b),
)

out_at : (p : Place → Bool) (first : Place) (rest : List Place) (b : Bool) → ((second : Place) → IsAmong rest second → OutFirst first second) → UnknownsFirst (filter p rest) → UnknownsFirst (if b then (first ∷ filter p rest) else filter p rest)
out_at p first rest true before later = (λ second among. before second (passed p rest second among).among, later)
out_at p first rest false before later = later

-- a filter keeps that order
pub out_filter : (p : Place → Bool) (placed : List Place) → UnknownsFirst placed → UnknownsFirst (filter p placed)
out_filter p [] before = tt
out_filter p (first ∷ rest) before = out_at p first rest (p first) before.0 (out_filter p rest before.1)

-- a piece for each key: its cards pass the key, and cards of different keys are in order
pub among_flat : {K : Type 0} (piece : K → List Place) (keys : List K) (place : Place) → IsAmong (flat_map piece keys) place → (key : K) × IsAmong (piece key) place
among_flat piece [] place among = absurd among
among_flat piece (key ∷ rest) place among = elim (among_append (piece key) (flat_map piece rest) place among) [
  | inl here ↦ (key, here)
  | inr later ↦ among_flat piece rest place later
]

-- and so do the streets one after another
pub street_out : (placed : List Place) (piece : ℕ → List Place) (start count : ℕ) → AreRising placed → AreSorted placed → UnknownsFirst placed → ((street : ℕ) (place : Place) → IsAmong (piece street) place → IsAmong placed place × (place.street ≡ street)) → ((street : ℕ) → UnknownsFirst (piece street)) → UnknownsFirst (flat_map piece (range_with_len start count)) × ((place : Place) → IsAmong (flat_map piece (range_with_len start count)) place → start ≤ place.street)
street_out placed piece start zero up sorted before is each = (tt, λ place among. absurd among)
street_out placed piece start (suc count) up sorted before is each =
    let rest = street_out placed piece (start + 1) count up sorted before is each in (
      out_append (piece start) (flat_map piece (range_with_len (start + 1) count)) (each start) rest.0 (λ x y in_x in_y.
          let mine = is start x in_x in
          let key = among_flat piece (range_with_len (start + 1) count) y in_y in
          let other = is key.0 y key.1 in
          number_out placed x y up before mine.0 other.0 (street_number placed x y up sorted mine.0 other.0 (omega (arith, mine.1, rest.1 y in_y)))),
      λ place among. elim (among_append (piece start) (flat_map piece (range_with_len (start + 1) count)) place among) [
        | inl here ↦ omega (arith, (is start place here).1)
        | inr later ↦ omega (arith, rest.1 place later)
      ],
    )
