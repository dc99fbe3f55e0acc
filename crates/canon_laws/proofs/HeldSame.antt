-- What a live seat holds at the end is the same in the canonical past as in the script's.
use Rattle.std.proofs.Common.{◌≡◌, ℕ, ◌≤◌, Bool, true, false, ◌&&◌, ◌||◌, ◌==◌, not, nat_lt, nat_le, inl, inr, Option, Some, is_some, is_none, List, [], ◌∷◌, map, filter, refl, sym, ◌∙◌, ap, arith, if◌then◌else◌}
use Rattle.std.specs.List.{list_any}
use Rattle.std.proofs.lemmas.Bool.{and_parts, and_from, cases_lt, eq-eqb, ne_eqb, lt-ltb, le-ltb, le-leb, not_from_true, false_from_ne_true, both_ways}
use Rattle.card_set.specs.declared.card.Slot.{Slot}
use Rattle.play_event.specs.declared.setup.Setup.{Setup}
use Rattle.play_event.specs.declared.setup.Rules.{Rules}
use Rattle.play_event.specs.Games.{street_count}
use Rattle.play_event.specs.Said.{Said}
use Rattle.play_event.specs.Past.{Past, Move, moves_of}
use Rattle.play_event.specs.Seats.{is_live}
use Rattle.card_set.specs.Known.{hides_card}
use Rattle.play_event.specs.Places.{Place, is_same_owner, is_held_by}
use Rattle.play_event.specs.Table.{places_of}
use Rattle.play_event.specs.Scripts.{past_of}
use Rattle.play_event.specs.Laws.{AreLegal, IsAmong}
use Rattle.card_set.proofs.Tests.{false_true}
use Rattle.canon_laws.proofs.Mirrors.{Mirrors, AreMirrored}
use Rattle.play_laws.specs.LegalPlaces.{has_owner_folded}
use Rattle.play_laws.proofs.LegalPlaces.{legal_past}
use Rattle.play_laws.proofs.FittingMoves.{same_filter}
use Rattle.play_laws.proofs.DiscardCounts.{is_out_of}
use Rattle.canon_laws.proofs.FreeGroups.{is_out_by}
use Rattle.canon_laws.proofs.TraceOrder.{finals_of, is_final}
use Rattle.canon_laws.proofs.TraceOrderCounts.{legal_owned, seat_same}
use Rattle.play_laws.proofs.UnknownOrder.{legal_sorted}
use Rattle.play_laws.proofs.InDeck.{legal_cards}
use Rattle.play_laws.proofs.PlaceLists.{rising}
use Rattle.canon_laws.proofs.CleanShow.{HoldsKnown}
use Rattle.play_event.proofs.OwnerLaws.{is_same_owner-true}
use Rattle.play_event.proofs.ClashLaws.{not_at}
use Rattle.card_set.proofs.Options.{none_by_test}

-- the slots of what a seat holds
abbrev pub slots_held : ℕ → List Place → List Slot
slots_held seat placed = map (λ place. place.slot) (filter (is_held_by seat) placed)

slots_step : (p q : Place → Bool) (mine final : Place) (mines finals : List Place) (a b : Bool) → a ≡ b → mine.slot ≡ final.slot → map (λ (x : Place). x.slot) (filter p mines) ≡ map (λ (x : Place). x.slot) (filter q finals) → map (λ (x : Place). x.slot) (if a then (mine ∷ filter p mines) else filter p mines) ≡ map (λ (x : Place). x.slot) (if b then (final ∷ filter q finals) else filter q finals)
slots_step p q mine final mines finals true true same slot later = ap (λ s. s ∷ map (λ (x : Place). x.slot) (filter p mines)) slot ∙ ap (λ l. final.slot ∷ l) later
slots_step p q mine final mines finals true false same slot later = false_true (sym same)
slots_step p q mine final mines finals false true same slot later = false_true same
slots_step p q mine final mines finals false false same slot later = later

-- places that mirror show the same cards
pub slots_mirrored : (list : List Move) (out p q : Place → Bool) (mines finals : List Place) → ((mine final : Place) → IsAmong finals final → Mirrors list out mine final → p mine ≡ q final) → AreMirrored list out mines finals → map (λ (x : Place). x.slot) (filter p mines) ≡ map (λ (x : Place). x.slot) (filter q finals)
slots_mirrored list out p q [] [] same mirrored = refl
slots_mirrored list out p q [] (final ∷ finals) same mirrored = absurd mirrored
slots_mirrored list out p q (mine ∷ mines) [] same mirrored = absurd mirrored
slots_mirrored list out p q (mine ∷ mines) (final ∷ finals) same mirrored =
    slots_step p q mine final mines finals (p mine) (q final) (same mine final (inl refl) mirrored.0) mirrored.0.slot (slots_mirrored list out p q mines finals (λ a b among. same a b (inr among)) mirrored.1)

zero_is : (n : ℕ) → not (nat_lt 0 n) ≡ (n == 0)
zero_is n = elim (cases_lt 0 n) [
  | inl some ↦ ap not (lt-ltb 0 n some) ∙ sym (ne_eqb n 0 (λ is. omega (arith, is, some)))
  | inr none ↦ ap not (le-ltb 0 n none) ∙ sym (eq-eqb n 0 (omega (arith, none)))
]

-- by whose card it is
held_by : (seat : ℕ) (list : List Move) (owner : Option ℕ) (when : Option ℕ) (discarded : ℕ) (out b : Bool) → is_live list seat ≡ true → is_same_owner owner (Some seat) ≡ b → out ≡ nat_lt 0 discarded → is_some when ≡ (out || has_owner_folded list owner) → (b && is_none when) ≡ (b && (discarded == 0))
held_by seat list owner when discarded out false live own is has = refl
held_by seat list owner when discarded out true live own is has =
    let mine : owner ≡ Some seat = is_same_owner-true owner (Some seat) own in
    let stays : has_owner_folded list owner ≡ false = ap (has_owner_folded list) mine ∙ not_from_true (is_live list seat) live in
    none_by_test when (nat_lt 0 discarded) (has ∙ (ap (λ b. out || b) stays ∙ (or_none out ∙ is))) ∙ zero_is discarded
  where
    or_none : (b : Bool) → (b || false) ≡ b
    or_none true = refl
    or_none false = refl

-- what a live seat holds at the end in the canonical past
pub held_same : (setup : Setup) (rules : Rules) (events : List Said) (mines : List Place) (seat : ℕ) → AreLegal setup rules events → 1 ≤ seat → seat ≤ setup.stacks.seats → is_live (moves_of (past_of setup events)) seat ≡ true → AreMirrored (moves_of (past_of setup events)) (is_out_by (street_count setup.code)) mines (finals_of setup (places_of setup.code (past_of setup events)) (street_count setup.code)) → slots_held seat mines ≡ map (λ (x : Place). x.slot) (filter (is_out_of 0 seat) (finals_of setup (places_of setup.code (past_of setup events)) (street_count setup.code)))
held_same setup rules events mines seat legal least most live mirrored =
    let script : Past = past_of setup events in
    let placed : List Place = places_of setup.code script in
    let count : ℕ = street_count setup.code in
    let finals : List Place = finals_of setup placed count in
    let law = legal_past setup rules events legal in
    slots_mirrored (moves_of script) (is_out_by count) (is_held_by seat) (is_out_of 0 seat) mines finals
    (λ mine final among mirror.
    ap (λ o. is_same_owner o (Some seat) && is_none mine.gone_after) mirror.owner
    ∙ held_by seat (moves_of script) final.owner mine.gone_after final.discarded (is_out_by count final) (is_same_owner final.owner (Some seat)) live refl
    (by_within (nat_lt 0 final.discarded) (nat_le final.discarded count) (le-leb final.discarded count (omega (arith, law.places.out_reached final (is_final setup placed count final among).among, law.past.within)))) mirror.gone_after)
    mirrored
  where
    by_within : (a b : Bool) → b ≡ true → (a && b) ≡ a
    by_within true b is = is
    by_within false b is = refl

-- and in the script's
pub held_script : (setup : Setup) (rules : Rules) (events : List Said) (seat : ℕ) → AreLegal setup rules events → 1 ≤ seat → seat ≤ setup.stacks.seats → is_live (moves_of (past_of setup events)) seat ≡ true → map (λ (x : Place). x.slot) (filter (is_out_of 0 seat) (finals_of setup (places_of setup.code (past_of setup events)) (street_count setup.code))) ≡ slots_held seat (places_of setup.code (past_of setup events))
held_script setup rules events seat legal least most live =
    let script : Past = past_of setup events in
    let placed : List Place = places_of setup.code script in
    let count : ℕ = street_count setup.code in
    let law = legal_past setup rules events legal in
    ap (map (λ (x : Place). x.slot))
    (seat_same setup placed (is_out_of 0 seat) seat count (rising 0 placed (legal_cards setup rules events legal).list.numbered) (legal_sorted setup rules events legal) (legal_owned setup rules events legal) least most
    (λ place is. (and_parts (is_same_owner place.owner (Some seat)) (place.discarded == 0) is).0)
    (λ place among is. (law.places.since place among, omega (arith, law.places.reached place among, law.past.within)))
    ∙ sym (same_filter (is_held_by seat) (is_out_of 0 seat) placed (λ place among.
    held_by seat (moves_of script) place.owner place.gone_after place.discarded (nat_lt 0 place.discarded) (is_same_owner place.owner (Some seat)) live refl refl (law.places.gone_is place among))))

-- an unknown card among them
any_step : (seat : ℕ) (place : Place) (rest : List Place) (a : Bool) → is_held_by seat place ≡ a → list_any (λ (p : Place). is_held_by seat p && hides_card p.slot) rest ≡ list_any hides_card (slots_held seat rest) → ((a && hides_card place.slot) || list_any (λ (p : Place). is_held_by seat p && hides_card p.slot) rest) ≡ list_any hides_card (map (λ (p : Place). p.slot) (if a then (place ∷ filter (is_held_by seat) rest) else filter (is_held_by seat) rest))
any_step seat place rest true is later = ap (λ b. hides_card place.slot || b) later
any_step seat place rest false is later = later

-- a seat holds an unknown card if one of its cards is unknown
pub any_held : (seat : ℕ) (placed : List Place) → list_any (λ place. is_held_by seat place && hides_card place.slot) placed ≡ list_any hides_card (slots_held seat placed)
any_held seat [] = refl
any_held seat (place ∷ rest) = any_step seat place rest (is_held_by seat place) refl (any_held seat rest)

-- the same cards have the same unknown cards
pub unknown_same : (seat : ℕ) (some all : List Place) → slots_held seat some ≡ slots_held seat all → list_any (λ place. is_held_by seat place && hides_card place.slot) some ≡ list_any (λ place. is_held_by seat place && hides_card place.slot) all
unknown_same seat some all same = any_held seat some ∙ (ap (list_any hides_card) same ∙ sym (any_held seat all))

-- a seat without an unknown card holds known ones
pub holds_known : (seat : ℕ) (placed : List Place) → list_any (λ place. is_held_by seat place && hides_card place.slot) placed ≡ false → HoldsKnown seat placed
holds_known seat placed none place among held =
    false_from_ne_true (hides_card place.slot) (λ unknown.
    both_ways (is_held_by seat place && hides_card place.slot) (not_at (λ place. is_held_by seat place && hides_card place.slot) placed place none among) (and_from (is_held_by seat place) (hides_card place.slot) held unknown))
