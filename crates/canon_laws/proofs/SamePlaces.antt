-- Places that mirror those of a script give the same places of the trace.
use Rattle.std.proofs.Common.{◌≡◌, ℕ, zero, suc, ◌+◌, ◌≤◌, Bool, true, false, ◌&&◌, ◌==◌, nat_lt, nat_le, inl, inr, Option, Some, None, List, [], ◌∷◌, ◌++◌, map, filter, refl, sym, ◌∙◌, ap, subst, arith, if◌then◌else◌}
use Rattle.std.specs.List.{flat_map, range_with_len}
use Rattle.std.proofs.lemmas.Bool.{le-leb, ltb-false}
use Rattle.std.proofs.lemmas.List.{map-append}
use Rattle.play_event.specs.declared.setup.Setup.{Setup}
use Rattle.play_event.specs.Games.{street_count}
use Rattle.play_event.specs.Past.{Past, Move}
use Rattle.play_event.specs.Seats.{all_seats}
use Rattle.play_event.specs.Places.{Place, is_same_owner, is_in_group, group_of}
use Rattle.play_event.specs.Table.{places_of}
use Rattle.play_event.specs.Trace.{traced_places, places_on, TracedPlace, traced_place}
use Rattle.play_event.specs.Laws.{IsAmong}
use Rattle.card_set.proofs.Tests.{false_true}
use Rattle.canon_laws.proofs.Mirrors.{Mirrors, AreMirrored}
use Rattle.canon_laws.proofs.FreeGroups.{is_out_by}
use Rattle.canon_laws.proofs.TraceOrder.{IsOwner, a_seat, the_board, finals_of, finals_group, street_pieces}

-- one place, once all its discards are over
same_place : (list : List Move) (last : ℕ) (mine final : Place) → Mirrors list (is_out_by last) mine final → final.discarded ≤ last → traced_place mine ≡ traced_place final
same_place list last mine final mirror most =
    let P : Option ℕ → Type 0 = λ o. traced_place mine ≡ (record { owner = o; street = final.street; slot = final.slot; discarded = final.discarded }) in
    subst P mirror.owner (by_street mirror.street)
  where
    all_out : mine.discarded ≡ final.discarded
    all_out = mirror.discarded ∙ by_out (nat_lt 0 final.discarded) refl
      where
        by_out : (b : Bool) → nat_lt 0 final.discarded ≡ b → (if b && nat_le final.discarded last then final.discarded else 0) ≡ final.discarded
        by_out true some = ap (λ c. if c then final.discarded else 0) (le-leb final.discarded last most)
        by_out false none = omega (arith, ltb-false 0 final.discarded none)

    by_street : mine.street ≡ final.street → traced_place mine ≡ (record { owner = mine.owner; street = final.street; slot = final.slot; discarded = final.discarded })
    by_street same =
        ap {B = TracedPlace} (λ s. record { owner = mine.owner; street = s; slot = mine.slot; discarded = mine.discarded }) same
        ∙ (ap {B = TracedPlace} (λ s. record { owner = mine.owner; street = final.street; slot = s; discarded = mine.discarded }) mirror.slot
        ∙ ap {B = TracedPlace} (λ d. record { owner = mine.owner; street = final.street; slot = final.slot; discarded = d }) all_out)

-- one group
group_step : (mine final : Place) (mines finals : List Place) (a b : Bool) → a ≡ b → traced_place mine ≡ traced_place final → map traced_place mines ≡ map traced_place finals → map traced_place (if a then (mine ∷ mines) else mines) ≡ map traced_place (if b then (final ∷ finals) else finals)
group_step mine final mines finals true true same one later = ap (λ p. p ∷ map traced_place mines) one ∙ ap (λ l. traced_place final ∷ l) later
group_step mine final mines finals true false same one later = false_true (sym same)
group_step mine final mines finals false true same one later = false_true same
group_step mine final mines finals false false same one later = later

same_group : (list : List Move) (last : ℕ) (owner : Option ℕ) (street : ℕ) (mines finals : List Place) → AreMirrored list (is_out_by last) mines finals → ((final : Place) → IsAmong finals final → final.discarded ≤ last) → map traced_place (filter (is_in_group owner street) mines) ≡ map traced_place (filter (is_in_group owner street) finals)
same_group list last owner street [] [] mirrored most = refl
same_group list last owner street [] (final ∷ finals) mirrored most = absurd mirrored
same_group list last owner street (mine ∷ mines) [] mirrored most = absurd mirrored
same_group list last owner street (mine ∷ mines) (final ∷ finals) mirrored most =
    group_step mine final (filter (is_in_group owner street) mines) (filter (is_in_group owner street) finals) (is_in_group owner street mine) (is_in_group owner street final)
    (ap (λ o. is_same_owner o owner && (mine.street == street)) mirrored.0.owner ∙ ap (λ s. is_same_owner final.owner owner && (s == street)) mirrored.0.street)
    (same_place list last mine final mirrored.0 (most final (inl refl)))
    (same_group list last owner street mines finals mirrored.1 (λ other among. most other (inr among)))

-- all groups
seats_same : (some all : List Place) (street start count seats : ℕ) → start + count ≤ seats + 1 → 1 ≤ start → ((seat : ℕ) → 1 ≤ seat → seat ≤ seats → map traced_place (group_of some street (Some seat)) ≡ map traced_place (group_of all street (Some seat))) → map traced_place (flat_map (λ seat. group_of some street (Some seat)) (range_with_len start count)) ≡ map traced_place (flat_map (λ seat. group_of all street (Some seat)) (range_with_len start count))
seats_same some all street start zero seats most least same = refl
seats_same some all street start (suc count) seats most least same =
    map-append traced_place (group_of some street (Some start)) (flat_map (λ seat. group_of some street (Some seat)) (range_with_len (start + 1) count))
    ∙ (ap (λ l. l ++ map traced_place (flat_map (λ seat. group_of some street (Some seat)) (range_with_len (start + 1) count))) (same start least (omega (arith, most)))
    ∙ (ap (λ l. map traced_place (group_of all street (Some start)) ++ l) (seats_same some all street (start + 1) count seats (omega (arith, most)) (omega arith) same)
    ∙ sym (map-append traced_place (group_of all street (Some start)) (flat_map (λ seat. group_of all street (Some seat)) (range_with_len (start + 1) count)))))

street_same : (setup : Setup) (some all : List Place) (street : ℕ) → ((owner : Option ℕ) → IsOwner setup owner → map traced_place (group_of some street owner) ≡ map traced_place (group_of all street owner)) → map traced_place (places_on setup some street) ≡ map traced_place (places_on setup all street)
street_same setup some all street same =
    let seats : List Place → List Place = λ l. flat_map (λ seat. group_of l street (Some seat)) (all_seats setup) in
    ap (map traced_place) (street_pieces setup some street)
    ∙ (map-append traced_place (seats some) (group_of some street None)
    ∙ (ap (λ l. l ++ map traced_place (group_of some street None)) (seats_same some all street 1 setup.stacks.seats setup.stacks.seats (omega arith) (omega arith) (λ seat least most. same (Some seat) (a_seat seat least most)))
    ∙ (ap (λ l. map traced_place (seats all) ++ l) (same None the_board)
    ∙ (sym (map-append traced_place (seats all) (group_of all street None)) ∙ ap (map traced_place) (sym (street_pieces setup all street))))))

streets_same : (setup : Setup) (some all : List Place) (start count last : ℕ) → 1 ≤ start → start + count ≤ last + 1 → ((street : ℕ) (owner : Option ℕ) → 1 ≤ street → street ≤ last → IsOwner setup owner → map traced_place (group_of some street owner) ≡ map traced_place (group_of all street owner)) → map traced_place (flat_map (places_on setup some) (range_with_len start count)) ≡ map traced_place (flat_map (places_on setup all) (range_with_len start count))
streets_same setup some all start zero last least most same = refl
streets_same setup some all start (suc count) last least most same =
    map-append traced_place (places_on setup some start) (flat_map (places_on setup some) (range_with_len (start + 1) count))
    ∙ (ap (λ l. l ++ map traced_place (flat_map (places_on setup some) (range_with_len (start + 1) count))) (street_same setup some all start (λ owner own. same start owner least (omega (arith, most)) own))
    ∙ (ap (λ l. map traced_place (places_on setup all start) ++ l) (streets_same setup some all (start + 1) count last (omega arith) (omega (arith, most)) same)
    ∙ sym (map-append traced_place (places_on setup all start) (flat_map (places_on setup all) (range_with_len (start + 1) count)))))

-- the places of the trace are the same
pub same_places : (setup : Setup) (mine script : Past) (list : List Move) → AreMirrored list (is_out_by (street_count setup.code)) (places_of setup.code mine) (finals_of setup (places_of setup.code script) (street_count setup.code)) → ((final : Place) → IsAmong (finals_of setup (places_of setup.code script) (street_count setup.code)) final → final.discarded ≤ street_count setup.code) → traced_places setup mine ≡ traced_places setup script
same_places setup mine script list mirrored most =
    let last : ℕ = street_count setup.code in
    let all : List Place = places_of setup.code script in
    streets_same setup (places_of setup.code mine) all 1 last last (omega arith) (omega arith) (λ street owner from to own.
    same_group list last owner street (places_of setup.code mine) (finals_of setup all last) mirrored most
    ∙ ap (map traced_place) (finals_group setup all owner street last own from to))
