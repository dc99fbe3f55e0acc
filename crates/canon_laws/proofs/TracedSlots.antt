-- What the canonical script reads of the places of a trace is what it would read of the script's own places.
use Rattle.std.proofs.Common.{◌≡◌, ℕ, Bool, true, false, List, [], ◌∷◌, map, filter, Option, refl, ap, if◌then◌else◌}
use Rattle.play_event.specs.Places.{Place}
use Rattle.play_event.specs.Trace.{TracedPlace, traced_place}
use Rattle.play_event.specs.CanonScript.{dealt_slots, discarded_slots, is_dealt_to, is_discard_of}
use Rattle.play_laws.proofs.PlaceGroups.{group_slots}
use Rattle.canon_laws.proofs.DrawRun.{out_slots}

slots_step : (q : TracedPlace → Bool) (first : Place) (rest : List Place) (b : Bool) → map (λ (p : TracedPlace). p.slot) (filter q (map traced_place rest)) ≡ map (λ (p : Place). p.slot) (filter (λ p. q (traced_place p)) rest) → map (λ (p : TracedPlace). p.slot) (if b then (traced_place first ∷ filter q (map traced_place rest)) else filter q (map traced_place rest)) ≡ map (λ (p : Place). p.slot) (if b then (first ∷ filter (λ p. q (traced_place p)) rest) else filter (λ p. q (traced_place p)) rest)
slots_step q first rest true later = ap (λ l. first.slot ∷ l) later
slots_step q first rest false later = later

slots_of : (q : TracedPlace → Bool) (placed : List Place) → map (λ (p : TracedPlace). p.slot) (filter q (map traced_place placed)) ≡ map (λ (p : Place). p.slot) (filter (λ p. q (traced_place p)) placed)
slots_of q [] = refl
slots_of q (first ∷ rest) = slots_step q first rest (q (traced_place first)) (slots_of q rest)

-- the cards dealt to an owner on a street
pub dealt_same : (placed : List Place) (owner : Option ℕ) (street : ℕ) → dealt_slots (map traced_place placed) owner street ≡ group_slots placed street owner
dealt_same placed owner street = slots_of (is_dealt_to owner street) placed

-- the cards that a seat discarded on a street
pub discarded_same : (placed : List Place) (seat street : ℕ) → discarded_slots (map traced_place placed) seat street ≡ out_slots placed street seat
discarded_same placed seat street = slots_of (is_discard_of seat street) placed
