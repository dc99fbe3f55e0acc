-- Each event of a canonical script has words.
use Rattle.std.proofs.Common.{◌≡◌, ℕ, Bool, true, false, ◌&&◌, ◌==◌, cond, nat_le, List, [], ◌∷◌, ◌++◌, map, filter, flat_map, reverse, Some, None, refl, ◌∙◌}
use Rattle.std.specs.List.{list_all, list_any}
use Rattle.std.proofs.lemmas.List.Folds.{list_all-append}
use Rattle.card_set.specs.declared.card.Slot.{Slot}
use Rattle.card_set.specs.Known.{known_among}
use Rattle.play_event.specs.Past.{Act, Folded, Called, Raised, BroughtIn, Move}
use Rattle.play_event.specs.Said.{Said, Discard, Show, Muck}
use Rattle.play_event.specs.Seats.{all_seats, is_live, live_count}
use Rattle.play_event.specs.Streets.{has_draw}
use Rattle.play_event.specs.Trace.{TracedPlace, streets_of}
use Rattle.play_event.specs.declared.setup.Setup.{Setup}
use Rattle.play_event.specs.TraceCore.{TraceCore}
use Rattle.play_event.specs.CanonScript.{act_named, board_said, canonical_script, deal_said, deals_said, dealt_slots, discards_said, discarded_slots, drawing_seats, held_slots, is_reached, move_named, moves_named, plain_moves, showdown_said, showing_said, street_said}
use Rattle.phh_actions.specs.Written.{has_words}

abbrev HaveWords : List Said → Type 0
HaveWords events = list_all has_words events ≡ true

both : (events others : List Said) → HaveWords events → HaveWords others → HaveWords (events ++ others)
both events others has have = list_all-append has_words events others ∙ rw (has, have) refl

each_map : {X : Type 0} (said : X → Said) → ((x : X) → has_words (said x) ≡ true) → (xs : List X) → HaveWords (map said xs)
each_map said has [] = refl
each_map said has (x ∷ xs) = rw (has x, each_map said has xs) refl

each_flat : {X : Type 0} (said : X → List Said) → ((x : X) → HaveWords (said x)) → (xs : List X) → HaveWords (flat_map said xs)
each_flat said has [] = refl
each_flat said has (x ∷ xs) = both (said x) (flat_map said xs) (has x) (each_flat said has xs)

where_so : (test : Bool) (events : List Said) → HaveWords events → HaveWords (cond test events [])
where_so true events has = has
where_so false events has = refl

deal_words : (seat : ℕ) (slots : List Slot) → HaveWords (deal_said seat slots)
deal_words seat [] = refl
deal_words seat (slot ∷ rest) = refl

board_words : (slots : List Slot) → HaveWords (board_said slots)
board_words [] = refl
board_words (slot ∷ rest) = refl

discard_words : (seat : ℕ) (slots : List Slot) → has_words (Discard seat slots) ≡ true
discard_words seat [] = refl
discard_words seat (slot ∷ rest) = refl

act_words : (act : Act) (seat target : ℕ) → has_words (act_named act seat target) ≡ true
act_words Folded seat target = refl
act_words Called seat target = refl
act_words Raised seat target = refl
act_words BroughtIn seat target = refl

showing_words : (test : Bool) (shown mucked : Said) → has_words shown ≡ true → has_words mucked ≡ true → has_words (cond test shown mucked) ≡ true
showing_words true shown mucked has have = has
showing_words false shown mucked has have = have

module _ (setup : Setup) (placed : List TracedPlace) (moves : List Move) where
  abbrev all_discards : ℕ → List Said
  all_discards street = map (λ seat. Discard seat (discarded_slots placed seat street)) (drawing_seats setup moves street)

  discards_words : (street : ℕ) → HaveWords (discards_said setup placed moves street)
  discards_words street =
      where_so (has_draw setup.code street && is_reached setup moves street) (all_discards street)
      (each_map (λ seat. Discard seat (discarded_slots placed seat street)) (λ seat. discard_words seat (discarded_slots placed seat street)) (drawing_seats setup moves street))

  hole_words : (street : ℕ) → HaveWords (flat_map (λ seat. deal_said seat (dealt_slots placed (Some seat) street)) (all_seats setup))
  hole_words street =
      each_flat (λ seat. deal_said seat (dealt_slots placed (Some seat) street)) (λ seat. deal_words seat (dealt_slots placed (Some seat) street)) (all_seats setup)

  deals_words : (street : ℕ) → HaveWords (deals_said setup placed street)
  deals_words street =
      both (flat_map (λ seat. deal_said seat (dealt_slots placed (Some seat) street)) (all_seats setup)) (board_said (dealt_slots placed None street))
      (hole_words street) (board_words (dealt_slots placed None street))

  moves_words : (street : ℕ) → HaveWords (moves_named moves street)
  moves_words street = each_map move_named (λ move. act_words move.act move.seat move.to) (reverse (filter (λ move. move.street == street) moves))

  street_words : (street : ℕ) → HaveWords (street_said setup placed moves street)
  street_words street =
      both (discards_said setup placed moves street) (deals_said setup placed street ++ moves_named moves street) (discards_words street)
      (both (deals_said setup placed street) (moves_named moves street) (deals_words street) (moves_words street))

  abbrev live_seats : List ℕ
  live_seats = filter (is_live moves) (all_seats setup)

  seat_words : (shown : List ℕ) (seat : ℕ) → has_words (showing_said placed shown seat) ≡ true
  seat_words shown seat = showing_words (list_any (λ other. other == seat) shown) (Show seat (known_among (held_slots placed seat))) (Muck seat) refl refl

  showdown_words : (shown : List ℕ) → HaveWords (showdown_said setup placed moves shown)
  showdown_words shown =
      where_so (nat_le 2 (live_count setup moves)) (map (showing_said placed shown) live_seats)
      (each_map (showing_said placed shown) (seat_words shown) live_seats)

-- the events of a canonical script have words
pub canonical_words : (setup : Setup) (trace : TraceCore) → list_all has_words (canonical_script setup trace) ≡ true
unfolding canonical_script
canonical_words setup trace =
    let moves = plain_moves trace.moves in
    both (flat_map (street_said setup trace.places moves) (streets_of setup)) (showdown_said setup trace.places moves trace.shown)
    (each_flat (street_said setup trace.places moves) (street_words setup trace.places moves) (streets_of setup))
    (showdown_words setup trace.places moves trace.shown)
