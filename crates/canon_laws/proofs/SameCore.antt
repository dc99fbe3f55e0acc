-- The canonical script leaves the trace of the script.
use Rattle.std.proofs.Common.{◌≡◌, ℕ, ◌+◌, ◌≤◌, ◌<◌, Bool, true, false, ◌&&◌, not, nat_le, List, [], ◌∷◌, map, filter, reverse, refl, ◌∙◌, ap, arith, sym}
use Rattle.std.proofs.lemmas.Bool.{lt-leb, leb-true}
use Rattle.std.proofs.lemmas.List.{map-append, reverse-append}
use Rattle.play_event.specs.declared.setup.Setup.{Setup}
use Rattle.play_event.specs.declared.setup.Rules.{Rules}
use Rattle.play_event.specs.Games.{street_count}
use Rattle.play_event.specs.Said.{Said}
use Rattle.play_event.specs.Past.{Past, Move, moves_of}
use Rattle.play_event.specs.Seats.{is_live, all_seats, live_count}
use Rattle.play_event.specs.Showing.{has_mucked}
use Rattle.play_event.specs.Table.{places_of}
use Rattle.play_event.specs.Trace.{traced_move, traced_moves, traced_places, is_shown, is_mucked, has_unknown_card, TracedPlace}
use Rattle.play_event.specs.Scripts.{past_of}
use Rattle.play_event.specs.Laws.{AreLegal}
use Rattle.play_event.specs.TraceCore.{TraceCore, core_of}
use Rattle.play_event.specs.Stakes.{pots_after, returned_after}
use Rattle.play_event.specs.CanonScript.{plain_move, plain_moves}
use Rattle.play_laws.proofs.LegalPlaces.{legal_past}
use Rattle.canon_laws.proofs.TraceOrder.{is_final}
use Rattle.card_set.proofs.NumbersOfRange.{filter_range}
use Rattle.canon_laws.proofs.HeldSame.{held_same, held_script, unknown_same}
use Rattle.canon_laws.proofs.SamePlaces.{same_places}
use Rattle.canon_laws.proofs.LastPast.{IsLast}

-- the moves of a trace are the moves
pub plain_again : (setup : Setup) (list : List Move) → plain_moves (traced_moves setup list) ≡ list
plain_again setup [] = refl
plain_again setup (move ∷ before) =
    ap reverse (map-append plain_move (traced_moves setup before) (traced_move setup move before ∷ []))
    ∙ (reverse-append (map plain_move (traced_moves setup before)) (move ∷ [])
    ∙ ap (λ l. move ∷ l) (plain_again setup before))

-- who shows
same_shown : (m u : Bool) → (not (not (not m && not u)) && not u) ≡ (not m && not u)
same_shown true true = refl
same_shown true false = refl
same_shown false true = refl
same_shown false false = refl

shown_by : (c l m u n v : Bool) → (c ≡ true → l ≡ true → (n ≡ not (((c && l) && not m) && not u)) × (v ≡ u)) → (((c && l) && not n) && not v) ≡ (((c && l) && not m) && not u)
shown_by true true m u n v same =
    let it = same refl refl in
    ap (λ b. not b && not v) it.0 ∙ (ap (λ b. not (not (not m && not u)) && not b) it.1 ∙ same_shown m u)
shown_by true false m u n v same = refl
shown_by false l m u n v same = refl

shown_same : (setup : Setup) (rules : Rules) (events : List Said) (words : List Said) (seat : ℕ) → AreLegal setup rules events → (it : IsLast setup rules (past_of setup events) words) → 1 ≤ seat → seat ≤ setup.stacks.seats → is_shown setup it.after seat ≡ is_shown setup (past_of setup events) seat
shown_same setup rules events words seat legal it least most =
    let script : Past = past_of setup events in
    let list : List Move = moves_of script in
    ap (λ l. ((nat_le 2 (live_count setup l) && is_live l seat) && not (has_mucked it.after seat)) && not (has_unknown_card setup it.after seat)) it.moves
    ∙ shown_by (nat_le 2 (live_count setup list)) (is_live list seat) (has_mucked script seat) (has_unknown_card setup script seat) (has_mucked it.after seat) (has_unknown_card setup it.after seat)
    (λ several live. (
      it.mucked (lt-leb (live_count setup list) 1 (omega (arith, leb-true 2 (live_count setup list) several))) seat least most live,
      unknown_same seat (places_of setup.code it.after) (places_of setup.code script) (held_same setup rules events (places_of setup.code it.after) seat legal least most live it.mirrored ∙ held_script setup rules events seat legal least most live),
    ))

-- the parts of a trace
unfoldable pub core_by : Setup → List TracedPlace → List Move → List ℕ → List ℕ → TraceCore
core_by setup places list shown mucked =
    record { places = places; moves = traced_moves setup list; shown = shown; mucked = mucked; pots = pots_after setup list; returned = map (returned_after setup list) (all_seats setup) }

-- traces with the same parts are the same
pub core_parts : (setup : Setup) (places places' : List TracedPlace) (list list' : List Move) (shown shown' mucked mucked' : List ℕ) → places ≡ places' → list ≡ list' → shown ≡ shown' → mucked ≡ mucked' → core_by setup places list shown mucked ≡ core_by setup places' list' shown' mucked'
core_parts setup places places' list list' shown shown' mucked mucked' one two three four =
    ap (λ x. core_by setup x list shown mucked) one ∙ (ap (λ x. core_by setup places' x shown mucked) two
    ∙ (ap (λ x. core_by setup places' list' x mucked) three ∙ ap (λ x. core_by setup places' list' shown' x) four))

-- so what the trace keeps is the same
pub same_core : (setup : Setup) (rules : Rules) (events : List Said) (words : List Said) → AreLegal setup rules events → (it : IsLast setup rules (past_of setup events) words) → core_of setup it.after ≡ core_of setup (past_of setup events)
unfolding core_by
same_core setup rules events words legal it =
    let script : Past = past_of setup events in
    let law = legal_past setup rules events legal in
    let shown : (seat : ℕ) → 1 ≤ seat → seat < 1 + setup.stacks.seats → is_shown setup it.after seat ≡ is_shown setup script seat = λ seat from to. shown_same setup rules events words seat legal it from (omega (arith, to)) in
    core_parts setup (traced_places setup it.after) (traced_places setup script) (moves_of it.after) (moves_of script)
    (filter (is_shown setup it.after) (all_seats setup)) (filter (is_shown setup script) (all_seats setup)) (filter (is_mucked setup it.after) (all_seats setup)) (filter (is_mucked setup script) (all_seats setup))
    (same_places setup it.after script (moves_of script) it.mirrored (λ final among. omega (arith, law.places.out_reached final (is_final setup (places_of setup.code script) (street_count setup.code) final among).among, law.past.within)))
    it.moves
    (filter_range (is_shown setup it.after) (is_shown setup script) 1 setup.stacks.seats shown)
    (filter_range (is_mucked setup it.after) (is_mucked setup script) 1 setup.stacks.seats (λ seat from to.
    ap (λ l. (nat_le 2 (live_count setup l) && is_live l seat) && not (is_shown setup it.after seat)) it.moves
    ∙ ap (λ b. (nat_le 2 (live_count setup (moves_of script)) && is_live (moves_of script) seat) && not b) (shown seat from to)))

-- the moves of a past by what its trace keeps
pub moves_kept : (setup : Setup) (past later : Past) → core_of setup later ≡ core_of setup past → moves_of later ≡ moves_of past
moves_kept setup past later same =
    sym (plain_again setup (moves_of later)) ∙ ap (λ (core : TraceCore). plain_moves core.moves) same ∙ plain_again setup (moves_of past)
