-- The discards of a street in the canonical script, and the past after them.
use Rattle.std.proofs.Common.{◌≡◌, ℕ, ◌+◌, ◌≤◌, Bool, true, false, ◌&&◌, ◌==◌, inl, Some, List, [], map, filter, length, refl, sym, ◌∙◌, ap, subst, arith, if◌then◌else◌}
use Rattle.std.proofs.lemmas.Bool.{and_parts, eqb-true, le-leb, leb-false}
use Rattle.std.proofs.lemmas.List.{length-map}
use Rattle.card_set.specs.declared.card.Slot.{Slot}
use Rattle.play_event.specs.declared.setup.Setup.{Setup}
use Rattle.play_event.specs.declared.setup.Rules.{Rules}
use Rattle.play_event.specs.Games.{street_count}
use Rattle.play_event.specs.Streets.{has_draw}
use Rattle.play_event.specs.Said as said
use Rattle.play_event.specs.Said.{Said}
use Rattle.play_event.specs.Past.{Past, Move, moves_of, moves_before}
use Rattle.play_event.specs.Seats.{is_live, all_seats, live_count}
use Rattle.play_event.specs.Dealing.{hole_cards_dealt, board_cards_dealt, cards_discarded, has_drawn}
use Rattle.play_event.specs.Places.{Place, is_same_owner, group_of}
use Rattle.play_event.specs.Table.{places_of}
use Rattle.play_event.specs.Trace.{traced_places}
use Rattle.play_event.specs.Scripts.{past_of}
use Rattle.play_event.specs.Laws.{AreLegal}
use Rattle.play_event.specs.CanonScript.{discards_said, discarded_slots, drawing_seats, is_reached}
use Rattle.canon_laws.proofs.Mirrors.{AreMirrored}
use Rattle.canon_laws.proofs.Runs.{Runs}
use Rattle.canon_laws.proofs.CardEvents.{HasCome}
use Rattle.canon_laws.proofs.MovesRun.{IsLed, led_on}
use Rattle.play_laws.proofs.LegalPlaces.{legal_past, PlacesOf}
use Rattle.play_laws.proofs.InDeck.{legal_cards}
use Rattle.play_laws.proofs.PlaceLists.{rising}
use Rattle.play_laws.proofs.DiscardCounts.{is_out_of, out_counts}
use Rattle.play_laws.proofs.UnknownOrder.{legal_sorted}
use Rattle.play_laws.proofs.PlayedStreets.{IsReached, IsDone, folded_group, draw_group}
use Rattle.canon_laws.proofs.DiscardTests.{after_last, no_draw_out}
use Rattle.canon_laws.proofs.TraceOrderCounts.{legal_owned, seat_same}
use Rattle.canon_laws.proofs.TraceOrder.{finals_of, is_final}
use Rattle.canon_laws.proofs.FreeGroups.{is_out_by}
use Rattle.play_laws.proofs.PlaceGroups.{group_slots}
use Rattle.canon_laws.proofs.DiscardsRun.{is_out_to, mirrored_as}
use Rattle.canon_laws.proofs.DrawRun.{with_discards, out_slots}
use Rattle.play_laws.proofs.DrawTables.{draw_tables}
use Rattle.canon_laws.proofs.StreetCounts.{IsAside, aside_same, aside_discards, discards_holes, discards_board, discards_own}
use Rattle.canon_laws.proofs.StreetLists.{IsBlock, discards_block}
use Rattle.canon_laws.proofs.TracedSlots.{discarded_same}
use Rattle.card_set.proofs.NumbersOfRange.{map_same}
use Rattle.canon_laws.proofs.Street.{AtStreet, draw_run}
use Rattle.card_set.proofs.Tests.{false_true}

-- the discards of a seat, in the trace's order and in the script's
pub out_finals : (setup : Setup) (rules : Rules) (events : List Said) (street seat count : ℕ) → AreLegal setup rules events → 1 ≤ street → street ≤ count + 1 → 1 ≤ seat → seat ≤ setup.stacks.seats → filter (is_out_of street seat) (finals_of setup (places_of setup.code (past_of setup events)) count) ≡ filter (is_out_of street seat) (places_of setup.code (past_of setup events))
out_finals setup rules events street seat count legal some within least most =
    let placed : List Place = places_of setup.code (past_of setup events) in
    let law : PlacesOf setup (past_of setup events) = (legal_past setup rules events legal).places in
    seat_same setup placed (is_out_of street seat) seat count (rising 0 placed (legal_cards setup rules events legal).list.numbered) (legal_sorted setup rules events legal) (legal_owned setup rules events legal) least most
    (λ place is. (and_parts (is_same_owner place.owner (Some seat)) (place.discarded == street) is).0)
    (λ place among is.
    let on : place.discarded ≡ street = eqb-true place.discarded street (and_parts (is_same_owner place.owner (Some seat)) (place.discarded == street) is).1 in
    (law.since place among, omega (arith, within, on, law.out_after place among (omega (arith, on, some)))))

-- after the discards of a street, the deals come
pub record AtDeals (setup : Setup) (rules : Rules) (script : Past) (before : ℕ) (start mine : Past) : Type 0 where
  pub led : IsLed setup rules mine
  pub come : HasCome setup mine (before + 1)
  pub same_moves : moves_of mine ≡ moves_before (before + 1) (moves_of script)
  pub mirrored : AreMirrored (moves_before (before + 1) (moves_of script)) (is_out_by (before + 1)) (places_of setup.code mine) (finals_of setup (places_of setup.code script) before)
  pub holes : (seat : ℕ) → hole_cards_dealt mine (before + 1) seat ≡ 0
  pub board : board_cards_dealt mine (before + 1) ≡ 0
  pub out : has_draw setup.code (before + 1) ≡ true → (seat : ℕ) → 1 ≤ seat → seat ≤ setup.stacks.seats → cards_discarded mine (before + 1) seat ≡ length (group_slots (places_of setup.code script) (before + 1) (Some seat))
  pub drawn : has_draw setup.code (before + 1) ≡ true → (seat : ℕ) → 1 ≤ seat → seat ≤ setup.stacks.seats → is_live (moves_of mine) seat ≡ true → has_drawn mine (before + 1) seat ≡ true
  pub aside : IsAside (before + 1) start mine
  pub block : IsBlock (before + 1) start mine
  pub run : Runs setup rules start (discards_said setup (traced_places setup script) (moves_of script) (before + 1)) mine

-- a street without a draw
pub undrawn : (setup : Setup) (rules : Rules) (events : List Said) (mine : Past) (before : ℕ) → AreLegal setup rules events → AtStreet setup rules (past_of setup events) before mine → HasCome setup mine (before + 1) → has_draw setup.code (before + 1) ≡ false → AtDeals setup rules (past_of setup events) before mine mine
undrawn setup rules events mine before legal at come no_draw =
    let script : Past = past_of setup events in
    let placed : List Place = places_of setup.code script in
    let tp = traced_places setup script in
    let R : List Said → Type 0 = λ l. Runs setup rules mine l mine in
    let none : discards_said setup tp (moves_of script) (before + 1) ≡ [] = ap (λ b. if b && is_reached setup (moves_of script) (before + 1) then map (λ seat. said.Discard seat (discarded_slots tp seat (before + 1))) (drawing_seats setup (moves_of script) (before + 1)) else []) no_draw in
    record {
      led = at.led;
      come = come;
      same_moves = at.same_moves;
      mirrored = mirrored_as (moves_before (before + 1) (moves_of script)) (is_out_by before) (is_out_by (before + 1)) (places_of setup.code mine) (finals_of setup placed before) (λ final among. no_draw_out setup rules events before final legal (is_final setup placed before final among).among no_draw) at.mirrored;
      holes = λ seat. at.no_holes (before + 1) seat (omega arith);
      board = at.no_board (before + 1) (omega arith);
      out = λ draws. false_true (sym no_draw ∙ draws);
      drawn = λ draws. false_true (sym no_draw ∙ draws);
      aside = aside_same (before + 1) mine;
      block = inl refl;
      run = subst R (sym none) refl;
    }

-- how many cards a seat discards
out_length : (setup : Setup) (rules : Rules) (events : List Said) (before seat : ℕ) (live : Bool) → AreLegal setup rules events → IsDone setup (past_of setup events) (before + 1) → has_draw setup.code (before + 1) ≡ true → 1 ≤ seat → seat ≤ setup.stacks.seats → is_live (moves_before (before + 1) (moves_of (past_of setup events))) seat ≡ live → (if live then length (out_slots (finals_of setup (places_of setup.code (past_of setup events)) before) (before + 1) seat) else 0) ≡ length (group_slots (places_of setup.code (past_of setup events)) (before + 1) (Some seat))
out_length setup rules events before seat true legal done draws least most live =
    let script : Past = past_of setup events in
    let placed : List Place = places_of setup.code script in
    let finals : List Place = finals_of setup placed before in
    length-map (filter (is_out_of (before + 1) seat) finals) (λ (p : Place). p.slot)
    ∙ (ap (λ (l : List Place). length l) (out_finals setup rules events (before + 1) seat before legal (omega arith) (omega arith) least most)
    ∙ (sym (draw_group setup script (before + 1) seat (legal_past setup rules events legal).past done (out_counts setup rules events legal) draws (omega arith) least most)
    ∙ sym (length-map (group_of placed (before + 1) (Some seat)) (λ (p : Place). p.slot))))
out_length setup rules events before seat false legal done draws least most folded =
    let script : Past = past_of setup events in
    sym (length-map (group_of (places_of setup.code script) (before + 1) (Some seat)) (λ (p : Place). p.slot) ∙ folded_group setup script (before + 1) seat (legal_past setup rules events legal).places folded)

-- a street with a draw
pub all_drawn : (setup : Setup) (rules : Rules) (events : List Said) (mine : Past) (before : ℕ) → AreLegal setup rules events → IsDone setup (past_of setup events) (before + 1) → AtStreet setup rules (past_of setup events) before mine → HasCome setup mine (before + 1) → IsReached setup (moves_of (past_of setup events)) (before + 1) → before + 1 ≤ street_count setup.code → has_draw setup.code (before + 1) ≡ true → AtDeals setup rules (past_of setup events) before mine (with_discards (before + 1) (out_slots (finals_of setup (places_of setup.code (past_of setup events)) before) (before + 1)) (filter (is_live (moves_of mine)) (all_seats setup)) mine)
all_drawn setup rules events mine before legal done at come reached last draws =
    let script : Past = past_of setup events in
    let list : List Move = moves_of script in
    let placed : List Place = places_of setup.code script in
    let finals : List Place = finals_of setup placed before in
    let seats : List ℕ = filter (is_live (moves_of mine)) (all_seats setup) in
    let names : ℕ → List Slot = out_slots finals (before + 1) in
    let after : Past = with_discards (before + 1) names seats mine in
    let tp = traced_places setup script in
    let run = draw_run setup rules events mine before legal at come (draw_tables setup (before + 1) draws) in
    let R : List Said → Type 0 = λ l. Runs setup rules mine l after in
    let M : List Move → Type 0 = λ l. AreMirrored l (is_out_by (before + 1)) (places_of setup.code after) finals in
    let F : ℕ → Said = λ seat. said.Discard seat (discarded_slots tp seat (before + 1)) in
    let G : ℕ → Said = λ seat. said.Discard seat (names seat) in
    let came : is_reached setup list (before + 1) ≡ true = le-leb 2 (live_count setup (moves_before (before + 1) list)) (omega (arith, leb-false (live_count setup (moves_before (before + 1) list)) 1 reached)) in
    let said_is : discards_said setup tp list (before + 1) ≡ map G seats =
    ap (λ b. if b && is_reached setup list (before + 1) then map F (drawing_seats setup list (before + 1)) else []) draws
    ∙ (ap (λ b. if b then map F (drawing_seats setup list (before + 1)) else []) came
    ∙ (map_same F G (is_live (moves_before (before + 1) list)) 1 setup.stacks.seats (λ seat from to.
    ap (λ l. said.Discard seat l) (discarded_same (finals_of setup placed (street_count setup.code)) seat (before + 1)
    ∙ ap (map (λ (p : Place). p.slot)) (out_finals setup rules events (before + 1) seat (street_count setup.code) legal (omega arith) (omega (arith, last)) from (omega (arith, to))
    ∙ sym (out_finals setup rules events (before + 1) seat before legal (omega arith) (omega arith) from (omega (arith, to))))))
    ∙ ap (λ l. map G (filter (is_live l) (all_seats setup))) (sym at.same_moves))) in
    record {
      led = led_on setup rules mine after (map G seats) at.led run.run;
      come = run.come;
      same_moves = run.moves ∙ at.same_moves;
      mirrored = subst M at.same_moves (mirrored_as (moves_of mine) (is_out_to (before + 1) (1 + setup.stacks.seats)) (is_out_by (before + 1)) (places_of setup.code after) finals (λ final among. after_last setup rules events (before + 1) final legal (is_final setup placed before final among).among (omega arith)) run.mirrored);
      holes = λ seat. discards_holes (before + 1) names seats mine (before + 1) seat ∙ at.no_holes (before + 1) seat (omega arith);
      board = discards_board (before + 1) names seats mine (before + 1) ∙ at.no_board (before + 1) (omega arith);
      out = λ draw seat least most.
          discards_own (before + 1) names (is_live (moves_of mine)) 1 setup.stacks.seats mine seat least (omega (arith, most))
          ∙ (omega (arith, at.no_out (before + 1) seat (omega arith))
          ∙ out_length setup rules events before seat (is_live (moves_of mine) seat) legal done draws least most (ap (λ l. is_live l seat) (sym at.same_moves)));
      drawn = λ draw seat least most alive. run.drawn seat least (omega (arith, most)) (sym (ap (λ l. is_live l seat) run.moves) ∙ alive);
      aside = aside_discards (before + 1) names seats mine;
      block = discards_block (before + 1) names seats mine;
      run = subst R (sym said_is) run.run;
    }
