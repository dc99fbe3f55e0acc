-- A street that the hand did not reach: the canonical script has no events of it.
use Rattle.std.proofs.Common.{◌≡◌, ℕ, suc, ◌+◌, ◌≤◌, true, false, ◌&&◌, nat_lt, nat_le, inl, inr, Option, Some, None, List, [], ◌++◌, map, reverse, length, refl, sym, ◌∙◌, ap, subst, arith, if◌then◌else◌}
use Rattle.std.specs.List.{list_any}
use Rattle.std.proofs.lemmas.Bool.{and_right, both_ways, false_from_ne_true, cases_lt, lt-leb, le-leb, leb-true}
use Rattle.std.proofs.lemmas.List.{append-nil, nil_from_length}
use Rattle.play_event.specs.declared.setup.Setup.{Setup}
use Rattle.play_event.specs.declared.setup.Rules.{Rules}
use Rattle.play_event.specs.Games.{street_count}
use Rattle.play_event.specs.Streets.{has_draw}
use Rattle.play_event.specs.Said as said
use Rattle.play_event.specs.Said.{Said}
use Rattle.play_event.specs.Past.{Past, Move, moves_of, moves_before}
use Rattle.play_event.specs.Seats.{live_count}
use Rattle.play_event.specs.Places.{Place, group_of}
use Rattle.play_event.specs.Table.{places_of}
use Rattle.play_event.specs.Trace.{traced_places, places_on}
use Rattle.play_event.specs.Scripts.{past_of}
use Rattle.play_event.specs.Laws.{AreLegal, IsAmong}
use Rattle.play_event.specs.CanonScript.{street_said, discards_said, deals_said, deal_said, board_said, dealt_slots, moves_named, move_named, is_reached, drawing_seats, discarded_slots}
use Rattle.canon_laws.proofs.Mirrors.{AreMirrored}
use Rattle.play_laws.specs.PastLaws.{is_played_on}
use Rattle.canon_laws.proofs.Runs.{Runs}
use Rattle.play_laws.proofs.LegalPlaces.{group_count}
use Rattle.play_laws.proofs.DonePasts.{legal_done}
use Rattle.play_laws.proofs.PlayedStreets.{board_count}
use Rattle.canon_laws.proofs.DiscardTests.{out_is}
use Rattle.play_laws.proofs.DrawnDiscards.{out_drawn}
use Rattle.canon_laws.proofs.TraceOrder.{finals_of, is_final, finals_more, street_pieces, IsOwner, a_seat, the_board}
use Rattle.canon_laws.proofs.FreeGroups.{is_out_by}
use Rattle.canon_laws.proofs.DiscardsRun.{mirrored_as}
use Rattle.canon_laws.proofs.StreetMoves.{legal_falling, moves_split}
use Rattle.canon_laws.proofs.StreetLists.{IsUnplayed, unplayed}
use Rattle.canon_laws.proofs.StreetDeals.{group_is}
use Rattle.card_set.proofs.NumbersOfRange.{flat_none}
use Rattle.canon_laws.proofs.StreetPlay.{IsNext}
use Rattle.canon_laws.proofs.Street.{AtStreet}
use Rattle.play_event.specs.Dealing.{has_drawn}

-- a street that the hand did not reach has no events, and nothing changes
pub skipped : (setup : Setup) (rules : Rules) (events : List Said) (mine : Past) (before : ℕ) → AreLegal setup rules events → AtStreet setup rules (past_of setup events) before mine → nat_le (live_count setup (moves_before (before + 1) (moves_of (past_of setup events)))) 1 ≡ true → before + 1 ≤ street_count setup.code → IsNext setup rules (past_of setup events) before mine
skipped setup rules events mine before legal at over last =
    let script : Past = past_of setup events in
    let list : List Move = moves_of script in
    let street : ℕ = before + 1 in
    let placed : List Place = places_of setup.code script in
    let tp = traced_places setup script in
    let done = (legal_done setup rules events legal).done in
    let never : list_any (is_played_on street) script ≡ false = false_from_ne_true (list_any (is_played_on street) script) (λ some. both_ways (nat_le (live_count setup (moves_before street list)) 1) (done.several street some) over) in
    let it : IsUnplayed street script = unplayed street script never in
    let same : moves_before (street + 1) list ≡ moves_before street list = moves_split street list (legal_falling setup rules events legal) ∙ ap (λ l. l ++ moves_before street list) it.own in
    let no_group : (owner : Option ℕ) → IsOwner setup owner → group_of placed street owner ≡ [] = λ owner own. nil_from_length (group_of placed street owner) (by_owner owner own it) in
    let no_slots : (owner : Option ℕ) → IsOwner setup owner → dealt_slots tp owner street ≡ [] = λ owner own. group_is setup events before owner last own ∙ ap (map (λ (p : Place). p.slot)) (no_group owner own) in
    let not_come : is_reached setup list street ≡ false = lt-leb 2 (live_count setup (moves_before street list)) (omega (arith, leb-true (live_count setup (moves_before street list)) 1 over)) in
    let no_discards : discards_said setup tp list street ≡ [] =
    ap (λ b. if b then map (λ seat. said.Discard seat (discarded_slots tp seat street)) (drawing_seats setup list street) else []) (and_right (has_draw setup.code street) (is_reached setup list street) not_come) in
    let no_deals : deals_said setup tp street ≡ [] =
    ap (λ l. l ++ board_said (dealt_slots tp None street)) (flat_none (λ seat. deal_said seat (dealt_slots tp (Some seat) street)) 1 setup.stacks.seats (λ seat from to. ap (deal_said seat) (no_slots (Some seat) (a_seat seat from (omega (arith, to))))))
    ∙ ap board_said (no_slots None the_board) in
    let no_moves : moves_named list street ≡ [] = ap (λ l. map move_named (reverse l)) it.own in
    let nothing : street_said setup tp list street ≡ [] =
    ap (λ l. l ++ (deals_said setup tp street ++ moves_named list street)) no_discards ∙ (ap (λ l. l ++ moves_named list street) no_deals ∙ no_moves) in
    let R : List Said → Type 0 = λ l. Runs setup rules mine l mine in
    let one : 1 + before ≡ before + 1 = omega arith in
    let next : suc before ≡ before + 1 = omega arith in
    let no_more : finals_of setup placed street ≡ finals_of setup placed before =
    ap (finals_of setup placed) (sym next) ∙ (finals_more setup placed before
    ∙ (ap (λ l. finals_of setup placed before ++ l) (ap (places_on setup placed) one ∙ (street_pieces setup placed street
    ∙ (ap (λ l. l ++ group_of placed street None) (flat_none (λ seat. group_of placed street (Some seat)) 1 setup.stacks.seats (λ seat from to. no_group (Some seat) (a_seat seat from (omega (arith, to)))))
    ∙ no_group None the_board)))
    ∙ append-nil (finals_of setup placed before))) in
    let M : List Move → Type 0 = λ l. AreMirrored l (is_out_by street) (places_of setup.code mine) (finals_of setup placed street) in
    let N : List Place → Type 0 = λ l. AreMirrored (moves_before street list) (is_out_by street) (places_of setup.code mine) l in
    record {
      after = mine;
      run = subst R (sym nothing) refl;
      at = record {
        led = at.led;
        same_moves = at.same_moves ∙ sym same;
        mirrored = subst M (sym same) (subst N (sym no_more) (mirrored_as (moves_before street list) (is_out_by before) (is_out_by street) (places_of setup.code mine) (finals_of setup placed before) (λ final among. same_out it final (is_final setup placed before final among).among) at.mirrored));
        newest = omega (arith, at.newest);
        quiet = λ reached. absurd (both_ways (nat_le (live_count setup (moves_before street list)) 1) (sym (ap (λ l. nat_le (live_count setup l) 1) same) ∙ reached) over);
        no_holes = λ other seat above. at.no_holes other seat (omega (arith, above));
        no_board = λ other above. at.no_board other (omega (arith, above));
        no_out = λ other seat above. at.no_out other seat (omega (arith, above));
        no_drawn = λ other seat above. at.no_drawn other seat (omega (arith, above));
        no_shown = at.no_shown;
        no_mucked = at.no_mucked;
      };
    }
  where
    by_owner : (owner : Option ℕ) → IsOwner setup owner → IsUnplayed (before + 1) (past_of setup events) → length (group_of (places_of setup.code (past_of setup events)) (before + 1) owner) ≡ 0
    by_owner _ (a_seat seat least most) it = group_count setup.code (past_of setup events) (before + 1) seat ∙ it.holes seat
    by_owner _ the_board it = board_count setup.code (past_of setup events) (before + 1) ∙ it.board

    not_here : IsUnplayed (before + 1) (past_of setup events) → (final : Place) → IsAmong (places_of setup.code (past_of setup events)) final → final.discarded ≡ before + 1 → ⊥
    not_here it final among here =
        let out = out_is setup rules events final legal among (omega (arith, here)) in
        both_ways (has_drawn (past_of setup events) (before + 1) out.seat) (it.drawn out.seat)
        (out_drawn setup.code (past_of setup events) (before + 1) out.seat final among (out.owner, (here, omega arith)))

    same_out : IsUnplayed (before + 1) (past_of setup events) → (final : Place) → IsAmong (places_of setup.code (past_of setup events)) final → is_out_by before final ≡ is_out_by (before + 1) final
    same_out it final among = elim (cases_lt before final.discarded) [
      | inr less ↦ ap (λ b. nat_lt 0 final.discarded && b) (le-leb final.discarded before less ∙ sym (le-leb final.discarded (before + 1) (omega (arith, less))))
      | inl more ↦ elim (cases_lt (before + 1) final.discarded) [
        | inl above ↦ ap (λ b. nat_lt 0 final.discarded && b) (lt-leb final.discarded before more ∙ sym (lt-leb final.discarded (before + 1) above))
        | inr same ↦ absurd (not_here it final among (omega (arith, same, more)))
      ]
    ]
