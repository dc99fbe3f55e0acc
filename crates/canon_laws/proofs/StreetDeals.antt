-- The deals of a street in the canonical script, and the past after them.
use Rattle.std.proofs.Common.{◌≡◌, ℕ, zero, suc, ◌+◌, ◌-◌, ◌≤◌, ◌<◌, Bool, true, false, ◌&&◌, ◌||◌, ◌==◌, not, nat_lt, nat_le, inl, inr, Option, Some, None, is_some, List, [], ◌∷◌, ◌++◌, map, length, refl, sym, ◌∙◌, ap, subst, arith, if◌then◌else◌}
use Rattle.std.specs.List.{flat_map, list_any, range_with_len}
use Rattle.std.proofs.lemmas.Bool.{and_parts, and_left, and_right, or_from, cases_lt, eqb-true, le-ltb, not_from_true, both_ways}
use Rattle.std.proofs.lemmas.List.{append-nil, append_assoc, length-map, nil_from_length}
use Rattle.card_set.specs.declared.card.Slot.{Slot}
use Rattle.play_event.specs.declared.code.Code.{Code}
use Rattle.play_event.specs.declared.reason.Due.TheVariants as dues
use Rattle.play_event.specs.declared.setup.Setup.{Setup}
use Rattle.play_event.specs.declared.setup.Rules.{Rules}
use Rattle.play_event.specs.Games.{street_count, hole_cards_on, board_cards_on}
use Rattle.play_event.specs.Streets.{has_draw}
use Rattle.play_event.specs.Said.{Said}
use Rattle.play_event.specs.Past.{Past, Move, moves_of, moves_before}
use Rattle.play_event.specs.Seats.{is_live, all_seats, live_count}
use Rattle.play_event.specs.Dealing.{is_deal_due, is_draw_due, hole_cards_dealt, board_cards_dealt, cards_discarded, has_drawn, cards_owed, hole_cards_owed, board_cards_owed, replacements_owed, next_to_draw}
use Rattle.card_set.specs.Known.{hides_card}
use Rattle.play_event.specs.Places.{Place, is_same_owner, is_in_group, after_deal, group_of}
use Rattle.play_event.specs.Table.{places_of}
use Rattle.play_event.specs.Trace.{traced_places, places_on}
use Rattle.play_event.specs.Scripts.{past_of}
use Rattle.play_event.specs.Laws.{AreLegal, IsAmong}
use Rattle.play_event.proofs.ClashLaws.{IsOneOf, among_append}
use Rattle.play_event.specs.CanonScript.{deals_said, deal_said, board_said, dealt_slots}
use Rattle.canon_laws.proofs.Mirrors.{AreMirrored}
use Rattle.play_laws.specs.LegalPlaces.{AreLawful}
use Rattle.canon_laws.proofs.Runs.{Runs, run_append}
use Rattle.canon_laws.proofs.CardEvents.{HasCome}
use Rattle.play_laws.proofs.LegalPlaces.{legal_past, PlacesOf}
use Rattle.play_laws.proofs.InDeck.{legal_cards, lawful}
use Rattle.play_laws.proofs.PlaceLists.{rising}
use Rattle.play_laws.proofs.DonePasts.{legal_done}
use Rattle.play_laws.proofs.PlayedStreets.{IsDone, folded_group, hole_group, board_group}
use Rattle.canon_laws.proofs.TraceOrderCounts.{legal_owned, as_late}
use Rattle.canon_laws.proofs.TraceOrder.{finals_of, is_final, finals_group, finals_more, street_pieces, IsOwner, a_seat, the_board}
use Rattle.play_laws.proofs.UnknownOrder.{among_flat}
use Rattle.canon_laws.proofs.FreeGroups.{is_out_by, IsBefore, group_not_taken}
use Rattle.play_laws.proofs.PlaceGroups.{group_slots, passed}
use Rattle.canon_laws.proofs.CleanShow.{one_of_map, known_length}
use Rattle.canon_laws.proofs.DealsRun.{with_deal, with_deals, street_deals, hole_street, draw_street, AllFree}
use Rattle.canon_laws.proofs.DealtGroups.{AreDealt, dealt_out, deal_more, no_cards}
use Rattle.canon_laws.proofs.BoardRun.{with_board, board_run, known_again}
use Rattle.play_laws.proofs.KnownBoard.{board_known}
use Rattle.play_laws.proofs.DrawTables.{draw_tables}
use Rattle.canon_laws.proofs.StreetCounts.{IsAside, aside_more, aside_deals, aside_board, deals_out, deals_drawn, deals_board, deals_holes, board_holes, board_out, board_drawn, board_own}
use Rattle.canon_laws.proofs.StreetLists.{IsBlock, block_more, deals_block, board_block}
use Rattle.canon_laws.proofs.TracedSlots.{dealt_same}
use Rattle.card_set.proofs.NumbersOfRange.{flat_same, any_none, find_no}
use Rattle.canon_laws.proofs.StreetDiscards.{AtDeals}
use Rattle.play_event.proofs.OwnerLaws.{is_same_owner-true}

-- events of a street keep the past on it
pub come_block : (setup : Setup) (street : ℕ) (before after : Past) → IsBlock street before after → moves_of after ≡ moves_of before → HasCome setup before street → HasCome setup after street
come_block setup street before after (inl same) moves come = let P : Past → Type 0 = λ p. HasCome setup p street in subst P (sym same) come
come_block setup street before after (inr on) moves come =
    record {
      several = ap (λ l. nat_le (live_count setup l) 1) moves ∙ come.several;
      reached = omega (arith, on);
      last = come.last;
      quiet = λ between least less. absurd (omega (arith, on, least, less));
    }

-- deals of no cards
no_deals : (setup : Setup) (rules : Rules) (street : ℕ) (cards : ℕ → List Slot) (first count : ℕ) (before : Past) → ((seat : ℕ) → first ≤ seat → seat < first + count → cards seat ≡ []) → Runs setup rules before (flat_map (λ seat. deal_said seat (cards seat)) (range_with_len first count)) (with_deals street cards (range_with_len first count) before)
no_deals setup rules street cards first zero before none = refl
no_deals setup rules street cards first (suc count) before none =
    let P : List Slot → Type 0 = λ l. Runs setup rules before (deal_said first l ++ flat_map (λ seat. deal_said seat (cards seat)) (range_with_len (first + 1) count)) (with_deals street cards (range_with_len (first + 1) count) (with_deal street first l before)) in
    subst P (sym (none first (omega arith) (omega arith))) (no_deals setup rules street cards (first + 1) count before (λ seat from to. none seat (omega (arith, from)) (omega (arith, to))))

owed_cards : (setup : Setup) (rules : Rules) (events : List Said) (start mine : Past) (before seat : ℕ) (live draws : Bool) → AreLegal setup rules events → IsDone setup (past_of setup events) (before + 1) → AtDeals setup rules (past_of setup events) before start mine → 1 ≤ seat → seat ≤ setup.stacks.seats → is_live (moves_of mine) seat ≡ live → has_draw setup.code (before + 1) ≡ draws → (if draws then replacements_owed mine (before + 1) seat else if live then hole_cards_on setup.code (before + 1) - hole_cards_dealt mine (before + 1) seat else 0) ≡ length (group_slots (places_of setup.code (past_of setup events)) (before + 1) (Some seat))
owed_cards setup rules events start mine before seat live true legal done at least most alive draws = omega (arith, at.out draws seat least most, at.holes seat)
owed_cards setup rules events start mine before seat true false legal done at least most alive draws =
    let script : Past = past_of setup events in
    let placed : List Place = places_of setup.code script in
    omega (arith, at.holes seat, length-map (group_of placed (before + 1) (Some seat)) (λ (p : Place). p.slot), hole_group setup script (before + 1) seat (legal_done setup rules events legal).done done draws (omega arith) least most (sym (ap (λ l. is_live l seat) at.same_moves) ∙ alive))
owed_cards setup rules events start mine before seat false false legal done at least most folded draws =
    let script : Past = past_of setup events in
    let placed : List Place = places_of setup.code script in
    sym (length-map (group_of placed (before + 1) (Some seat)) (λ (p : Place). p.slot) ∙ folded_group setup script (before + 1) seat (legal_past setup rules events legal).places (sym (ap (λ l. is_live l seat) at.same_moves) ∙ folded))

-- a deal of no board cards is no deal
maybe_board : (code : Code) (moves : List Move) (placed : List Place) (street : ℕ) (before : Past) (finals : List Place) (cards : List Slot) (group : List Place) → AreDealt code moves placed street (places_of code before) finals → AreDealt code moves placed street (after_deal code None street cards (places_of code before)) (finals ++ group) → (cards ≡ [] → group ≡ []) → ((slot : Slot) → IsOneOf cards slot → hides_card slot ≡ false) → AreDealt code moves placed street (places_of code (with_board street cards before)) (finals ++ group)
maybe_board code moves placed street before finals [] group so_far more none known =
    let P : List Place → Type 0 = λ all. AreDealt code moves placed street (places_of code before) all in
    subst P (sym (append-nil finals) ∙ ap (λ g. finals ++ g) (sym (none refl))) so_far
maybe_board code moves placed street before finals (slot ∷ rest) group so_far more none known =
    let P : List Slot → Type 0 = λ l. AreDealt code moves placed street (after_deal code None street l (places_of code before)) (finals ++ group) in
    subst P (sym (known_again (slot ∷ rest) known)) more

-- the deals to seats and to the board
pub record AreDealtAll (setup : Setup) (rules : Rules) (script : Past) (before : ℕ) (mine after : Past) : Type 0 where
  pub run : Runs setup rules mine (deals_said setup (traced_places setup script) (before + 1)) after
  pub mirrored : AreMirrored (moves_before (before + 1) (moves_of script)) (is_out_by (before + 1)) (places_of setup.code after) (finals_of setup (places_of setup.code script) (before + 1))
  pub aside : IsAside (before + 1) mine after
  pub block : IsBlock (before + 1) mine after
  pub no_deal : is_deal_due setup after (before + 1) ≡ false
  pub no_draw : is_draw_due setup after (before + 1) ≡ false

-- the past after the deals
abbrev pub with_cards : List Place → ℕ → List ℕ → Past → Past
with_cards placed street seats mine = with_board street (group_slots placed street None) (with_deals street (λ seat. group_slots placed street (Some seat)) seats mine)

-- a final card of an earlier street, or of this one and dealt to a seat
board_before : (setup : Setup) (placed : List Place) (before : ℕ) (final : Place) → IsAmong (finals_of setup placed before ++ flat_map (λ seat. group_of placed (before + 1) (Some seat)) (all_seats setup)) final → IsBefore placed (before + 1) None final
board_before setup placed before final among = elim (among_append (finals_of setup placed before) (flat_map (λ seat. group_of placed (before + 1) (Some seat)) (all_seats setup)) final among) [
  | inl old ↦ let it = is_final setup placed before final old in record { among = it.among; reached = omega (arith, it.most); apart = λ here mine. omega (arith, here, it.most) }
  | inr new ↦
      let key = among_flat (λ seat. group_of placed (before + 1) (Some seat)) (all_seats setup) final new in
      let it = passed (is_in_group (Some key.0) (before + 1)) placed final key.1 in
      let parts = and_parts (is_same_owner final.owner (Some key.0)) (final.street == (before + 1)) it.passes in
      record {
        among = it.among;
        reached = omega (arith, eqb-true final.street (before + 1) parts.1);
        apart = λ here mine. both_ways (is_same_owner final.owner None) (ap (λ o. is_same_owner o None) (is_same_owner-true final.owner (Some key.0) parts.0)) mine;
      }
]

deals_part : (setup : Setup) (rules : Rules) (events : List Said) (before : ℕ) (start mine : Past) (draws : Bool) → AreLegal setup rules events → IsDone setup (past_of setup events) (before + 1) → AtDeals setup rules (past_of setup events) before start mine → has_draw setup.code (before + 1) ≡ draws → AllFree setup.code (before + 1) (λ seat. group_slots (places_of setup.code (past_of setup events)) (before + 1) (Some seat)) (all_seats setup) mine → ((seat : ℕ) → 1 ≤ seat → seat ≤ setup.stacks.seats → cards_owed setup mine (before + 1) seat ≡ length (group_slots (places_of setup.code (past_of setup events)) (before + 1) (Some seat))) → Runs setup rules mine (flat_map (λ seat. deal_said seat (group_slots (places_of setup.code (past_of setup events)) (before + 1) (Some seat))) (all_seats setup)) (with_deals (before + 1) (λ seat. group_slots (places_of setup.code (past_of setup events)) (before + 1) (Some seat)) (all_seats setup) mine)
deals_part setup rules events before start mine true legal done at draws free owed =
    let table = draw_tables setup (before + 1) draws in
    street_deals setup rules mine (before + 1) (dues.Draw (before + 1)) (λ seat. group_slots (places_of setup.code (past_of setup events)) (before + 1) (Some seat)) at.come (draw_street setup (before + 1) draws table.no_hole table.no_board) owed free
deals_part setup rules events before start mine false legal done at draws free owed = elim (cases_lt 0 (hole_cards_on setup.code (before + 1))) [
  | inl some ↦ street_deals setup rules mine (before + 1) (dues.Deal (before + 1)) (λ seat. group_slots (places_of setup.code (past_of setup events)) (before + 1) (Some seat)) at.come (hole_street setup (before + 1) draws some) owed free
  | inr none ↦ no_deals setup rules (before + 1) (λ seat. group_slots (places_of setup.code (past_of setup events)) (before + 1) (Some seat)) 1 setup.stacks.seats mine (λ seat from to.
      nil_from_length (group_slots (places_of setup.code (past_of setup events)) (before + 1) (Some seat))
      (sym (owed seat from (omega (arith, to))) ∙ (ap (λ b. if b then replacements_owed mine (before + 1) seat else hole_cards_owed setup mine (before + 1) seat) draws ∙ nothing seat (is_live (moves_of mine) seat) none)))
]
  where
    nothing : (seat : ℕ) (live : Bool) → hole_cards_on setup.code (before + 1) ≤ 0 → (if live then hole_cards_on setup.code (before + 1) - hole_cards_dealt mine (before + 1) seat else 0) ≡ 0
    nothing seat true none = omega (arith, none)
    nothing seat false none = refl

-- the cards of an owner, as the canonical script reads them
pub group_is : (setup : Setup) (events : List Said) (before : ℕ) (owner : Option ℕ) → before + 1 ≤ street_count setup.code → IsOwner setup owner → dealt_slots (traced_places setup (past_of setup events)) owner (before + 1) ≡ group_slots (places_of setup.code (past_of setup events)) (before + 1) owner
group_is setup events before owner last own =
    dealt_same (finals_of setup (places_of setup.code (past_of setup events)) (street_count setup.code)) owner (before + 1)
    ∙ ap (map (λ (p : Place). p.slot)) (finals_group setup (places_of setup.code (past_of setup events)) owner (before + 1) (street_count setup.code) own (omega arith) last)

-- the deals of a street take place after its discards, and the places mirror the script's
pub all_dealt : (setup : Setup) (rules : Rules) (events : List Said) (before : ℕ) (start mine : Past) → AreLegal setup rules events → IsDone setup (past_of setup events) (before + 1) → before + 1 ≤ street_count setup.code → AtDeals setup rules (past_of setup events) before start mine → AreDealtAll setup rules (past_of setup events) before mine (with_cards (places_of setup.code (past_of setup events)) (before + 1) (all_seats setup) mine)
all_dealt setup rules events before start mine legal done last at =
    let script : Past = past_of setup events in
    let list : List Move = moves_of script in
    let street : ℕ = before + 1 in
    let placed : List Place = places_of setup.code script in
    let finals : List Place = finals_of setup placed before in
    let n : ℕ = setup.stacks.seats in
    let tp = traced_places setup script in
    let cards : ℕ → List Slot = λ seat. group_slots placed street (Some seat) in
    let board : List Slot = group_slots placed street None in
    let middle : Past = with_deals street cards (all_seats setup) mine in
    let after : Past = with_board street board middle in
    let law : AreLawful setup.code list placed = lawful setup rules events legal in
    let known_law = legal_cards setup rules events legal in
    let places : PlacesOf setup script = (legal_past setup rules events legal).places in
    let up = rising 0 placed known_law.list.numbered in
    let owned = legal_owned setup rules events legal in
    let flat : List Place = flat_map (λ seat. group_of placed street (Some seat)) (all_seats setup) in
    let so_far : AreDealt setup.code list placed street (places_of setup.code mine) finals = record {
      mirrored = at.mirrored;
      as_late = as_late setup placed (places_of setup.code mine) (moves_before street list) before up owned places.since places.out_after at.mirrored;
    } in
    let out = dealt_out setup.code list placed street 1 n mine finals law up known_law.deck (λ owner. known_law.list.indexed owner street) so_far
    (λ final seat among from. let it = is_final setup placed before final among in record { among = it.among; reached = omega (arith, it.most); apart = λ here own. omega (arith, here, it.most) }) in
    let owed : (seat : ℕ) → 1 ≤ seat → seat ≤ n → cards_owed setup mine street seat ≡ length (cards seat) = λ seat least most. owed_cards setup rules events start mine before seat (is_live (moves_of mine) seat) (has_draw setup.code street) legal done at least most refl refl in
    let run = deals_part setup rules events before start mine (has_draw setup.code street) legal done at refl out.free owed in
    let known : (slot : Slot) → IsOneOf board slot → hides_card slot ≡ false = λ slot among.
    let it = one_of_map (group_of placed street None) slot among in
    let place = passed (is_in_group None street) placed it.0 it.1.0 in
    ap hides_card (sym it.1.1) ∙ board_known setup rules events legal it.0 place.among (is_same_owner-true it.0.owner None (and_parts (is_same_owner it.0.owner None) (it.0.street == street) place.passes).0) in
    let come = come_block setup street mine middle (deals_block street cards (all_seats setup) mine) (aside_deals street cards (all_seats setup) mine).moves at.come in
    let board_length : length board ≡ board_cards_on setup.code street = length-map (group_of placed street None) (λ (p : Place). p.slot) ∙ board_group setup script street (legal_done setup rules events legal).done done in
    let no_board_yet : board_cards_dealt middle street ≡ 0 = deals_board street cards (all_seats setup) mine street ∙ at.board in
    let before_board = board_before setup placed before in
    let run_board = board_run setup rules middle street board come known (omega (arith, board_length, no_board_yet)) (group_not_taken setup.code list placed (places_of setup.code middle) (finals ++ flat) street None law up known_law.deck out.dealt.as_late out.dealt.mirrored before_board) in
    let more = deal_more setup.code list placed (places_of setup.code middle) (finals ++ flat) street None law (known_law.list.indexed None street) out.dealt before_board in
    let all : AreDealt setup.code list placed street (places_of setup.code after) ((finals ++ flat) ++ group_of placed street None) = maybe_board setup.code list placed street middle (finals ++ flat) board (group_of placed street None) out.dealt more (no_cards (group_of placed street None)) known in
    let next : suc before ≡ before + 1 = omega arith in
    let one : 1 + before ≡ before + 1 = omega arith in
    let in_all : (finals ++ flat) ++ group_of placed street None ≡ finals_of setup placed street =
    append_assoc finals flat (group_of placed street None)
    ∙ (ap (λ l. finals ++ l) (sym (street_pieces setup placed street))
    ∙ (ap (λ k. finals ++ places_on setup placed k) (sym one)
    ∙ (sym (finals_more setup placed before) ∙ ap (finals_of setup placed) next))) in
    let M : List Place → Type 0 = λ l. AreMirrored (moves_before street list) (is_out_by street) (places_of setup.code after) l in
    let R : List Said → Type 0 = λ l. Runs setup rules mine l after in
    let said_is : deals_said setup tp street ≡ flat_map (λ seat. deal_said seat (cards seat)) (all_seats setup) ++ board_said board =
    ap (λ l. l ++ board_said (dealt_slots tp None street)) (flat_same (λ seat. deal_said seat (dealt_slots tp (Some seat) street)) (λ seat. deal_said seat (cards seat)) 1 n (λ seat from to. ap (deal_said seat) (group_is setup events before (Some seat) last (a_seat seat from (omega (arith, to))))))
    ∙ ap (λ l. flat_map (λ seat. deal_said seat (cards seat)) (all_seats setup) ++ board_said l) (group_is setup events before None last the_board) in
    let holes : (seat : ℕ) → 1 ≤ seat → seat < 1 + n → hole_cards_dealt after street seat ≡ length (cards seat) = λ seat from to.
    board_holes street board middle street seat ∙ (deals_holes street cards 1 n mine seat from to ∙ omega (arith, at.holes seat)) in
    let moves : moves_of after ≡ moves_of mine = (aside_board street board middle).moves ∙ (aside_deals street cards (all_seats setup) mine).moves in
    record {
      run = subst R (sym said_is) (run_append setup rules mine middle after (flat_map (λ seat. deal_said seat (cards seat)) (all_seats setup)) (board_said board) run run_board);
      mirrored = subst M in_all all.mirrored;
      aside = aside_more street mine middle after (aside_deals street cards (all_seats setup) mine) (aside_board street board middle);
      block = block_more street mine middle after (deals_block street cards (all_seats setup) mine) (board_block street board middle);
      no_deal = or_from (list_any (λ seat. nat_lt 0 (hole_cards_owed setup after street seat)) (all_seats setup)) (nat_lt 0 (board_cards_owed setup after street))
          (any_none (λ seat. nat_lt 0 (hole_cards_owed setup after street seat)) 1 n (λ seat from to.
          le-ltb 0 (hole_cards_owed setup after street seat) (enough after (has_draw setup.code street) (is_live (moves_of after) seat) seat refl (sym (ap (λ l. is_live l seat) moves)) from (omega (arith, to)) (holes seat from to))))
          (le-ltb 0 (board_cards_owed setup after street) (omega (arith, board_own street board middle (known_length board known), board_length, no_board_yet)));
      no_draw = drawn_all after (has_draw setup.code street) refl holes moves (λ seat. board_drawn street board middle street seat ∙ deals_drawn street cards (all_seats setup) mine street seat) (λ seat. board_out street board middle street seat ∙ deals_out street cards (all_seats setup) mine street seat);
    }
  where
    enough : (after : Past) (draws live : Bool) (seat : ℕ) → has_draw setup.code (before + 1) ≡ draws → is_live (moves_of mine) seat ≡ live → 1 ≤ seat → seat ≤ setup.stacks.seats → hole_cards_dealt after (before + 1) seat ≡ length (group_slots (places_of setup.code (past_of setup events)) (before + 1) (Some seat)) → (if live then hole_cards_on setup.code (before + 1) - hole_cards_dealt after (before + 1) seat else 0) ≤ 0
    enough after draws false seat is folded least most held = omega arith
    enough after true true seat is alive least most held = omega (arith, (draw_tables setup (before + 1) is).no_hole)
    enough after false true seat is alive least most held = omega (arith, held, at.holes seat, owed_cards setup rules events start mine before seat true false legal done at least most alive is)

    has_live : (after : Past) (seat : ℕ) (live : Bool) → is_live (moves_of after) seat ≡ live → (is_live (moves_of after) seat ≡ true → has_drawn after (before + 1) seat ≡ true) → (is_live (moves_of after) seat && not (has_drawn after (before + 1) seat)) ≡ false
    has_live after seat true alive has = and_right (is_live (moves_of after) seat) (not (has_drawn after (before + 1) seat)) (not_from_true (has_drawn after (before + 1) seat) (has alive))
    has_live after seat false folded has = and_left (is_live (moves_of after) seat) (not (has_drawn after (before + 1) seat)) folded

    drawn_all : (after : Past) (draws : Bool) → has_draw setup.code (before + 1) ≡ draws → ((seat : ℕ) → 1 ≤ seat → seat < 1 + setup.stacks.seats → hole_cards_dealt after (before + 1) seat ≡ length (group_slots (places_of setup.code (past_of setup events)) (before + 1) (Some seat))) → moves_of after ≡ moves_of mine → ((seat : ℕ) → has_drawn after (before + 1) seat ≡ has_drawn mine (before + 1) seat) → ((seat : ℕ) → cards_discarded after (before + 1) seat ≡ cards_discarded mine (before + 1) seat) → (draws && (is_some (next_to_draw setup after (before + 1)) || list_any (λ seat. nat_lt 0 (replacements_owed after (before + 1) seat)) (all_seats setup))) ≡ false
    drawn_all after false is holes moves drawn out = refl
    drawn_all after true is holes moves drawn out =
        or_from (is_some (next_to_draw setup after (before + 1))) (list_any (λ seat. nat_lt 0 (replacements_owed after (before + 1) seat)) (all_seats setup))
        (find_no (λ seat. is_live (moves_of after) seat && not (has_drawn after (before + 1) seat)) 1 setup.stacks.seats (λ seat from to.
        has_live after seat (is_live (moves_of after) seat) refl (λ alive. drawn seat ∙ at.drawn is seat from (omega (arith, to)) (sym (ap (λ l. is_live l seat) moves) ∙ alive))))
        (any_none (λ seat. nat_lt 0 (replacements_owed after (before + 1) seat)) 1 setup.stacks.seats (λ seat from to.
        le-ltb 0 (replacements_owed after (before + 1) seat) (omega (arith, holes seat from to, out seat, at.out is seat from (omega (arith, to))))))
