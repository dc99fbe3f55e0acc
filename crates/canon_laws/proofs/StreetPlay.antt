-- A street that the hand reached, in the canonical script: discards, deals, the board and the
-- moves.
use Rattle.std.proofs.Common.{◌≡◌, ℕ, ◌+◌, ◌≤◌, ◌<◌, Bool, true, false, ◌&&◌, nat_lt, nat_le, inl, inr, Some, None, List, [], ◌∷◌, ◌++◌, map, reverse, refl, sym, ◌∙◌, ap, subst, arith, if◌then◌else◌}
use Rattle.std.proofs.lemmas.Bool.{cases_lt}
use Rattle.play_event.specs.declared.code.Code.{Code}
use Rattle.play_event.specs.declared.reason.Due.TheVariants as dues
use Rattle.play_event.specs.declared.setup.Setup.{Setup}
use Rattle.play_event.specs.declared.setup.Rules.{Rules}
use Rattle.play_event.specs.Games.{street_count}
use Rattle.play_event.specs.Streets.{has_draw, up_cards_on, down_cards_on}
use Rattle.play_event.specs.Said.{Said}
use Rattle.play_event.specs.Past.{Past, Move, moves_of, moves_before}
use Rattle.play_event.specs.Seats.{all_seats}
use Rattle.play_event.specs.Dealing.{is_deal_due, is_draw_due, hole_cards_dealt, board_cards_dealt, cards_discarded, has_drawn}
use Rattle.play_event.specs.Showing.{has_shown, has_mucked}
use Rattle.play_event.specs.Due.{turn, is_unfinished, due_on, is_bring_in_due, is_move_due}
use Rattle.play_event.specs.Places.{Place, is_same_owner}
use Rattle.play_event.specs.Table.{places_of}
use Rattle.play_event.specs.Trace.{traced_places}
use Rattle.play_event.specs.Scripts.{past_of}
use Rattle.play_event.specs.Laws.{AreLegal}
use Rattle.play_event.specs.CanonScript.{street_said, discards_said, deals_said, move_named}
use Rattle.canon_laws.proofs.Mirrors.{Mirrors, AreMirrored}
use Rattle.play_laws.specs.PastLaws.{DoneLaw}
use Rattle.canon_laws.proofs.Runs.{Runs, run_append}
use Rattle.canon_laws.proofs.CardEvents.{HasCome}
use Rattle.play_laws.proofs.LegalPlaces.{legal_past}
use Rattle.play_laws.proofs.InDeck.{legal_cards}
use Rattle.play_laws.proofs.PlaceLists.{rising}
use Rattle.play_laws.proofs.DonePasts.{legal_done}
use Rattle.play_laws.proofs.PlayedStreets.{IsReached, IsDone, reached_done, reached_closed}
use Rattle.play_laws.proofs.UnknownOrder.{legal_sorted}
use Rattle.canon_laws.proofs.TraceOrderCounts.{legal_owned, ups_finals}
use Rattle.canon_laws.proofs.TraceOrder.{finals_of}
use Rattle.canon_laws.proofs.FreeGroups.{is_out_by}
use Rattle.play_laws.proofs.MovesLaw.{is_up_by, ups_by, MovesLaw}
use Rattle.play_laws.proofs.FittingPasts.{legal_moves}
use Rattle.canon_laws.proofs.MovesRun.{IsLed, led_on, with_moves, moves_with, AreAllOn, still_none, newest_with, moves_run}
use Rattle.canon_laws.proofs.HeldSame.{slots_mirrored}
use Rattle.canon_laws.proofs.StreetMoves.{legal_falling, own_moves, moves_split, moves_mirrored}
use Rattle.canon_laws.proofs.StreetLists.{law_before, own_on, IsBlock, block_more, moves_block}
use Rattle.canon_laws.proofs.StreetCounts.{IsAside, aside_more}
use Rattle.canon_laws.proofs.StreetDiscards.{AtDeals, undrawn, all_drawn}
use Rattle.canon_laws.proofs.StreetDeals.{come_block, with_cards, all_dealt}
use Rattle.canon_laws.proofs.Street.{AtStreet, at_come}

-- a street on which nothing is due
pub none_due : (setup : Setup) (before : Past) (street : ℕ) → is_deal_due setup before street ≡ false → is_draw_due setup before street ≡ false → is_bring_in_due setup (moves_of before) street ≡ false → is_move_due setup (moves_of before) street ≡ false → due_on setup before street ≡ None
none_due setup before street no_deal no_draw no_bring no_move =
    ap (λ b. if b then Some (dues.Deal street) else if is_draw_due setup before street then Some (dues.Draw street) else if is_bring_in_due setup (moves_of before) street then Some dues.BringIn else if is_move_due setup (moves_of before) street then Some dues.Move else None) no_deal
    ∙ (ap (λ b. if b then Some (dues.Draw street) else if is_bring_in_due setup (moves_of before) street then Some dues.BringIn else if is_move_due setup (moves_of before) street then Some dues.Move else None) no_draw
    ∙ (ap (λ b. if b then Some dues.BringIn else if is_move_due setup (moves_of before) street then Some dues.Move else None) no_bring
    ∙ ap (λ b. if b then Some dues.Move else None) no_move))

-- up-cards of places that mirror others
up_same : (code : Code) (list : List Move) (out : Place → Bool) (street seat : ℕ) (mine final : Place) → Mirrors list out mine final → is_up_by code street seat mine ≡ is_up_by code street seat final
up_same code list out street seat mine final mirror =
    ap (λ o. is_same_owner o (Some seat) && ((nat_lt 0 (up_cards_on code mine.street) && nat_le (down_cards_on code mine.street) mine.index) && nat_le mine.street street)) mirror.owner
    ∙ (ap (λ s. is_same_owner final.owner (Some seat) && ((nat_lt 0 (up_cards_on code s) && nat_le (down_cards_on code s) mine.index) && nat_le s street)) mirror.street
    ∙ ap (λ i. is_same_owner final.owner (Some seat) && ((nat_lt 0 (up_cards_on code final.street) && nat_le (down_cards_on code final.street) i) && nat_le final.street street)) mirror.index)

ups_mirrored : (code : Code) (list : List Move) (out : Place → Bool) (street seat : ℕ) (mines finals : List Place) → AreMirrored list out mines finals → ups_by code mines street seat ≡ ups_by code finals street seat
ups_mirrored code list out street seat mines finals = slots_mirrored list out (is_up_by code street seat) (is_up_by code street seat) mines finals (λ mine final among. up_same code list out street seat mine final)

-- moves do not change the counts of cards
record KeepsCounts (before after : Past) : Type 0 where
  holes : (street seat : ℕ) → hole_cards_dealt after street seat ≡ hole_cards_dealt before street seat
  board : (street : ℕ) → board_cards_dealt after street ≡ board_cards_dealt before street
  out : (street seat : ℕ) → cards_discarded after street seat ≡ cards_discarded before street seat
  drawn : (street seat : ℕ) → has_drawn after street seat ≡ has_drawn before street seat
  shown : (seat : ℕ) → has_shown after seat ≡ has_shown before seat
  mucked : (seat : ℕ) → has_mucked after seat ≡ has_mucked before seat

moves_keep : (list : List Move) (before : Past) → KeepsCounts before (with_moves list before)
moves_keep [] before = record { holes = λ street seat. refl; board = λ street. refl; out = λ street seat. refl; drawn = λ street seat. refl; shown = λ seat. refl; mucked = λ seat. refl }
moves_keep (move ∷ rest) before = let it = moves_keep rest before in record { holes = it.holes; board = it.board; out = it.out; drawn = it.drawn; shown = it.shown; mucked = it.mucked }

-- the next street
pub record IsNext (setup : Setup) (rules : Rules) (script : Past) (before : ℕ) (mine : Past) : Type 0 where
  pub after : Past
  pub run : Runs setup rules mine (street_said setup (traced_places setup script) (moves_of script) (before + 1)) after
  pub at : AtStreet setup rules script (before + 1) after

-- a street that the hand reached takes place, and the next one begins as in the script
pub played : (setup : Setup) (rules : Rules) (events : List Said) (mine : Past) (before : ℕ) → AreLegal setup rules events → is_unfinished (turn setup (past_of setup events)).1 ≡ false → AtStreet setup rules (past_of setup events) before mine → IsReached setup (moves_of (past_of setup events)) (before + 1) → before + 1 ≤ street_count setup.code → IsNext setup rules (past_of setup events) before mine
played setup rules events mine before legal complete at reached last =
    let script : Past = past_of setup events in
    let list : List Move = moves_of script in
    let street : ℕ = before + 1 in
    let placed : List Place = places_of setup.code script in
    let tp = traced_places setup script in
    let law = legal_past setup rules events legal in
    let done_law = (legal_done setup rules events legal).done in
    let come = at_come setup rules script mine before at reached last in
    let done : IsDone setup script street = reached_done setup script street law.past done_law complete (omega arith) last reached in
    let deals : (m : Past) × AtDeals setup rules script before mine m = by_draw (has_draw setup.code street) refl come done in
    let one : Past = deals.0 in
    let a = deals.1 in
    let two : Past = with_cards placed street (all_seats setup) one in
    let d = all_dealt setup rules events before mine one legal done last a in
    let own : List Move = own_moves street list in
    let three : Past = with_moves own two in
    let on : AreAllOn street own = own_on street list in
    let come_two = come_block setup street one two d.block d.aside.moves a.come in
    let led_two = led_on setup rules one two (deals_said setup tp street) a.led d.run in
    let moves_two : moves_of two ≡ moves_before street list = d.aside.moves ∙ a.same_moves in
    let falling = legal_falling setup rules events legal in
    let split : moves_before (street + 1) list ≡ own ++ moves_before street list = moves_split street list falling in
    let L : List Move → Type 0 = λ l. MovesLaw setup rules placed l in
    let fits : MovesLaw setup rules placed (own ++ moves_of two) = subst L (split ∙ ap (λ l. own ++ l) (sym moves_two)) (law_before setup rules placed (street + 1) list falling (legal_moves setup rules events legal)) in
    let run_three = moves_run setup rules placed two street own led_two come_two d.no_deal d.no_draw
    (λ seat least most. ups_mirrored setup.code (moves_before street list) (is_out_by street) street seat (places_of setup.code two) (finals_of setup placed street) d.mirrored
    ∙ ups_finals setup placed street seat (rising 0 placed (legal_cards setup rules events legal).list.numbered) (legal_sorted setup rules events legal) (legal_owned setup rules events legal) law.places.since least most)
    on fits in
    let same_three : moves_of three ≡ moves_before (street + 1) list = moves_with own two ∙ (ap (λ l. own ++ l) moves_two ∙ sym split) in
    let led_three = led_on setup rules two three (map move_named (reverse own)) led_two run_three in
    let M : List Move → Type 0 = λ l. AreMirrored l (is_out_by street) (places_of setup.code three) (finals_of setup placed street) in
    let aside : IsAside street mine two = aside_more street mine one two a.aside d.aside in
    let block : IsBlock street mine three = block_more street mine one three a.block (block_more street one two three d.block (moves_block street own two on)) in
    let keep = moves_keep own two in
    record {
      after = three;
      run = run_append setup rules mine one three (discards_said setup tp list street) (deals_said setup tp street ++ map move_named (reverse own)) a.run
          (run_append setup rules one two three (deals_said setup tp street) (map move_named (reverse own)) d.run run_three);
      at = record {
        led = led_three;
        same_moves = same_three;
        mirrored = subst M (sym split) (moves_mirrored setup.code own (moves_before street list) (is_out_by street) two (finals_of setup placed street) d.mirrored);
        newest = omega (arith, newest_with own two street on come_two.reached);
        quiet = λ next other least less. elim (cases_lt other street) [
          | inl early ↦ earlier three other least early block led_three
          | inr late ↦
              let same : other ≡ street = omega (arith, late, less) in
              let none = still_none setup own two street d.no_deal d.no_draw in
              let closed = reached_closed setup script street law.past done_law complete (omega arith) last next in
              ap (due_on setup three) same ∙ none_due setup three street none.0 none.1 (ap (λ l. is_bring_in_due setup l street) same_three ∙ closed.0) (ap (λ l. is_move_due setup l street) same_three ∙ closed.1)
        ];
        no_holes = λ other seat above. keep.holes other seat ∙ (aside.holes other seat (λ same. omega (arith, same, above)) ∙ at.no_holes other seat (omega (arith, above)));
        no_board = λ other above. keep.board other ∙ (aside.board other (λ same. omega (arith, same, above)) ∙ at.no_board other (omega (arith, above)));
        no_out = λ other seat above. keep.out other seat ∙ (aside.out other seat (λ same. omega (arith, same, above)) ∙ at.no_out other seat (omega (arith, above)));
        no_drawn = λ other seat above. keep.drawn other seat ∙ (aside.drawn other seat (λ same. omega (arith, same, above)) ∙ at.no_drawn other seat (omega (arith, above)));
        no_shown = λ seat. keep.shown seat ∙ (aside.shown seat ∙ at.no_shown seat);
        no_mucked = λ seat. keep.mucked seat ∙ (aside.mucked seat ∙ at.no_mucked seat);
      };
    }
  where
    by_draw : (b : Bool) → has_draw setup.code (before + 1) ≡ b → HasCome setup mine (before + 1) → IsDone setup (past_of setup events) (before + 1) → (m : Past) × AtDeals setup rules (past_of setup events) before mine m
    by_draw true draws come done = (_, all_drawn setup rules events mine before legal done at come reached last draws)
    by_draw false no_draw come done = (mine, undrawn setup rules events mine before legal at come no_draw)

    earlier : (three : Past) (other : ℕ) → 1 ≤ other → other < before + 1 → IsBlock (before + 1) mine three → IsLed setup rules three → due_on setup three other ≡ None
    earlier three other least less (inl same) led = ap (λ p. due_on setup p other) same ∙ at.quiet reached other least less
    earlier three other least less (inr on) led =
        let D : Past → Type 0 = DoneLaw setup in
        let law : DoneLaw setup three = subst D led.past (legal_done setup rules led.events led.legal).done in
        let it = law.earlier other least (omega (arith, less, on)) in
        none_due setup three other it.0 it.1.0 it.1.1.0 it.1.1.1
