-- A street of the canonical script, up to its moves: discards, deals and the board.
use Rattle.std.proofs.Common.{◌≡◌, ℕ, ◌+◌, ◌≤◌, ◌<◌, false, ◌==◌, nat_le, Some, None, List, filter, sym, ◌∙◌, ap, subst, arith}
use Rattle.std.proofs.lemmas.Bool.{and_parts, eqb-true}
use Rattle.play_event.specs.declared.setup.Setup.{Setup}
use Rattle.play_event.specs.declared.setup.Rules.{Rules}
use Rattle.play_event.specs.Games.{street_count}
use Rattle.play_event.specs.Said.{Said}
use Rattle.play_event.specs.Past.{Past, Move, moves_of, newest_street, moves_before}
use Rattle.play_event.specs.Seats.{is_live, all_seats, live_count}
use Rattle.play_event.specs.Dealing.{hole_cards_dealt, board_cards_dealt, cards_discarded, has_drawn}
use Rattle.play_event.specs.Due.{due_on}
use Rattle.play_event.specs.Places.{Place, is_same_owner}
use Rattle.play_event.specs.Table.{places_of}
use Rattle.play_event.specs.Scripts.{past_of}
use Rattle.play_event.specs.Showing.{has_shown, has_mucked}
use Rattle.play_event.specs.Laws.{AreLegal}
use Rattle.canon_laws.proofs.Mirrors.{AreMirrored}
use Rattle.canon_laws.proofs.CardEvents.{HasCome}
use Rattle.canon_laws.proofs.MovesRun.{IsLed}
use Rattle.play_laws.proofs.LegalPlaces.{legal_past}
use Rattle.play_laws.proofs.InDeck.{legal_cards}
use Rattle.play_laws.proofs.PlaceLists.{rising}
use Rattle.play_laws.proofs.UnknownOrder.{legal_sorted, street_out}
use Rattle.play_laws.proofs.PlayedStreets.{IsReached}
use Rattle.canon_laws.proofs.StreetOrder.{street_pieces_out}
use Rattle.canon_laws.proofs.DiscardTests.{out_is, before_first}
use Rattle.canon_laws.proofs.TraceOrderCounts.{legal_owned}
use Rattle.canon_laws.proofs.TraceOrder.{finals_of, is_final, on_street_is}
use Rattle.canon_laws.proofs.FreeGroups.{is_out_by}
use Rattle.canon_laws.proofs.DiscardsRun.{is_out_to, mirrored_as, IsDrawn}
use Rattle.play_laws.proofs.DrawTables.{IsDrawStreet}
use Rattle.canon_laws.proofs.DrawRun.{AreDiscarded, discards_run, with_discards, out_slots}
use Rattle.play_event.specs.Trace.{places_on, owners}

-- the canonical past when a street begins; the street before it has this number
pub record AtStreet (setup : Setup) (rules : Rules) (script : Past) (before : ℕ) (mine : Past) : Type 0 where
  pub led : IsLed setup rules mine
  pub same_moves : moves_of mine ≡ moves_before (before + 1) (moves_of script)
  pub mirrored : AreMirrored (moves_before (before + 1) (moves_of script)) (is_out_by before) (places_of setup.code mine) (finals_of setup (places_of setup.code script) before)
  pub newest : newest_street mine ≤ before + 1
  pub quiet : IsReached setup (moves_of script) (before + 1) → (street : ℕ) → 1 ≤ street → street < before + 1 → due_on setup mine street ≡ None
  pub no_holes : (street seat : ℕ) → before < street → hole_cards_dealt mine street seat ≡ 0
  pub no_board : (street : ℕ) → before < street → board_cards_dealt mine street ≡ 0
  pub no_out : (street seat : ℕ) → before < street → cards_discarded mine street seat ≡ 0
  pub no_drawn : (street seat : ℕ) → before < street → has_drawn mine street seat ≡ false
  pub no_shown : (seat : ℕ) → has_shown mine seat ≡ false
  pub no_mucked : (seat : ℕ) → has_mucked mine seat ≡ false

-- the hand reached the street
pub at_come : (setup : Setup) (rules : Rules) (script mine : Past) (before : ℕ) → AtStreet setup rules script before mine → IsReached setup (moves_of script) (before + 1) → before + 1 ≤ street_count setup.code → HasCome setup mine (before + 1)
at_come setup rules script mine before at reached most =
    let P : Past → Type 0 = λ p. 1 ≤ newest_street p in
    let since : 1 ≤ newest_street mine = subst P at.led.past (legal_past setup rules at.led.events at.led.legal).past.since in
    record {
      several = ap (λ l. nat_le (live_count setup l) 1) at.same_moves ∙ reached;
      reached = at.newest;
      last = most;
      quiet = λ between least less. at.quiet reached between (omega (arith, since, least)) less;
    }

-- what a draw needs of the places before its street
pub drawn_of : (setup : Setup) (rules : Rules) (events : List Said) (before : ℕ) → AreLegal setup rules events → IsDrawn setup.stacks.seats (moves_before (before + 1) (moves_of (past_of setup events))) (before + 1) (finals_of setup (places_of setup.code (past_of setup events)) before)
drawn_of setup rules events before legal =
    let placed : List Place = places_of setup.code (past_of setup events) in
    let cards = legal_cards setup rules events legal in
    let up = rising 0 placed cards.list.numbered in
    record {
      some = omega arith;
      early = λ final among. omega (arith, (is_final setup placed before final among).most);
      by_live = λ final seat among is.
          let parts = and_parts (is_same_owner final.owner (Some seat)) (final.discarded == (before + 1)) is in
          let here : final.discarded ≡ before + 1 = eqb-true final.discarded (before + 1) parts.1 in
          let it = out_is setup rules events final legal (is_final setup placed before final among).among (omega (arith, here)) in
          let same : it.seat ≡ seat = eqb-true it.seat seat (sym (ap (λ o. is_same_owner o (Some seat)) it.owner) ∙ parts.0) in (
            omega (arith, it.drew.least, same),
            (
              omega (arith, it.drew.most, same),
              ap (λ s. is_live (moves_before (before + 1) (moves_of (past_of setup events))) s) (sym same) ∙ (ap (λ k. is_live (moves_before k (moves_of (past_of setup events))) it.seat) (sym here) ∙ it.drew.live),
            ),
          );
      unknowns = (street_out placed (places_on setup placed) 1 before up (legal_sorted setup rules events legal) cards.list.unknowns
          (λ street place among. on_street_is setup placed street (owners setup) place among)
          (λ street. street_pieces_out setup placed street cards.list.unknowns)).0;
    }

-- the discards of the street
pub draw_run : (setup : Setup) (rules : Rules) (events : List Said) (mine : Past) (before : ℕ) → AreLegal setup rules events → AtStreet setup rules (past_of setup events) before mine → HasCome setup mine (before + 1) → IsDrawStreet setup (before + 1) → AreDiscarded setup rules mine (with_discards (before + 1) (out_slots (finals_of setup (places_of setup.code (past_of setup events)) before) (before + 1)) (filter (is_live (moves_of mine)) (all_seats setup)) mine) (before + 1) 1 setup.stacks.seats (filter (is_live (moves_of mine)) (all_seats setup)) (finals_of setup (places_of setup.code (past_of setup events)) before)
draw_run setup rules events mine before legal at come is =
    let script : Past = past_of setup events in
    let placed : List Place = places_of setup.code script in
    let finals : List Place = finals_of setup placed before in
    let D : List Move → Type 0 = λ l. IsDrawn setup.stacks.seats l (before + 1) finals in
    let M : List Move → Type 0 = λ l. AreMirrored l (is_out_to (before + 1) 1) (places_of setup.code mine) finals in
    let owned = legal_owned setup rules events legal in
    discards_run setup rules (before + 1) finals is 1 setup.stacks.seats mine
    (record {
      led = at.led;
      come = come;
      drawn = subst D (sym at.same_moves) (drawn_of setup rules events before legal);
      mirrored = subst M (sym at.same_moves) (mirrored_as (moves_before (before + 1) (moves_of script)) (is_out_by before) (is_out_to (before + 1) 1) (places_of setup.code mine) finals (λ final among. before_first setup placed before final owned (is_final setup placed before final among).among) at.mirrored);
      todo = λ seat from. at.no_drawn (before + 1) seat (omega arith);
      done = λ seat from to alive. absurd (omega (arith, from, to));
    }) (omega arith) (omega arith)
