-- The past at the end of the canonical script.
use Rattle.std.proofs.Common.{◌≡◌, ℕ, ◌+◌, ◌-◌, ◌≤◌, ◌<◌, Bool, true, false, ◌&&◌, not, nat_le, List, [], ◌++◌, map, filter, refl, sym, ◌∙◌, ap, subst, arith, if◌then◌else◌}
use Rattle.std.specs.List.{flat_map}
use Rattle.std.proofs.lemmas.Bool.{and_parts, both_ways, le-leb, leb-false, leb-true, lt-leb, not-true}
use Rattle.std.proofs.lemmas.List.{append-nil}
use Rattle.play_event.specs.declared.reason.Due.{Due}
use Rattle.play_event.specs.declared.setup.Setup.{Setup}
use Rattle.play_event.specs.declared.setup.Rules.{Rules}
use Rattle.play_event.specs.Games.{street_count}
use Rattle.play_event.specs.Said as said
use Rattle.play_event.specs.Said.{Said}
use Rattle.play_event.specs.Past.{Past, Move, moves_of, newest_street, moves_before}
use Rattle.play_event.specs.Seats.{is_live, all_seats, live_count}
use Rattle.play_event.specs.Showing.{has_mucked, is_show_due}
use Rattle.play_event.specs.Due.{turn, due_on, first_due, is_unfinished}
use Rattle.card_set.specs.Known.{known_among}
use Rattle.play_event.specs.Places.{Place}
use Rattle.play_event.specs.Table.{places_of}
use Rattle.play_event.specs.Trace.{traced_places, streets_of, is_shown, is_contested, has_unknown_card}
use Rattle.play_event.specs.Scripts.{past_of}
use Rattle.play_event.specs.Laws.{AreLegal}
use Rattle.play_event.specs.CanonScript.{street_said, showdown_said, showing_said, script_of, held_slots}
use Rattle.canon_laws.proofs.Mirrors.{AreMirrored}
use Rattle.canon_laws.proofs.Runs.{Runs, run_append}
use Rattle.play_laws.proofs.DueAtEvents.{turned_by}
use Rattle.play_laws.proofs.DoneKept.{all_early}
use Rattle.play_laws.proofs.LegalPlaces.{legal_past, LegalPast}
use Rattle.play_laws.proofs.PlayedStreets.{IsReached}
use Rattle.canon_laws.proofs.FreeGroups.{is_out_by}
use Rattle.canon_laws.proofs.TraceOrder.{finals_of}
use Rattle.canon_laws.proofs.TracedSlots.{discarded_same}
use Rattle.card_set.proofs.NumbersOfRange.{is_in, map_same}
use Rattle.canon_laws.proofs.CleanShow.{HoldsKnown, held_cards}
use Rattle.canon_laws.proofs.HeldSame.{slots_held, held_same, held_script, unknown_same, holds_known}
use Rattle.canon_laws.proofs.ShowdownRun.{AtShow, turn_shows, show_word, shows_run}
use Rattle.canon_laws.proofs.AllStreets.{AtEnd, at_end}
use Rattle.play_event.proofs.StreetLaws.{shown_unfinished}

-- the past at the end
pub record IsLast (setup : Setup) (rules : Rules) (script : Past) (words : List Said) : Type 0 where
  pub after : Past
  pub run : Runs setup rules [] words after
  pub moves : moves_of after ≡ moves_of script
  pub mirrored : AreMirrored (moves_of script) (is_out_by (street_count setup.code)) (places_of setup.code after) (finals_of setup (places_of setup.code script) (street_count setup.code))
  pub mucked : nat_le (live_count setup (moves_of script)) 1 ≡ false → (seat : ℕ) → 1 ≤ seat → seat ≤ setup.stacks.seats → is_live (moves_of script) seat ≡ true → has_mucked after seat ≡ not (is_shown setup script seat)
  pub ends : is_unfinished (turn setup after).1 ≡ false

-- a hand in which only one seat is left is over
pub over_ends : (setup : Setup) (mine : Past) → nat_le (live_count setup (moves_of mine)) 1 ≡ true → is_unfinished (turn setup mine).1 ≡ false
unfolding turn
over_ends setup mine over = ap (λ b. is_unfinished (turned_by setup mine b (first_due (due_on setup mine) (street_count setup.code + 1 - newest_street mine) (newest_street mine))).1) over

-- a shown seat
pub record ShownParts (setup : Setup) (script : Past) (seat : ℕ) : Type 0 where
  pub live : is_live (moves_of script) seat ≡ true
  pub known : has_unknown_card setup script seat ≡ false

-- a shown seat did not muck, and all its cards are known
pub shown_parts : (setup : Setup) (script : Past) (seat : ℕ) → is_shown setup script seat ≡ true → ShownParts setup script seat
shown_parts setup script seat is =
    let c = is_contested setup script in
    let l = is_live (moves_of script) seat in
    let m = not (has_mucked script seat) in
    let u = not (has_unknown_card setup script seat) in
    let one = and_parts ((c && l) && m) u is in
    let two = and_parts (c && l) m one.0 in
    record { live = (and_parts c l two.0).1; known = not-true (has_unknown_card setup script seat) one.1 }

pub early_all : (setup : Setup) (rules : Rules) (events : List Said) → AreLegal setup rules events → moves_before (street_count setup.code + 1) (moves_of (past_of setup events)) ≡ moves_of (past_of setup events)
early_all setup rules events legal =
    let law = legal_past setup rules events legal in
    all_early (newest_street (past_of setup events)) (street_count setup.code + 1) (moves_of (past_of setup events)) law.past.moved (omega (arith, law.past.within))

-- the canonical script takes place as a whole, and ends complete
pub last_past : (setup : Setup) (rules : Rules) (events : List Said) → AreLegal setup rules events → is_unfinished (turn setup (past_of setup events)).1 ≡ false → IsLast setup rules (past_of setup events) (script_of setup (traced_places setup (past_of setup events)) (moves_of (past_of setup events)) (filter (is_shown setup (past_of setup events)) (all_seats setup)))
last_past setup rules events legal complete =
    let script : Past = past_of setup events in
    let list : List Move = moves_of script in
    let count : ℕ = street_count setup.code in
    let placed : List Place = places_of setup.code script in
    let finals : List Place = finals_of setup placed count in
    let tp = traced_places setup script in
    let shown : List ℕ = filter (is_shown setup script) (all_seats setup) in
    let e : AtEnd setup rules script = at_end setup rules events legal complete in
    let all = early_all setup rules events legal in
    let M : List Move → Type 0 = λ l. AreMirrored l (is_out_by count) (places_of setup.code e.mine) finals in
    let mirrored = subst M all e.at.mirrored in
    let L : Past → Type 0 = LegalPast setup in
    let law : LegalPast setup e.mine = subst L e.at.led.past (legal_past setup rules e.at.led.events e.at.led.legal) in
    by_over (nat_le (live_count setup list) 1) refl e (e.at.same_moves ∙ all) mirrored law
  where
    held_is : (seat : ℕ) (mines : List Place) → 1 ≤ seat → seat < 1 + setup.stacks.seats → is_live (moves_of (past_of setup events)) seat ≡ true → AreMirrored (moves_of (past_of setup events)) (is_out_by (street_count setup.code)) mines (finals_of setup (places_of setup.code (past_of setup events)) (street_count setup.code)) → held_slots (traced_places setup (past_of setup events)) seat ≡ slots_held seat mines
    held_is seat mines from to live mirrored =
        discarded_same (finals_of setup (places_of setup.code (past_of setup events)) (street_count setup.code)) seat 0
        ∙ sym (held_same setup rules events mines seat legal from (omega (arith, to)) live mirrored)

    word_is : (seat : ℕ) (mines : List Place) (b : Bool) → 1 ≤ seat → seat < 1 + setup.stacks.seats → is_shown setup (past_of setup events) seat ≡ b → AreMirrored (moves_of (past_of setup events)) (is_out_by (street_count setup.code)) mines (finals_of setup (places_of setup.code (past_of setup events)) (street_count setup.code)) → (if b then said.Show seat (known_among (held_slots (traced_places setup (past_of setup events)) seat)) else said.Muck seat) ≡ (if b then said.Show seat (held_cards seat mines) else said.Muck seat)
    word_is seat mines true from to is mirrored = ap (λ l. said.Show seat (known_among l)) (held_is seat mines from to (shown_parts setup (past_of setup events) seat is).live mirrored)
    word_is seat mines false from to is mirrored = refl

    by_over : (b : Bool) → nat_le (live_count setup (moves_of (past_of setup events))) 1 ≡ b → (e : AtEnd setup rules (past_of setup events)) → moves_of e.mine ≡ moves_of (past_of setup events) → AreMirrored (moves_of (past_of setup events)) (is_out_by (street_count setup.code)) (places_of setup.code e.mine) (finals_of setup (places_of setup.code (past_of setup events)) (street_count setup.code)) → LegalPast setup e.mine → IsLast setup rules (past_of setup events) (script_of setup (traced_places setup (past_of setup events)) (moves_of (past_of setup events)) (filter (is_shown setup (past_of setup events)) (all_seats setup)))
    by_over true over e moves mirrored law =
        let script : Past = past_of setup events in
        let list : List Move = moves_of script in
        let tp = traced_places setup script in
        let shown : List ℕ = filter (is_shown setup script) (all_seats setup) in
        let streets : List Said = flat_map (street_said setup tp list) (streets_of setup) in
        let none : showdown_said setup tp list shown ≡ [] = ap (λ b. if b then map (showing_said tp shown) (filter (is_live list) (all_seats setup)) else []) (lt-leb 2 (live_count setup list) (omega (arith, leb-true (live_count setup list) 1 over))) in
        let R : List Said → Type 0 = λ l. Runs setup rules [] l e.mine in
        record {
          after = e.mine;
          run = subst R (sym (ap (λ l. streets ++ l) none ∙ append-nil streets)) e.run;
          moves = moves;
          mirrored = mirrored;
          mucked = λ several. absurd (both_ways (nat_le (live_count setup list) 1) several over);
          ends = over_ends setup e.mine (ap (λ l. nat_le (live_count setup l) 1) moves ∙ over);
        }
    by_over false several e moves mirrored law =
        let script : Past = past_of setup events in
        let list : List Move = moves_of script in
        let count : ℕ = street_count setup.code in
        let placed : List Place = places_of setup.code script in
        let mines : List Place = places_of setup.code e.mine in
        let tp = traced_places setup script in
        let shown : List ℕ = filter (is_shown setup script) (all_seats setup) in
        let is : ℕ → Bool = is_shown setup script in
        let streets : List Said = flat_map (street_said setup tp list) (streets_of setup) in
        let reached : IsReached setup list (count + 1) = ap (λ l. nat_le (live_count setup l) 1) (early_all setup rules events legal) ∙ several in
        let at : AtShow setup list mines is 1 e.mine = record {
          moves = moves;
          places = refl;
          since = law.past.since;
          within = law.past.within;
          quiet = λ street least most. e.at.quiet reached street least (omega (arith, most));
          todo = λ seat from. (e.at.no_shown seat, e.at.no_mucked seat);
          done = λ seat from to. absurd (omega (arith, from, to));
        } in
        let known : (seat : ℕ) → 1 ≤ seat → seat ≤ setup.stacks.seats → is_live list seat ≡ true → is seat ≡ true → HoldsKnown seat mines = λ seat least most live so.
        holds_known seat mines (unknown_same seat mines placed (held_same setup rules events mines seat legal least most live mirrored ∙ held_script setup rules events seat legal least most live) ∙ (shown_parts setup script seat so).known) in
        let s = shows_run setup rules list mines is 1 setup.stacks.seats several known e.mine at (omega arith) (omega arith) in
        let words : showdown_said setup tp list shown ≡ map (show_word mines is) (filter (is_live list) (all_seats setup)) =
        ap (λ b. if b then map (showing_said tp shown) (filter (is_live list) (all_seats setup)) else []) (le-leb 2 (live_count setup list) (omega (arith, leb-false (live_count setup list) 1 several)))
        ∙ map_same (showing_said tp shown) (show_word mines is) (is_live list) 1 setup.stacks.seats (λ seat from to.
        ap (λ b. if b then said.Show seat (known_among (held_slots tp seat)) else said.Muck seat) (is_in is 1 setup.stacks.seats seat from to) ∙ word_is seat mines (is seat) from to refl mirrored) in
        let R : List Said → Type 0 = λ l. Runs setup rules [] (streets ++ l) s.after in
        let P : List Place → Type 0 = λ l. AreMirrored list (is_out_by count) l (finals_of setup placed count) in
        record {
          after = s.after;
          run = subst R (sym words) (run_append setup rules [] e.mine s.after streets (map (show_word mines is) (filter (is_live list) (all_seats setup))) e.run s.run);
          moves = s.at.moves;
          mirrored = subst P (sym s.at.places) mirrored;
          mucked = λ so seat least most live. s.at.done seat least (omega (arith, most)) live;
          ends = ap (λ (now : ℕ × Due). is_unfinished now.1) (turn_shows setup list mines is (1 + setup.stacks.seats) s.after several s.at) ∙ shown_unfinished (is_show_due setup s.after);
        }

-- the moves before the fifth street are all
pub before_fifth : (setup : Setup) (rules : Rules) (events : List Said) → AreLegal setup rules events → street_count setup.code ≡ 4 → moves_before 5 (moves_of (past_of setup events)) ≡ moves_of (past_of setup events)
before_fifth setup rules events legal four =
    let law = legal_past setup rules events legal in
    all_early (newest_street (past_of setup events)) 5 (moves_of (past_of setup events)) law.past.moved (omega (arith, law.past.within, four))
