-- If each mucked seat has an unknown card, the canonical script without its showdown leaves the
-- same trace: a live seat whose cards are all known counts as shown, and each other one as mucked.
use Rattle.std.proofs.Common.{◌≡◌, ℕ, ◌+◌, ◌≤◌, ◌<◌, Bool, true, false, ◌&&◌, not, nat_le, List, [], filter, reverse, refl, sym, ◌∙◌, ap, subst, arith, true≢false}
use Rattle.std.specs.List.{flat_map}
use Rattle.play_event.proofs.StreetLaws.{shown_unfinished}
use Rattle.play_event.specs.declared.reason.Due.{Due}
use Rattle.play_event.specs.declared.setup.Rules.{Rules}
use Rattle.play_event.specs.declared.setup.Setup.{Setup}
use Rattle.play_event.specs.Due.{is_unfinished, turn}
use Rattle.play_event.specs.Games.{street_count}
use Rattle.play_event.specs.Laws.{AreLegal}
use Rattle.play_event.specs.Past.{Move, Past, moves_of}
use Rattle.play_event.specs.Said.{Said}
use Rattle.play_event.specs.Scripts.{past_at_end, past_of}
use Rattle.play_event.specs.Seats.{all_seats, is_live, live_count}
use Rattle.play_event.specs.Showing.{has_mucked, is_show_due}
use Rattle.play_event.specs.Table.{places_of}
use Rattle.play_event.specs.Trace.{has_unknown_card, is_mucked, is_shown, streets_of, traced_places}
use Rattle.play_event.specs.CanonScript.{plain_moves, street_said}
use Rattle.play_event.specs.PlayedScript.{IsPlayed}
use Rattle.play_event.specs.TraceCore.{TraceCore, core_after, core_of}
use Rattle.card_set.proofs.NumbersOfRange.{filter_range}
use Rattle.play_laws.proofs.LegalPlaces.{LegalPast, legal_past}
use Rattle.play_laws.proofs.PlayedStreets.{IsReached}
use Rattle.canon_laws.proofs.FreeGroups.{is_out_by}
use Rattle.canon_laws.proofs.Mirrors.{AreMirrored}
use Rattle.canon_laws.proofs.Runs.{Runs, run_of_script}
use Rattle.canon_laws.proofs.SamePlaces.{same_places}
use Rattle.canon_laws.proofs.TraceOrder.{finals_of, is_final}
use Rattle.canon_laws.proofs.AllStreets.{AtEnd, at_end}
use Rattle.canon_laws.proofs.HeldSame.{held_same, held_script, unknown_same}
use Rattle.canon_laws.proofs.SameCore.{plain_again, core_by, core_parts}
use Rattle.canon_laws.proofs.ShowdownRun.{AtShow, turn_shows}
use Rattle.canon_laws.specs.Confluence.{HasTraceOf}
use Rattle.canon_laws.proofs.LastPast.{early_all, over_ends}
use Rattle.play_event.proofs.ScriptLaws as scripts

-- each mucked seat has an unknown card
abbrev pub MucksHide : Setup → Past → Type 0
MucksHide setup past = (seat : ℕ) → 1 ≤ seat → seat ≤ setup.stacks.seats → is_mucked setup past seat ≡ true → has_unknown_card setup past seat ≡ true

-- the streets of the canonical script of a trace
abbrev pub streets_alone : Setup → TraceCore → List Said
streets_alone setup core = flat_map (street_said setup core.places (plain_moves core.moves)) (streets_of setup)

-- the past after the streets of the canonical script
record AfterStreets (setup : Setup) (rules : Rules) (script : Past) : Type 0 where
  end : AtEnd setup rules script
  moves : moves_of end.mine ≡ moves_of script
  mirrored : AreMirrored (moves_of script) (is_out_by (street_count setup.code)) (places_of setup.code end.mine) (finals_of setup (places_of setup.code script) (street_count setup.code))
  law : LegalPast setup end.mine

after_streets : (setup : Setup) (rules : Rules) (events : List Said) → AreLegal setup rules events → is_unfinished (turn setup (past_of setup events)).1 ≡ false → AfterStreets setup rules (past_of setup events)
after_streets setup rules events legal complete =
    let script : Past = past_of setup events in
    let count : ℕ = street_count setup.code in
    let e : AtEnd setup rules script = at_end setup rules events legal complete in
    let all = early_all setup rules events legal in
    let M : List Move → Type 0 = λ l. AreMirrored l (is_out_by count) (places_of setup.code e.mine) (finals_of setup (places_of setup.code script) count) in
    let L : Past → Type 0 = LegalPast setup in
    record {
      end = e;
      moves = e.at.same_moves ∙ all;
      mirrored = subst M all e.at.mirrored;
      law = subst L e.at.led.past (legal_past setup rules e.at.led.events e.at.led.legal);
    }

-- after them only shows are due
ends : (setup : Setup) (rules : Rules) (events : List Said) → AreLegal setup rules events → (s : AfterStreets setup rules (past_of setup events)) → (over : Bool) → nat_le (live_count setup (moves_of (past_of setup events))) 1 ≡ over
    → is_unfinished (turn setup s.end.mine).1 ≡ false
ends setup rules events legal s true over = over_ends setup s.end.mine (ap (λ (l : List Move). nat_le (live_count setup l) 1) s.moves ∙ over)
ends setup rules events legal s false several =
    let script : Past = past_of setup events in
    let list : List Move = moves_of script in
    let mine : Past = s.end.mine in
    let count : ℕ = street_count setup.code in
    let none : ℕ → Bool = λ seat. false in
    let reached : IsReached setup list (count + 1) = ap (λ (l : List Move). nat_le (live_count setup l) 1) (early_all setup rules events legal) ∙ several in
    let at : AtShow setup list (places_of setup.code mine) none 1 mine = record {
      moves = s.moves;
      places = refl;
      since = s.law.past.since;
      within = s.law.past.within;
      quiet = λ street least most. s.end.at.quiet reached street least (omega (arith, most));
      todo = λ seat from. (s.end.at.no_shown seat, s.end.at.no_mucked seat);
      done = λ seat from to. absurd (omega (arith, from, to));
    } in
    ap (λ (now : ℕ × Due). is_unfinished now.1) (turn_shows setup list (places_of setup.code mine) none 1 mine several at) ∙ shown_unfinished (is_show_due setup mine)

-- a live seat of a contested hand is shown in both, or mucked in both
shown_by : (c l m n u v : Bool) → n ≡ false → (c ≡ true → l ≡ true → v ≡ u) → (((c && l) && not (((c && l) && not m) && not u)) ≡ true → u ≡ true)
    → (((c && l) && not n) && not v) ≡ (((c && l) && not m) && not u)
shown_by c l m true u v none same hides = absurd (true≢false none)
shown_by false l m false u v none same hides = refl
shown_by true false m false u v none same hides = refl
shown_by true true true false true v none same hides = ap not (same refl refl)
shown_by true true false false true v none same hides = ap not (same refl refl)
shown_by true true false false false v none same hides = ap not (same refl refl)
shown_by true true true false false v none same hides = absurd (true≢false (sym (hides refl)))

shown_same : (setup : Setup) (rules : Rules) (events : List Said) → AreLegal setup rules events → MucksHide setup (past_of setup events) → (s : AfterStreets setup rules (past_of setup events)) → (seat : ℕ) → 1 ≤ seat → seat ≤ setup.stacks.seats
    → is_shown setup s.end.mine seat ≡ is_shown setup (past_of setup events) seat
shown_same setup rules events legal hide s seat least most =
    let script : Past = past_of setup events in
    let mine : Past = s.end.mine in
    let list : List Move = moves_of script in
    ap (λ (l : List Move). ((nat_le 2 (live_count setup l) && is_live l seat) && not (has_mucked mine seat)) && not (has_unknown_card setup mine seat)) s.moves
    ∙ shown_by (nat_le 2 (live_count setup list)) (is_live list seat) (has_mucked script seat) (has_mucked mine seat) (has_unknown_card setup script seat) (has_unknown_card setup mine seat)
    (s.end.at.no_mucked seat)
    (λ several live. unknown_same seat (places_of setup.code mine) (places_of setup.code script)
    (held_same setup rules events (places_of setup.code mine) seat legal least most live s.mirrored ∙ held_script setup rules events seat legal least most live))
    (hide seat least most)

same_core : (setup : Setup) (rules : Rules) (events : List Said) → AreLegal setup rules events → MucksHide setup (past_of setup events) → (s : AfterStreets setup rules (past_of setup events)) → core_of setup s.end.mine ≡ core_of setup (past_of setup events)
unfolding core_by
same_core setup rules events legal hide s =
    let script : Past = past_of setup events in
    let mine : Past = s.end.mine in
    let law = legal_past setup rules events legal in
    let shown : (seat : ℕ) → 1 ≤ seat → seat < 1 + setup.stacks.seats → is_shown setup mine seat ≡ is_shown setup script seat = λ seat from to. shown_same setup rules events legal hide s seat from (omega (arith, to)) in
    core_parts setup (traced_places setup mine) (traced_places setup script) (moves_of mine) (moves_of script)
    (filter (is_shown setup mine) (all_seats setup)) (filter (is_shown setup script) (all_seats setup)) (filter (is_mucked setup mine) (all_seats setup)) (filter (is_mucked setup script) (all_seats setup))
    (same_places setup mine script (moves_of script) s.mirrored (λ final among. omega (arith, law.places.out_reached final (is_final setup (places_of setup.code script) (street_count setup.code) final among).among, law.past.within)))
    s.moves
    (filter_range (is_shown setup mine) (is_shown setup script) 1 setup.stacks.seats shown)
    (filter_range (is_mucked setup mine) (is_mucked setup script) 1 setup.stacks.seats (λ seat from to.
    ap (λ (l : List Move). (nat_le 2 (live_count setup l) && is_live l seat) && not (is_shown setup mine seat)) s.moves
    ∙ ap (λ b. (nat_le 2 (live_count setup (moves_of script)) && is_live (moves_of script) seat) && not b) (shown seat from to)))

words_alone : (setup : Setup) (rules : Rules) (script words : List Said) → IsPlayed setup rules script → MucksHide setup (past_at_end setup script) → (s : AfterStreets setup rules (past_at_end setup script))
    → flat_map (street_said setup (traced_places setup (past_at_end setup script)) (moves_of (past_at_end setup script))) (streets_of setup) ≡ words
    → HasTraceOf setup rules script words
words_alone setup rules script words played hide s same =
    let events = reverse script in
    let R : List Said → Type 0 = λ l. Runs setup rules [] l s.end.mine in
    let run = run_of_script setup rules words s.end.mine (subst R same s.end.run) in
    record {
      played = record {
        legal = run.legal;
        complete = ap (λ (p : Past). is_unfinished (turn setup p).1) (scripts.at_end setup words ∙ run.past) ∙ ends setup rules events played.legal s (nat_le (live_count setup (moves_of (past_of setup events))) 1) refl;
      };
      same = ap (core_of setup) run.past ∙ same_core setup rules events played.legal hide s;
    }

-- the streets of the canonical script are played to their end, and leave the trace
pub without_shows : (setup : Setup) (rules : Rules) (script : List Said) → IsPlayed setup rules script → MucksHide setup (past_at_end setup script) → HasTraceOf setup rules script (streets_alone setup (core_after setup script))
without_shows setup rules script played hide =
    let past = past_at_end setup script in
    let complete : is_unfinished (turn setup past).1 ≡ false = sym (ap (λ (p : Past). is_unfinished (turn setup p).1) (scripts.at_end setup script)) ∙ played.complete in
    words_alone setup rules script (streets_alone setup (core_after setup script)) played hide (after_streets setup rules (reverse script) played.legal complete)
    (ap (λ (l : List Move). flat_map (street_said setup (traced_places setup past) l) (streets_of setup)) (sym (plain_again setup (moves_of past))))
