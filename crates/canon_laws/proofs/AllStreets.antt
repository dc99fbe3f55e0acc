-- All streets of the canonical script, one after another.
use Rattle.std.proofs.Common.{◌≡◌, ℕ, zero, suc, ◌+◌, ◌≤◌, Bool, true, false, nat_le, List, [], ◌∷◌, refl, sym, ◌∙◌, ap, subst, arith, if◌then◌else◌}
use Rattle.std.specs.List.{flat_map, range_with_len}
use Rattle.std.proofs.lemmas.Bool.{le-ltb}
use Rattle.play_event.specs.declared.setup.Setup.{Setup}
use Rattle.play_event.specs.declared.setup.Rules.{Rules}
use Rattle.play_event.specs.Games.{street_count}
use Rattle.play_event.specs.Said.{Said}
use Rattle.play_event.specs.Past.{Past, Resolved, Move, moves_of, moves_before}
use Rattle.play_event.specs.Seats.{live_count}
use Rattle.play_event.specs.Due.{turn, is_unfinished}
use Rattle.play_event.specs.Trace.{traced_places, streets_of}
use Rattle.play_event.specs.Scripts.{past_of, with_event}
use Rattle.play_event.specs.Laws.{AreLegal}
use Rattle.play_event.specs.CanonScript.{street_said}
use Rattle.canon_laws.proofs.Runs.{Runs, run_append}
use Rattle.play_laws.proofs.DueAtEvents.{turn_reaches}
use Rattle.play_laws.proofs.LegalEvents.{Stepped, stepped, deals, boards, mucks, shows, discards, moves}
use Rattle.play_laws.proofs.LegalPlaces.{legal_past}
use Rattle.canon_laws.proofs.StreetPlay.{IsNext, played}
use Rattle.canon_laws.proofs.StreetUnplayed.{skipped}
use Rattle.canon_laws.proofs.Street.{AtStreet}

-- moves are on streets from the first on
abbrev pub AreSince : List Move → Type 0
AreSince [] = Unit {0}
AreSince (move ∷ rest) = (1 ≤ move.street) × AreSince rest

since_step : (setup : Setup) (before : Past) (at : ℕ) (event : Resolved) → 1 ≤ at → Stepped setup before at event → AreSince (moves_of before) → AreSince (moves_of (event ∷ before))
since_step setup before at _ some (deals seat cards due is more few free) since = since
since_step setup before at _ some (boards cards due more few free) since = since
since_step setup before at _ some (discards seat cards no_deal draw next few free held) since = since
since_step setup before at _ some (shows seat cards may free) since = since
since_step setup before at _ some (mucks seat may) since = since
since_step setup before at _ some (moves played no_deal no_draw on) since = (omega (arith, some, on), since)

-- the moves of a legal script are
pub legal_since : (setup : Setup) (rules : Rules) (events : List Said) → AreLegal setup rules events → AreSince (moves_of (past_of setup events))
unfolding with_event
legal_since setup rules [] legal = tt
legal_since setup rules (event ∷ events) legal =
    let before = past_of setup events in
    let it = legal_past setup rules events legal.1 in
    let come = turn_reaches setup before it.past.within in
    since_step setup before (turn setup before).0 _ (omega (arith, come.on, it.past.since)) (stepped setup rules before event legal.0) (legal_since setup rules events legal.1)

-- so no move is before the first street
pub none_first : (list : List Move) → AreSince list → moves_before (0 + 1) list ≡ []
none_first [] since = refl
none_first (move ∷ rest) since = ap (λ b. if b then (move ∷ moves_before (0 + 1) rest) else moves_before (0 + 1) rest) (le-ltb move.street (0 + 1) (omega (arith, since.0))) ∙ none_first rest since.1

-- the start
start : (setup : Setup) (rules : Rules) (events : List Said) → AreLegal setup rules events → AtStreet setup rules (past_of setup events) 0 []
start setup rules events legal =
    record {
      led = record { events = []; legal = tt; past = refl };
      same_moves = sym (none_first (moves_of (past_of setup events)) (legal_since setup rules events legal));
      mirrored = tt;
      newest = omega arith;
      quiet = λ reached street least less. absurd (omega (arith, least, less));
      no_holes = λ street seat above. refl;
      no_board = λ street above. refl;
      no_out = λ street seat above. refl;
      no_drawn = λ street seat above. refl;
      no_shown = λ seat. refl;
      no_mucked = λ seat. refl;
    }

-- this number of streets
record AreNext (setup : Setup) (rules : Rules) (script : Past) (before count : ℕ) (mine : Past) : Type 0 where
  after : Past
  run : Runs setup rules mine (flat_map (street_said setup (traced_places setup script) (moves_of script)) (range_with_len (before + 1) count)) after
  at : AtStreet setup rules script (before + count) after

next_street : (setup : Setup) (rules : Rules) (events : List Said) (mine : Past) (before : ℕ) → AreLegal setup rules events → is_unfinished (turn setup (past_of setup events)).1 ≡ false → AtStreet setup rules (past_of setup events) before mine → before + 1 ≤ street_count setup.code → (b : Bool) → nat_le (live_count setup (moves_before (before + 1) (moves_of (past_of setup events)))) 1 ≡ b → IsNext setup rules (past_of setup events) before mine
next_street setup rules events mine before legal complete at last true over = skipped setup rules events mine before legal at over last
next_street setup rules events mine before legal complete at last false reached = played setup rules events mine before legal complete at reached last

next_streets : (setup : Setup) (rules : Rules) (events : List Said) (mine : Past) (before count : ℕ) → AreLegal setup rules events → is_unfinished (turn setup (past_of setup events)).1 ≡ false → AtStreet setup rules (past_of setup events) before mine → before + count ≤ street_count setup.code → AreNext setup rules (past_of setup events) before count mine
next_streets setup rules events mine before zero legal complete at last =
    let P : ℕ → Type 0 = λ k. AtStreet setup rules (past_of setup events) k mine in
    let same : before ≡ before + 0 = omega arith in
    record { after = mine; run = refl; at = subst P same at }
next_streets setup rules events mine before (suc count) legal complete at last =
    let script : Past = past_of setup events in
    let tp = traced_places setup script in
    let one = next_street setup rules events mine before legal complete at (omega (arith, last)) (nat_le (live_count setup (moves_before (before + 1) (moves_of script))) 1) refl in
    let rest = next_streets setup rules events one.after (before + 1) count legal complete one.at (omega (arith, last)) in
    let P : ℕ → Type 0 = λ k. AtStreet setup rules script k rest.after in
    let same : (before + 1) + count ≡ before + suc count = omega arith in
    record {
      after = rest.after;
      run = run_append setup rules mine one.after rest.after (street_said setup tp (moves_of script) (before + 1)) (flat_map (street_said setup tp (moves_of script)) (range_with_len ((before + 1) + 1) count)) one.run rest.run;
      at = subst P same rest.at;
    }

-- the past at the end of the streets
pub record AtEnd (setup : Setup) (rules : Rules) (script : Past) : Type 0 where
  pub mine : Past
  pub run : Runs setup rules [] (flat_map (street_said setup (traced_places setup script) (moves_of script)) (streets_of setup)) mine
  pub at : AtStreet setup rules script (street_count setup.code) mine

-- after all streets
pub at_end : (setup : Setup) (rules : Rules) (events : List Said) → AreLegal setup rules events → is_unfinished (turn setup (past_of setup events)).1 ≡ false → AtEnd setup rules (past_of setup events)
at_end setup rules events legal complete =
    let it = next_streets setup rules events [] 0 (street_count setup.code) legal complete (start setup rules events legal) (omega arith) in
    let P : ℕ → Type 0 = λ k. AtStreet setup rules (past_of setup events) k it.after in
    let same : 0 + street_count setup.code ≡ street_count setup.code = omega arith in
    record { mine = it.after; run = it.run; at = subst P same it.at }
