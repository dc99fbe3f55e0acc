-- The showdown of the canonical script: each live seat shows all its cards, or mucks.
use Rattle.std.proofs.Common.{◌≡◌, ℕ, zero, suc, ◌+◌, ◌-◌, ◌≤◌, ◌<◌, Bool, true, false, ◌&&◌, ◌||◌, ◌==◌, not, nat_le, inl, inr, Option, None, List, ◌∷◌, map, filter, length, refl, sym, ◌∙◌, ap, subst, arith, if◌then◌else◌}
use Rattle.std.specs.List.{list_any, range_with_len}
use Rattle.std.proofs.lemmas.Bool.{and_from, or_left, or_from, eq-eqb, ne_eqb, cases_lt, le-leb, not_from_false, both_ways}
use Rattle.card_set.specs.declared.card.Card.{Card}
use Rattle.play_event.specs.declared.reason.Due.{Due}
use Rattle.play_event.specs.declared.reason.Due.TheVariants as dues
use Rattle.play_event.specs.declared.setup.Setup.{Setup}
use Rattle.play_event.specs.declared.setup.Rules.{Rules}
use Rattle.play_event.specs.Games.{street_count}
use Rattle.play_event.specs.Said as said
use Rattle.play_event.specs.Said.{Said}
use Rattle.play_event.specs.Past as past
use Rattle.play_event.specs.Past.{Past, Move, moves_of, newest_street}
use Rattle.play_event.specs.Seats.{is_live, live_count}
use Rattle.play_event.specs.Showing.{has_shown, has_mucked, has_to_show}
use Rattle.play_event.specs.Due.{turn, due_on, first_due, showdown}
use Rattle.card_set.specs.Known.{hides_card}
use Rattle.play_event.specs.Places.{Place}
use Rattle.play_event.specs.NameMatching.{held_count, after_show, held_down_count}
use Rattle.play_event.specs.Table.{places_of, up_cards}
use Rattle.play_event.specs.CardReasons.{is_seat, may_show, may_show_so_many, is_not_held}
use Rattle.play_event.specs.Reasons.{why}
use Rattle.play_event.specs.Scripts.{with_event}
use Rattle.canon_laws.proofs.Runs.{Runs}
use Rattle.play_laws.proofs.DueAtEvents.{turned_by}
use Rattle.canon_laws.proofs.CardEvents.{show_legal, muck_legal}
use Rattle.play_laws.proofs.SeatRanges.{any_seat}
use Rattle.canon_laws.proofs.CleanShow.{HoldsKnown, held_cards, clean_show}
use Rattle.play_event.specs.Taken.{has_misplaced_card}
use Rattle.play_event.proofs.DueStreets.{first_quiet}

-- the past between the shows
pub record AtShow (setup : Setup) (list : List Move) (placed : List Place) (shown : ℕ → Bool) (first : ℕ) (mine : Past) : Type 0 where
  pub moves : moves_of mine ≡ list
  pub places : places_of setup.code mine ≡ placed
  pub since : 1 ≤ newest_street mine
  pub within : newest_street mine ≤ street_count setup.code
  pub quiet : (street : ℕ) → 1 ≤ street → street ≤ street_count setup.code → due_on setup mine street ≡ None
  pub todo : (seat : ℕ) → first ≤ seat → (has_shown mine seat ≡ false) × (has_mucked mine seat ≡ false)
  pub done : (seat : ℕ) → 1 ≤ seat → seat < first → is_live list seat ≡ true → has_mucked mine seat ≡ not (shown seat)

by_found : (setup : Setup) (mine : Past) (over : Bool) (found : Option (ℕ × Due)) → over ≡ false → found ≡ None → turned_by setup mine over found ≡ (street_count setup.code, showdown setup mine)
by_found setup mine over found going none = ap (λ b. turned_by setup mine b found) going ∙ ap (turned_by setup mine false) none

-- after the last street shows are due
pub turn_shows : (setup : Setup) (list : List Move) (placed : List Place) (shown : ℕ → Bool) (first : ℕ) (mine : Past) → nat_le (live_count setup list) 1 ≡ false → AtShow setup list placed shown first mine → turn setup mine ≡ (street_count setup.code, showdown setup mine)
unfolding turn
turn_shows setup list placed shown first mine several at =
    by_found setup mine (nat_le (live_count setup (moves_of mine)) 1) (first_due (due_on setup mine) (street_count setup.code + 1 - newest_street mine) (newest_street mine))
    (ap (λ l. nat_le (live_count setup l) 1) at.moves ∙ several)
    (first_quiet (due_on setup mine) (street_count setup.code + 1 - newest_street mine) (newest_street mine) (λ between least less. at.quiet between (omega (arith, at.since, least)) (omega (arith, less, at.within))))

-- one seat
record IsOneShow (setup : Setup) (rules : Rules) (list : List Move) (placed : List Place) (shown : ℕ → Bool) (first : ℕ) (mine : Past) (event : Said) : Type 0 where
  after : Past
  legal : why setup rules mine event ≡ None
  placed_so : with_event setup event mine ≡ after
  at : AtShow setup list placed shown (first + 1) after

show_placed : (setup : Setup) (before : Past) (street : ℕ) (due : Due) (seat : ℕ) (cards : List Card) → turn setup before ≡ (street, due) → with_event setup (said.Show seat cards) before ≡ past.Shown street seat cards ∷ before
unfolding with_event
show_placed setup before street due seat cards turned = ap (λ (at : ℕ × Due). past.Shown at.0 seat cards ∷ before) turned

muck_placed : (setup : Setup) (before : Past) (street : ℕ) (due : Due) (seat : ℕ) → turn setup before ≡ (street, due) → with_event setup (said.Muck seat) before ≡ past.Mucked street seat ∷ before
unfolding with_event
muck_placed setup before street due seat turned = ap (λ (at : ℕ × Due). past.Mucked at.0 seat ∷ before) turned

to_show : (setup : Setup) (list : List Move) (placed : List Place) (shown : ℕ → Bool) (first : ℕ) (mine : Past) → AtShow setup list placed shown first mine → is_live list first ≡ true → has_to_show mine first ≡ true
to_show setup list placed shown first mine at live =
    and_from (is_live (moves_of mine) first) (not (has_shown mine first || has_mucked mine first)) (ap (λ l. is_live l first) at.moves ∙ live)
    (not_from_false (has_shown mine first || has_mucked mine first) (or_from (has_shown mine first) (has_mucked mine first) (at.todo first (omega arith)).0 (at.todo first (omega arith)).1))

turned_now : (setup : Setup) (list : List Move) (placed : List Place) (shown : ℕ → Bool) (first : ℕ) (mine : Past) → nat_le (live_count setup list) 1 ≡ false → AtShow setup list placed shown first mine → 1 ≤ first → first ≤ setup.stacks.seats → is_live list first ≡ true → turn setup mine ≡ (street_count setup.code, dues.Show)
turned_now setup list placed shown first mine several at least most live =
    turn_shows setup list placed shown first mine several at
    ∙ ap {B = ℕ × Due} (λ b. (street_count setup.code, if b then dues.Show else dues.Over)) (any_seat setup (has_to_show mine) first least most (to_show setup list placed shown first mine at live))

may_now : (setup : Setup) (list : List Move) (placed : List Place) (shown : ℕ → Bool) (first : ℕ) (mine : Past) → AtShow setup list placed shown first mine → 1 ≤ first → first ≤ setup.stacks.seats → is_live list first ≡ true → may_show setup mine first ≡ true
may_now setup list placed shown first mine at least most live =
    and_from (is_seat setup first) (has_to_show mine first) (and_from (nat_le 1 first) (nat_le first setup.stacks.seats) (le-leb 1 first least) (le-leb first setup.stacks.seats most)) (to_show setup list placed shown first mine at live)

one_show : (setup : Setup) (rules : Rules) (list : List Move) (placed : List Place) (shown : ℕ → Bool) (first : ℕ) (mine : Past) → nat_le (live_count setup list) 1 ≡ false → AtShow setup list placed shown first mine → 1 ≤ first → first ≤ setup.stacks.seats → is_live list first ≡ true → shown first ≡ true → HoldsKnown first placed → IsOneShow setup rules list placed shown first mine (said.Show first (held_cards first placed))
one_show setup rules list placed shown first mine several at least most live is known =
    let turned = turned_now setup list placed shown first mine several at least most live in
    let cards : List Card = held_cards first placed in
    let clean = clean_show setup.code first placed known in
    let after : Past = past.Shown (street_count setup.code) first cards ∷ mine in
    let C : List Place → Type 0 = λ l. may_show_so_many setup mine l first (length cards) ≡ true in
    let F : List Place → Type 0 = λ l. has_misplaced_card setup.code l (after_show setup.code first cards l) ≡ false in
    let H : List Place → Type 0 = λ l. is_not_held setup.code l (said.Show first cards) ≡ false in
    record {
      after = after;
      legal = show_legal setup rules mine (street_count setup.code) first cards turned (may_now setup list placed shown first mine at least most live)
          (subst C (sym at.places) (or_left (length cards == held_count placed first) ((length cards == held_down_count setup.code placed first) && not (list_any hides_card (up_cards setup.code mine first))) (eq-eqb (length cards) (held_count placed first) clean.count)))
          (subst F (sym at.places) clean.free) (subst H (sym at.places) clean.held);
      placed_so = show_placed setup mine (street_count setup.code) dues.Show first cards turned;
      at = record {
        moves = at.moves;
        places = ap (after_show setup.code first cards) at.places ∙ clean.after;
        since = omega (arith, at.since, at.within);
        within = omega arith;
        quiet = at.quiet;
        todo = λ seat from. (or_from (first == seat) (has_shown mine seat) (ne_eqb first seat (λ same. omega (arith, same, from))) (at.todo seat (omega (arith, from))).0, (at.todo seat (omega (arith, from))).1);
        done = λ seat from to alive. elim (cases_lt seat first) [
          | inl less ↦ at.done seat from less alive
          | inr more ↦ let same : first ≡ seat = omega (arith, more, to) in ap (has_mucked mine) (sym same) ∙ ((at.todo first (omega arith)).1 ∙ (sym (ap not is) ∙ ap (λ s. not (shown s)) same))
        ];
      };
    }

one_muck : (setup : Setup) (rules : Rules) (list : List Move) (placed : List Place) (shown : ℕ → Bool) (first : ℕ) (mine : Past) → nat_le (live_count setup list) 1 ≡ false → AtShow setup list placed shown first mine → 1 ≤ first → first ≤ setup.stacks.seats → is_live list first ≡ true → shown first ≡ false → IsOneShow setup rules list placed shown first mine (said.Muck first)
one_muck setup rules list placed shown first mine several at least most live not_shown =
    let turned = turned_now setup list placed shown first mine several at least most live in
    let after : Past = past.Mucked (street_count setup.code) first ∷ mine in
    record {
      after = after;
      legal = muck_legal setup rules mine (street_count setup.code) first turned (may_now setup list placed shown first mine at least most live);
      placed_so = muck_placed setup mine (street_count setup.code) dues.Show first turned;
      at = record {
        moves = at.moves;
        places = at.places;
        since = omega (arith, at.since, at.within);
        within = omega arith;
        quiet = at.quiet;
        todo = λ seat from. ((at.todo seat (omega (arith, from))).0, or_from (first == seat) (has_mucked mine seat) (ne_eqb first seat (λ same. omega (arith, same, from))) (at.todo seat (omega (arith, from))).1);
        done = λ seat from to alive. elim (cases_lt seat first) [
          | inl less ↦ ap (λ b. b || has_mucked mine seat) (ne_eqb first seat (λ same. omega (arith, same, less))) ∙ at.done seat from less alive
          | inr more ↦ let same : first ≡ seat = omega (arith, more, to) in or_left (first == seat) (has_mucked mine seat) (eq-eqb first seat same) ∙ sym (ap (λ s. not (shown s)) (sym same) ∙ ap not not_shown)
        ];
      };
    }

-- the event of a seat
abbrev pub show_word : List Place → (ℕ → Bool) → ℕ → Said
show_word placed shown seat = if shown seat then said.Show seat (held_cards seat placed) else said.Muck seat

-- the shows of the seats from one on, and the past after them
pub record AreShown (setup : Setup) (rules : Rules) (list : List Move) (placed : List Place) (shown : ℕ → Bool) (last : ℕ) (mine : Past) (words : List Said) : Type 0 where
  pub after : Past
  pub run : Runs setup rules mine words after
  pub at : AtShow setup list placed shown last after

one_word : (setup : Setup) (rules : Rules) (list : List Move) (placed : List Place) (shown : ℕ → Bool) (first : ℕ) (mine : Past) → nat_le (live_count setup list) 1 ≡ false → AtShow setup list placed shown first mine → 1 ≤ first → first ≤ setup.stacks.seats → is_live list first ≡ true → (b : Bool) → shown first ≡ b → (shown first ≡ true → HoldsKnown first placed) → IsOneShow setup rules list placed shown first mine (if b then said.Show first (held_cards first placed) else said.Muck first)
one_word setup rules list placed shown first mine several at least most live true is known = one_show setup rules list placed shown first mine several at least most live is (known is)
one_word setup rules list placed shown first mine several at least most live false is known = one_muck setup rules list placed shown first mine several at least most live is

-- a seat that folded
passed_by : (setup : Setup) (list : List Move) (placed : List Place) (shown : ℕ → Bool) (first : ℕ) (mine : Past) → AtShow setup list placed shown first mine → is_live list first ≡ false → AtShow setup list placed shown (first + 1) mine
passed_by setup list placed shown first mine at folded =
    record {
      moves = at.moves;
      places = at.places;
      since = at.since;
      within = at.within;
      quiet = at.quiet;
      todo = λ seat from. at.todo seat (omega (arith, from));
      done = λ seat from to alive. elim (cases_lt seat first) [
        | inl less ↦ at.done seat from less alive
        | inr more ↦ let same : seat ≡ first = omega (arith, more, to) in absurd (both_ways (is_live list first) folded (sym (ap (is_live list) same) ∙ alive))
      ];
    }

-- for this number of seats
pub AllShown : Setup → Rules → List Move → List Place → (ℕ → Bool) → ℕ → ℕ → Type 0
AllShown setup rules list placed shown first count = (p : Past) → AtShow setup list placed shown first p → 1 ≤ first → first + count ≤ setup.stacks.seats + 1 → AreShown setup rules list placed shown (first + count) p (map (show_word placed shown) (filter (is_live list) (range_with_len first count)))

shows_step : (setup : Setup) (rules : Rules) (list : List Move) (placed : List Place) (shown : ℕ → Bool) (first count : ℕ) (mine : Past) → nat_le (live_count setup list) 1 ≡ false → ((seat : ℕ) → 1 ≤ seat → seat ≤ setup.stacks.seats → is_live list seat ≡ true → shown seat ≡ true → HoldsKnown seat placed) → AtShow setup list placed shown first mine → 1 ≤ first → first + suc count ≤ setup.stacks.seats + 1 → (b : Bool) → is_live list first ≡ b → AllShown setup rules list placed shown (first + 1) count → AreShown setup rules list placed shown (first + suc count) mine (map (show_word placed shown) (if b then (first ∷ filter (is_live list) (range_with_len (first + 1) count)) else filter (is_live list) (range_with_len (first + 1) count)))
unfolding AllShown
shows_step setup rules list placed shown first count mine several known at least most true live go =
    let one = one_word setup rules list placed shown first mine several at least (omega (arith, most)) live (shown first) refl (known first least (omega (arith, most)) live) in
    let rest = go one.after one.at (omega arith) (omega (arith, most)) in
    let more : (first + 1) + count ≡ first + suc count = omega arith in
    let P : ℕ → Type 0 = λ n. AtShow setup list placed shown n rest.after in
    let R : Past → Type 0 = λ p. Runs setup rules p (map (show_word placed shown) (filter (is_live list) (range_with_len (first + 1) count))) rest.after in
    record { after = rest.after; run = (one.legal, subst R (sym one.placed_so) rest.run); at = subst P more rest.at }
shows_step setup rules list placed shown first count mine several known at least most false folded go =
    let rest = go mine (passed_by setup list placed shown first mine at folded) (omega arith) (omega (arith, most)) in
    let more : (first + 1) + count ≡ first + suc count = omega arith in
    let P : ℕ → Type 0 = λ n. AtShow setup list placed shown n rest.after in
    record { after = rest.after; run = rest.run; at = subst P more rest.at }

-- the shows and mucks of a range of seats take place one after another
pub shows_run : (setup : Setup) (rules : Rules) (list : List Move) (placed : List Place) (shown : ℕ → Bool) (first count : ℕ) → nat_le (live_count setup list) 1 ≡ false → ((seat : ℕ) → 1 ≤ seat → seat ≤ setup.stacks.seats → is_live list seat ≡ true → shown seat ≡ true → HoldsKnown seat placed) → (mine : Past) → AtShow setup list placed shown first mine → 1 ≤ first → first + count ≤ setup.stacks.seats + 1 → AreShown setup rules list placed shown (first + count) mine (map (show_word placed shown) (filter (is_live list) (range_with_len first count)))
unfolding AllShown
shows_run setup rules list placed shown first zero several known mine at least most =
    let P : ℕ → Type 0 = λ n. AtShow setup list placed shown n mine in
    let same : first ≡ first + 0 = omega arith in
    record { after = mine; run = refl; at = subst P same at }
shows_run setup rules list placed shown first (suc count) several known mine at least most =
    shows_step setup rules list placed shown first count mine several known at least most (is_live list first) refl (shows_run setup rules list placed shown (first + 1) count several known)
