-- The canonical moves of a street are legal one after another.
use Rattle.std.proofs.Common.{◌≡◌, ℕ, ◌≤◌, Bool, true, false, nat_lt, nat_le, List, [], ◌∷◌, ◌++◌, map, filter, reverse, length, refl, sym, ◌∙◌, ap, subst, arith, if◌then◌else◌}
use Rattle.std.proofs.lemmas.Bool.{and_parts}
use Rattle.std.proofs.lemmas.List.{reverse-append, map-append}
use Rattle.play_event.specs.declared.code.Code.{Code}
use Rattle.play_event.specs.declared.setup.Setup.{Setup}
use Rattle.play_event.specs.declared.setup.Rules.{Rules}
use Rattle.play_event.specs.Said.{Said}
use Rattle.play_event.specs.Past.{Past, Move, Moved, moves_of, newest_street, is_folding}
use Rattle.play_event.specs.Seats.{is_live, live_count}
use Rattle.play_event.specs.Chips.{chips_left}
use Rattle.play_event.specs.Dealing.{is_deal_due, is_draw_due}
use Rattle.play_event.specs.Places.{Place, is_held_by, folded_place, after_fold, gone_now}
use Rattle.play_event.specs.Table.{places_of, up_cards}
use Rattle.play_event.specs.Scripts.{past_of}
use Rattle.play_event.specs.Laws.{AreLegal}
use Rattle.play_event.specs.CanonScript.{move_named}
use Rattle.canon_laws.proofs.Runs.{Runs, run_append, run_legal}
use Rattle.canon_laws.proofs.CardEvents.{HasCome}
use Rattle.play_laws.proofs.SettledStreets.{deal_still, draw_still}
use Rattle.play_laws.proofs.LegalPlaces.{legal_past}
use Rattle.play_laws.proofs.MovesLaw.{is_up_by, ups_by, MovesLaw}
use Rattle.play_laws.proofs.FittingMoves.{ups_now}
use Rattle.play_laws.proofs.FittingSteps.{drew}
use Rattle.canon_laws.proofs.CanonicalMove.{IsReady, move_again}

-- a past that legal events lead to
pub record IsLed (setup : Setup) (rules : Rules) (before : Past) : Type 0 where
  pub events : List Said
  pub legal : AreLegal setup rules events
  pub past : past_of setup events ≡ before

-- events that lead to a past, followed by what takes place after it, lead further
pub led_on : (setup : Setup) (rules : Rules) (before after : Past) (script : List Said) → IsLed setup rules before → Runs setup rules before script after → IsLed setup rules after
led_on setup rules before after script led run =
    let P : Past → Type 0 = λ start. Runs setup rules start script after in
    let it = run_legal setup rules led.events script after led.legal (subst P (sym led.past) run) in
    record { events = reverse script ++ led.events; legal = it.legal; past = it.past }

-- up-cards of such a past
pub led_ups : (setup : Setup) (rules : Rules) (before : Past) (street seat : ℕ) → IsLed setup rules before → newest_street before ≤ street → is_live (moves_of before) seat ≡ true → ups_by setup.code (places_of setup.code before) street seat ≡ up_cards setup.code before seat
led_ups setup rules before street seat led on live =
    let P : Past → Type 0 = λ p. newest_street p ≤ street → is_live (moves_of p) seat ≡ true → ups_by setup.code (places_of setup.code p) street seat ≡ up_cards setup.code p seat in
    let it = legal_past setup rules led.events led.legal in
    subst P led.past (λ reach alive. ups_now setup (past_of setup led.events) street seat it.past it.places reach (drew setup rules led.events led.legal) alive) on live

-- a past with moves
abbrev pub with_moves : List Move → Past → Past
with_moves [] before = before
with_moves (move ∷ rest) before = Moved move ∷ with_moves rest before

-- the moves of a past with further moves
pub moves_with : (list : List Move) (before : Past) → moves_of (with_moves list before) ≡ list ++ moves_of before
moves_with [] before = refl
moves_with (move ∷ rest) before = ap (λ l. move ∷ l) (moves_with rest before)

-- all moves are on a street
abbrev pub AreAllOn : ℕ → List Move → Type 0
AreAllOn street [] = Unit {0}
AreAllOn street (move ∷ rest) = (move.street ≡ street) × AreAllOn street rest

-- moves do not change what is not due, and the up-cards dealt by the street
pub still_none : (setup : Setup) (list : List Move) (before : Past) (street : ℕ) → is_deal_due setup before street ≡ false → is_draw_due setup before street ≡ false → (is_deal_due setup (with_moves list before) street ≡ false) × (is_draw_due setup (with_moves list before) street ≡ false)
still_none setup [] before street no_deal no_draw = (no_deal, no_draw)
still_none setup (move ∷ rest) before street no_deal no_draw =
    let it = still_none setup rest before street no_deal no_draw in
    (deal_still setup (with_moves rest before) (Moved move) street it.0, draw_still setup (with_moves rest before) (Moved move) street refl it.1)

fold_ups : (code : Code) (street seat who count : ℕ) (placed : List Place) → ups_by code (map (folded_place who count) placed) street seat ≡ ups_by code placed street seat
fold_ups code street seat who count [] = refl
fold_ups code street seat who count (place ∷ rest) = by_held (is_held_by who place) (is_up_by code street seat place) (fold_ups code street seat who count rest)
  where
    by_held : (h u : Bool) → ups_by code (map (folded_place who count) rest) street seat ≡ ups_by code rest street seat → map (λ (p : Place). p.slot) (if is_up_by code street seat (if h then gone_now count place else place) then ((if h then gone_now count place else place) ∷ filter (is_up_by code street seat) (map (folded_place who count) rest)) else filter (is_up_by code street seat) (map (folded_place who count) rest)) ≡ map (λ (p : Place). p.slot) (if is_up_by code street seat place then (place ∷ filter (is_up_by code street seat) rest) else filter (is_up_by code street seat) rest)
    by_held true u later = both (is_up_by code street seat place) later
      where
        both : (b : Bool) → ups_by code (map (folded_place who count) rest) street seat ≡ ups_by code rest street seat → map (λ (p : Place). p.slot) (if b then (gone_now count place ∷ filter (is_up_by code street seat) (map (folded_place who count) rest)) else filter (is_up_by code street seat) (map (folded_place who count) rest)) ≡ map (λ (p : Place). p.slot) (if b then (place ∷ filter (is_up_by code street seat) rest) else filter (is_up_by code street seat) rest)
        both true it = ap (λ l. place.slot ∷ l) it
        both false it = it
    by_held false u later = both (is_up_by code street seat place) later
      where
        both : (b : Bool) → ups_by code (map (folded_place who count) rest) street seat ≡ ups_by code rest street seat → map (λ (p : Place). p.slot) (if b then (place ∷ filter (is_up_by code street seat) (map (folded_place who count) rest)) else filter (is_up_by code street seat) (map (folded_place who count) rest)) ≡ map (λ (p : Place). p.slot) (if b then (place ∷ filter (is_up_by code street seat) rest) else filter (is_up_by code street seat) rest)
        both true it = ap (λ l. place.slot ∷ l) it
        both false it = it

still_ups : (code : Code) (list : List Move) (before : Past) (street seat : ℕ) → ups_by code (places_of code (with_moves list before)) street seat ≡ ups_by code (places_of code before) street seat
still_ups code [] before street seat = refl
still_ups code (move ∷ rest) before street seat = by_fold (is_folding move.act) ∙ still_ups code rest before street seat
  where
    by_fold : (b : Bool) → ups_by code (if b then after_fold move.seat (places_of code (with_moves rest before)) else places_of code (with_moves rest before)) street seat ≡ ups_by code (places_of code (with_moves rest before)) street seat
    by_fold true = fold_ups code street seat move.seat (length (places_of code (with_moves rest before))) (places_of code (with_moves rest before))
    by_fold false = refl

-- the past is still on the street
come_with : (setup : Setup) (list : List Move) (before : Past) (street : ℕ) → AreAllOn street list → HasCome setup before street → nat_le (live_count setup (list ++ moves_of before)) 1 ≡ false → HasCome setup (with_moves list before) street
come_with setup [] before street on come several = come
come_with setup (move ∷ rest) before street on come several =
    record {
      several = ap (λ l. nat_le (live_count setup (move ∷ l)) 1) (moves_with rest before) ∙ several;
      reached = omega (arith, on.0);
      last = come.last;
      quiet = λ between least most. absurd (omega (arith, on.0, least, most));
    }

-- its newest street
pub newest_with : (list : List Move) (before : Past) (street : ℕ) → AreAllOn street list → newest_street before ≤ street → newest_street (with_moves list before) ≤ street
newest_with [] before street on reach = reach
newest_with (move ∷ rest) before street on reach = omega (arith, on.0)

-- the canonical moves of a street
pub moves_run : (setup : Setup) (rules : Rules) (placed : List Place) (before : Past) (street : ℕ) (list : List Move) → IsLed setup rules before → HasCome setup before street → is_deal_due setup before street ≡ false → is_draw_due setup before street ≡ false → ((seat : ℕ) → 1 ≤ seat → seat ≤ setup.stacks.seats → ups_by setup.code (places_of setup.code before) street seat ≡ ups_by setup.code placed street seat) → AreAllOn street list → MovesLaw setup rules placed (list ++ moves_of before) → Runs setup rules before (map move_named (reverse list)) (with_moves list before)
moves_run setup rules placed before street [] led come no_deal no_draw ups on law = refl
moves_run setup rules placed before street (move ∷ rest) led come no_deal no_draw ups on law =
    let run = moves_run setup rules placed before street rest led come no_deal no_draw ups on.1 law.1 in
    let here : Past = with_moves rest before in
    let led_here = led_on setup rules before here (map move_named (reverse rest)) led run in
    let none = still_none setup rest before street no_deal no_draw in
    let S : ℕ → Type 0 = λ k. IsReady setup placed here (rest ++ moves_of before) k in
    let ready : IsReady setup placed here (rest ++ moves_of before) street = record {
      come = come_with setup rest before street on.1 come law.0.several;
      moves = moves_with rest before;
      no_deal = none.0;
      no_draw = none.1;
      ups = λ seat least most able.
          sym (led_ups setup rules here street seat led_here (newest_with rest before street on.1 come.reached) (ap (λ l. is_live l seat) (moves_with rest before) ∙ (and_parts (is_live (rest ++ moves_of before) seat) (nat_lt 0 (chips_left setup (rest ++ moves_of before) seat)) able).0))
          ∙ (still_ups setup.code rest before street seat ∙ ups seat least most);
    } in
    let again = move_again setup rules placed here (rest ++ moves_of before) move law.0 (subst S (sym on.0) ready) in
    let Q : List Said → Type 0 = λ s. Runs setup rules before s (Moved move ∷ here) in
    subst Q (sym (map-append move_named (reverse rest) (move ∷ [])) ∙ ap (map move_named) (sym (reverse-append (move ∷ []) rest)))
    (run_append setup rules before here (Moved move ∷ here) (map move_named (reverse rest)) (move_named move ∷ []) run (again.legal, again.after))
