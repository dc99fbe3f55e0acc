-- The canonical discards of a draw, seat by seat.
use Rattle.std.proofs.Common.{◌≡◌, ℕ, zero, suc, ◌+◌, ◌≤◌, ◌<◌, Bool, true, false, ◌&&◌, ◌||◌, ◌==◌, not, nat_lt, inl, inr, ◌⊎◌, Option, Some, None, is_some, List, [], ◌∷◌, map, filter, length, refl, sym, ◌∙◌, ap, subst, arith, if◌then◌else◌}
use Rattle.std.specs.List.{list_any, range_with_len}
use Rattle.std.specs.Option.{option_map_or}
use Rattle.std.proofs.lemmas.Bool.{or_left, or_right, or_from, and_parts, and_from, and_left, and_right, eqb-true, eq-eqb, ne_eqb, cases_lt, both_ways, false_from_ne_true, not_from_false, not_from_true, lt-ltb, le-ltb}
use Rattle.card_set.specs.declared.card.Slot.{Slot}
use Rattle.play_event.specs.declared.reason.Due.TheVariants as dues
use Rattle.play_event.specs.declared.setup.Setup.{Setup}
use Rattle.play_event.specs.declared.setup.Rules.{Rules}
use Rattle.play_laws.proofs.DrawTables.{IsDrawStreet}
use Rattle.play_event.specs.Streets.{has_draw}
use Rattle.play_event.specs.Said as said
use Rattle.play_event.specs.Past as past
use Rattle.play_event.specs.Past.{Past, moves_of}
use Rattle.play_event.specs.Seats.{is_live, all_seats}
use Rattle.play_event.specs.Dealing.{is_draw_due, next_to_draw, has_drawn, replacements_owed}
use Rattle.play_event.specs.Due.{turn, due_on, is_bring_in_due, is_move_due}
use Rattle.card_set.specs.Known.{known_among}
use Rattle.play_event.specs.Places.{Place, is_held_by, is_same_owner}
use Rattle.play_event.specs.NameMatching.{after_discard, held_count, blanks_in}
use Rattle.play_event.specs.Table.{places_of}
use Rattle.play_event.specs.Taken.{has_misplaced_card}
use Rattle.play_event.specs.CardReasons.{has_no_place}
use Rattle.play_event.specs.Reasons.{why}
use Rattle.play_event.specs.Scripts.{with_event}
use Rattle.play_event.specs.Laws.{IsAmong, NoneClash}
use Rattle.card_set.proofs.Tests.{false_true}
use Rattle.play_event.proofs.SafePlaces.{none_clash}
use Rattle.canon_laws.proofs.Mirrors.{AreMirrored}
use Rattle.canon_laws.proofs.Runs.{Runs}
use Rattle.canon_laws.proofs.CardEvents.{HasCome, due_there, still_there, discard_legal, discard_placed}
use Rattle.canon_laws.proofs.DealsRun.{no_deal}
use Rattle.play_laws.proofs.PlaceLists.{AreNumbered, rising}
use Rattle.play_laws.proofs.InDeck.{legal_cards}
use Rattle.play_laws.proofs.DiscardCounts.{is_out_of}
use Rattle.canon_laws.proofs.DiscardAgain.{taken_by, IsDrawing, discarded_again}
use Rattle.canon_laws.proofs.DiscardsRun.{together, is_out_to, mirrored_as, IsDrawn, out_next, is_below}
use Rattle.canon_laws.proofs.MovesRun.{IsLed, led_on}
use Rattle.card_set.proofs.NumbersOfRange.{find_first}

draw_is_due : (setup : Setup) (before : Past) (street seat : ℕ) → IsDrawStreet setup street → next_to_draw setup before street ≡ Some seat → due_on setup before street ≡ Some (dues.Draw street)
draw_is_due setup before street seat is next =
    ap (λ b. if b then Some (dues.Deal street) else if is_draw_due setup before street then Some (dues.Draw street) else if is_bring_in_due setup (moves_of before) street then Some dues.BringIn else if is_move_due setup (moves_of before) street then Some dues.Move else None) (no_deal setup before street is.no_hole is.no_board)
    ∙ ap (λ b. if b then Some (dues.Draw street) else if is_bring_in_due setup (moves_of before) street then Some dues.BringIn else if is_move_due setup (moves_of before) street then Some dues.Move else None)
    (and_from (has_draw setup.code street) (is_some (next_to_draw setup before street) || list_any (λ seat. nat_lt 0 (replacements_owed before street seat)) (all_seats setup)) is.draws
    (or_left (is_some (next_to_draw setup before street)) (list_any (λ seat. nat_lt 0 (replacements_owed before street seat)) (all_seats setup)) (ap is_some next)))

-- the names of a seat's discard
abbrev pub out_slots : List Place → ℕ → ℕ → List Slot
out_slots finals street seat = map (λ place. place.slot) (filter (is_out_of street seat) finals)

-- a past with discards
abbrev pub with_discards : ℕ → (ℕ → List Slot) → List ℕ → Past → Past
with_discards street names [] before = before
with_discards street names (seat ∷ rest) before = with_discards street names rest (past.Discarded street seat (names seat) ∷ before)

-- one discard
pub record IsOneDiscard (setup : Setup) (rules : Rules) (before : Past) (street seat first : ℕ) (finals : List Place) : Type 0 where
  pub legal : why setup rules before (said.Discard seat (out_slots finals street seat)) ≡ None
  pub placed : with_event setup (said.Discard seat (out_slots finals street seat)) before ≡ past.Discarded street seat (out_slots finals street seat) ∷ before
  pub mirrored : AreMirrored (moves_of before) (is_out_to street (first + 1)) (after_discard street seat (out_slots finals street seat) (places_of setup.code before)) finals

-- one seat's canonical discard is legal, and takes what it took
pub one_discard : (setup : Setup) (rules : Rules) (before : Past) (street first : ℕ) (finals : List Place) → IsLed setup rules before → HasCome setup before street → IsDrawStreet setup street → IsDrawn setup.stacks.seats (moves_of before) street finals → AreMirrored (moves_of before) (is_out_to street first) (places_of setup.code before) finals → 1 ≤ first → first ≤ setup.stacks.seats → is_live (moves_of before) first ≡ true → has_drawn before street first ≡ false → ((seat : ℕ) → 1 ≤ seat → seat < first → is_live (moves_of before) seat ≡ true → has_drawn before street seat ≡ true) → IsOneDiscard setup rules before street first first finals
one_discard setup rules before street first finals led come is drawn mirrored least most live undrawn done =
    let placed : List Place = places_of setup.code before in
    let N : Past → Type 0 = λ p. AreNumbered 0 (places_of setup.code p) in
    let C : Past → Type 0 = λ p. NoneClash (places_of setup.code p) in
    let numbered : AreNumbered 0 placed = subst N led.past (legal_cards setup rules led.events led.legal).list.numbered in
    let clean_places = subst C led.past (none_clash setup rules led.events led.legal) in
    let next : next_to_draw setup before street ≡ Some first =
    find_first (λ seat. is_live (moves_of before) seat && not (has_drawn before street seat)) 1 setup.stacks.seats first least (omega (arith, most))
    (and_from (is_live (moves_of before) first) (not (has_drawn before street first)) live (not_from_false (has_drawn before street first) undrawn))
    (λ other from to. by_live other from to (is_live (moves_of before) other) refl) in
    let turned : turn setup before ≡ (street, dues.Draw street) = due_there setup before street (dues.Draw street) come (draw_is_due setup before street first is next) in
    let drawing : IsDrawing (moves_of before) (is_out_to street first) street first finals = record {
      live = not_from_true (is_live (moves_of before) first) live;
      still = λ final among out. still_in final (and_parts (is_same_owner final.owner (Some first)) (final.discarded == street) out);
      early = drawn.early;
      before = λ final among mine not_out. was_in final mine not_out;
      some = drawn.some;
    } in
    let again = discarded_again setup.code (moves_of before) (is_out_to street first) street first placed finals mirrored numbered drawing drawn.unknowns
    (together first (taken_by finals street first) placed clean_places (rising 0 placed numbered)) in
    let names = again.names in
    let L : List Slot → Type 0 = λ l. nat_lt (held_count placed first) (length l) ≡ false in
    let F : List Slot → Type 0 = λ l. has_misplaced_card setup.code placed (after_discard street first l placed) ≡ false in
    let H : List Slot → Type 0 = λ l. has_no_place (filter (is_held_by first) placed) (known_among l) (blanks_in l) ≡ false in
    record {
      legal = discard_legal setup rules before street first (out_slots finals street first) turned (ap (λ n. option_map_or (λ next. next == first) n false) next ∙ eq-eqb first first refl)
          (subst L names again.clean.count) (subst F names again.clean.free) (subst H names again.clean.held);
      placed = discard_placed setup before street (dues.Draw street) first (out_slots finals street first) turned;
      mirrored = mirrored_as (moves_of before) (λ p. is_out_to street first p || is_out_of street first p) (is_out_to street (first + 1)) (after_discard street first (out_slots finals street first) placed) finals (λ final among. out_next street first final drawn.some) again.mirrored;
    }
  where
    by_live : (other : ℕ) → 1 ≤ other → other < first → (b : Bool) → is_live (moves_of before) other ≡ b → (is_live (moves_of before) other && not (has_drawn before street other)) ≡ false
    by_live other from to true alive = and_right (is_live (moves_of before) other) (not (has_drawn before street other)) (not_from_true (has_drawn before street other) (done other from to alive))
    by_live other from to false folded = and_left (is_live (moves_of before) other) (not (has_drawn before street other)) folded

    owner_is : (a b : Option ℕ) → is_same_owner a b ≡ true → a ≡ b
    owner_is (Some a) (Some b) same = ap Some (eqb-true a b same)
    owner_is None None same = refl
    owner_is (Some a) None same = false_true same
    owner_is None (Some b) same = false_true same

    still_in : (final : Place) → (is_same_owner final.owner (Some first) ≡ true) × ((final.discarded == street) ≡ true) → is_out_to street first final ≡ false
    still_in final parts =
        let mine : final.owner ≡ Some first = owner_is final.owner (Some first) parts.0 in
        let here : final.discarded ≡ street = eqb-true final.discarded street parts.1 in
        and_right (nat_lt 0 final.discarded) (nat_lt final.discarded street || ((final.discarded == street) && is_below first final.owner))
        (or_from (nat_lt final.discarded street) ((final.discarded == street) && is_below first final.owner)
        (le-ltb final.discarded street (omega (arith, here)))
        (and_right (final.discarded == street) (is_below first final.owner) (ap (is_below first) mine ∙ le-ltb first first (omega arith))))

    was_in : (final : Place) → final.owner ≡ Some first → is_out_to street first final ≡ false → (final.discarded ≡ 0) ⊎ (street ≤ final.discarded)
    was_in final mine not_out = elim (cases_lt final.discarded street) [
      | inr late ↦ inr late
      | inl early ↦ elim (cases_lt 0 final.discarded) [
        | inr none ↦ inl (omega (arith, none))
        | inl some ↦ absurd (both_ways (is_out_to street first final) not_out (and_from (nat_lt 0 final.discarded) (nat_lt final.discarded street || ((final.discarded == street) && is_below first final.owner)) (lt-ltb 0 final.discarded some)
            (or_left (nat_lt final.discarded street) ((final.discarded == street) && is_below first final.owner) (lt-ltb final.discarded street early))))
      ]
    ]

-- all discards of a draw
pub record AreDiscarded (setup : Setup) (rules : Rules) (before after : Past) (street first count : ℕ) (seats : List ℕ) (finals : List Place) : Type 0 where
  pub run : Runs setup rules before (map (λ seat. said.Discard seat (out_slots finals street seat)) seats) after
  pub moves : moves_of after ≡ moves_of before
  pub mirrored : AreMirrored (moves_of before) (is_out_to street (first + count)) (places_of setup.code after) finals
  pub come : HasCome setup after street
  pub drawn : (seat : ℕ) → 1 ≤ seat → seat < first + count → is_live (moves_of before) seat ≡ true → has_drawn after street seat ≡ true

-- a seat that does not draw discards nothing
no_out : (seats : ℕ) (before : Past) (street first : ℕ) (finals : List Place) → IsDrawn seats (moves_of before) street finals → is_live (moves_of before) first ≡ false → (final : Place) → IsAmong finals final → is_out_to street first final ≡ is_out_to street (first + 1) final
no_out seats before street first finals drawn folded final among =
    sym (or_none (is_out_to street first final) (is_out_of street first final) (false_from_ne_true (is_out_of street first final) (λ out. both_ways (is_live (moves_of before) first) folded (drawn.by_live final first among out).1.1)))
    ∙ out_next street first final drawn.some
  where
    or_none : (a b : Bool) → b ≡ false → (a || b) ≡ a
    or_none true b none = refl
    or_none false b none = none

discard_first : (setup : Setup) (rules : Rules) (before : Past) (street first count : ℕ) (seats : List ℕ) (finals : List Place) → IsOneDiscard setup rules before street first first finals → AreDiscarded setup rules (past.Discarded street first (out_slots finals street first) ∷ before) (with_discards street (out_slots finals street) seats (past.Discarded street first (out_slots finals street first) ∷ before)) street (first + 1) count seats finals → AreDiscarded setup rules before (with_discards street (out_slots finals street) (first ∷ seats) before) street first (suc count) (first ∷ seats) finals
discard_first setup rules before street first count seats finals one rest =
    let more : (first + 1) + count ≡ first + suc count = omega arith in
    let after : Past = with_discards street (out_slots finals street) seats (past.Discarded street first (out_slots finals street first) ∷ before) in
    let P : Past → Type 0 = λ p. Runs setup rules p (map (λ seat. said.Discard seat (out_slots finals street seat)) seats) after in
    let M : ℕ → Type 0 = λ n. AreMirrored (moves_of before) (is_out_to street n) (places_of setup.code after) finals in
    record {
      run = (one.legal, subst P (sym one.placed) rest.run);
      moves = rest.moves;
      mirrored = subst M more rest.mirrored;
      come = rest.come;
      drawn = λ seat from to alive. rest.drawn seat from (omega (arith, to)) alive;
    }

skip_first : (setup : Setup) (rules : Rules) (before : Past) (street first count : ℕ) (seats : List ℕ) (finals : List Place) → AreDiscarded setup rules before (with_discards street (out_slots finals street) seats before) street (first + 1) count seats finals → AreDiscarded setup rules before (with_discards street (out_slots finals street) seats before) street first (suc count) seats finals
skip_first setup rules before street first count seats finals rest =
    let more : (first + 1) + count ≡ first + suc count = omega arith in
    let M : ℕ → Type 0 = λ n. AreMirrored (moves_of before) (is_out_to street n) (places_of setup.code (with_discards street (out_slots finals street) seats before)) finals in
    record { run = rest.run; moves = rest.moves; mirrored = subst M more rest.mirrored; come = rest.come; drawn = λ seat from to alive. rest.drawn seat from (omega (arith, to)) alive }

-- the state before the discard of a seat
pub record IsAtDraw (setup : Setup) (rules : Rules) (before : Past) (street first : ℕ) (finals : List Place) : Type 0 where
  pub led : IsLed setup rules before
  pub come : HasCome setup before street
  pub drawn : IsDrawn setup.stacks.seats (moves_of before) street finals
  pub mirrored : AreMirrored (moves_of before) (is_out_to street first) (places_of setup.code before) finals
  pub todo : (seat : ℕ) → first ≤ seat → has_drawn before street seat ≡ false
  pub done : (seat : ℕ) → 1 ≤ seat → seat < first → is_live (moves_of before) seat ≡ true → has_drawn before street seat ≡ true

drawn_first : (setup : Setup) (rules : Rules) (before : Past) (street first : ℕ) (finals : List Place) → IsAtDraw setup rules before street first finals → IsOneDiscard setup rules before street first first finals → IsAtDraw setup rules (past.Discarded street first (out_slots finals street first) ∷ before) street (first + 1) finals
drawn_first setup rules before street first finals at one =
    record {
      led = led_on setup rules before (past.Discarded street first (out_slots finals street first) ∷ before) (said.Discard first (out_slots finals street first) ∷ []) at.led (one.legal, one.placed);
      come = still_there setup before street (past.Discarded street first (out_slots finals street first)) at.come refl refl;
      drawn = at.drawn;
      mirrored = one.mirrored;
      todo = λ seat from. or_from ((street == street) && (first == seat)) (has_drawn before street seat) (and_right (street == street) (first == seat) (ne_eqb first seat (λ same. omega (arith, same, from)))) (at.todo seat (omega (arith, from)));
      done = λ seat from to alive. elim (cases_lt seat first) [
        | inl less ↦ or_right ((street == street) && (first == seat)) (has_drawn before street seat) (at.done seat from less alive)
        | inr more ↦ or_left ((street == street) && (first == seat)) (has_drawn before street seat) (and_from (street == street) (first == seat) (eq-eqb street street refl) (eq-eqb first seat (omega (arith, more, to))))
      ];
    }

skipped_first : (setup : Setup) (rules : Rules) (before : Past) (street first : ℕ) (finals : List Place) → IsAtDraw setup rules before street first finals → is_live (moves_of before) first ≡ false → IsAtDraw setup rules before street (first + 1) finals
skipped_first setup rules before street first finals at folded =
    record {
      led = at.led;
      come = at.come;
      drawn = at.drawn;
      mirrored = mirrored_as (moves_of before) (is_out_to street first) (is_out_to street (first + 1)) (places_of setup.code before) finals (no_out setup.stacks.seats before street first finals at.drawn folded) at.mirrored;
      todo = λ seat from. at.todo seat (omega (arith, from));
      done = λ seat from to alive. elim (cases_lt seat first) [
        | inl less ↦ at.done seat from less alive
        | inr more ↦ let same : seat ≡ first = omega (arith, more, to) in absurd (both_ways (is_live (moves_of before) first) folded (ap (is_live (moves_of before)) (sym same) ∙ alive))
      ];
    }

-- the seats that still have to draw hold what the script's discards took
pub AllLater : Setup → Rules → ℕ → List Place → ℕ → ℕ → Type 0
AllLater setup rules street finals first count = (p : Past) → IsAtDraw setup rules p street first finals → 1 ≤ first → first + count ≤ setup.stacks.seats + 1 → AreDiscarded setup rules p (with_discards street (out_slots finals street) (filter (is_live (moves_of p)) (range_with_len first count)) p) street first count (filter (is_live (moves_of p)) (range_with_len first count)) finals

discards_step : (setup : Setup) (rules : Rules) (street : ℕ) (finals : List Place) → IsDrawStreet setup street → (first count : ℕ) (before : Past) → IsAtDraw setup rules before street first finals → 1 ≤ first → first + suc count ≤ setup.stacks.seats + 1 → (b : Bool) → is_live (moves_of before) first ≡ b → AllLater setup rules street finals (first + 1) count → AreDiscarded setup rules before (with_discards street (out_slots finals street) (if b then (first ∷ filter (is_live (moves_of before)) (range_with_len (first + 1) count)) else filter (is_live (moves_of before)) (range_with_len (first + 1) count)) before) street first (suc count) (if b then (first ∷ filter (is_live (moves_of before)) (range_with_len (first + 1) count)) else filter (is_live (moves_of before)) (range_with_len (first + 1) count)) finals
unfolding AllLater
discards_step setup rules street finals is first count before at least most true alive go =
    let one = one_discard setup rules before street first finals at.led at.come is at.drawn at.mirrored least (omega (arith, most)) alive (at.todo first (omega arith)) at.done in
    discard_first setup rules before street first count (filter (is_live (moves_of before)) (range_with_len (first + 1) count)) finals one
    (go (past.Discarded street first (out_slots finals street first) ∷ before) (drawn_first setup rules before street first finals at one) (omega arith) (omega (arith, most)))
discards_step setup rules street finals is first count before at least most false folded go =
    skip_first setup rules before street first count (filter (is_live (moves_of before)) (range_with_len (first + 1) count)) finals
    (go before (skipped_first setup rules before street first finals at folded) (omega arith) (omega (arith, most)))

-- the canonical discards of a range of seats take place one after another
pub discards_run : (setup : Setup) (rules : Rules) (street : ℕ) (finals : List Place) → IsDrawStreet setup street → (first count : ℕ) (before : Past) → IsAtDraw setup rules before street first finals → 1 ≤ first → first + count ≤ setup.stacks.seats + 1 → AreDiscarded setup rules before (with_discards street (out_slots finals street) (filter (is_live (moves_of before)) (range_with_len first count)) before) street first count (filter (is_live (moves_of before)) (range_with_len first count)) finals
unfolding AllLater
discards_run setup rules street finals is first zero before at least most =
    let P : ℕ → Type 0 = λ n. AreMirrored (moves_of before) (is_out_to street n) (places_of setup.code before) finals in
    let same : first ≡ first + 0 = omega arith in
    record { run = refl; moves = refl; mirrored = subst P same at.mirrored; come = at.come; drawn = λ seat from to alive. at.done seat from (omega (arith, to)) alive }
discards_run setup rules street finals is first (suc count) before at least most =
    discards_step setup rules street finals is first count before at least most (is_live (moves_of before) first) refl (discards_run setup rules street finals is (first + 1) count)
