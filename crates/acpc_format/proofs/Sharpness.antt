-- If a game's logs cannot write a fact of a play, none of their legal hands has it, except odd
-- chips and notes.
use Rattle.std.proofs.Common.{◌≡◌, ℕ, ◌-◌, ◌≤◌, Bool, true, false, ◌&&◌, ◌||◌, ◌==◌, not, nat_le, if◌then◌else◌, List, [], ◌∷◌, ◌++◌, map, filter, reverse, count_by, slice_index, Option, Some, None, is_none, IfSome, Ok, refl, sym, ap, subst, ◌∙◌, arith, true≢false}
use Rattle.std.specs.List.{AllByRecursion, list_any}
use Rattle.std.proofs.lemmas.Bool.{and_from, and_parts, eq-eqb, le-ltb}
use Rattle.std.proofs.lemmas.List.{reverse-append}
use Rattle.std.proofs.lemmas.Result.{IfOk-at_ok}
use Rattle.canon_laws.proofs.TraceOrder.{a_seat}
use Rattle.canon_laws.proofs.StreetDeals.{group_is}
use Rattle.canon_laws.specs.OtherRules as other_rules
use Rattle.canon_laws.specs.OtherRules.{SuitsRules}
use Rattle.canon_laws.proofs.SuitedRules.{suits_own}
use Rattle.play_event.specs.CanonScript.{dealt_slots, plain_moves}
use Rattle.play_event.specs.TraceCore.{TraceCore, core_after}
use Rattle.card_set.specs.Known.{hides_card}
use Rattle.card_set.specs.declared.card.Slot.{Slot}
use Rattle.chip_ledger.proofs.Flags.{flagged-from_flag}
use Rattle.chip_ledger.specs.LiveRow.{flag_of, flagged}
use Rattle.chip_ledger.specs.PotRow.{shares_in}
use Rattle.chip_ledger.specs.Seat.{seats_of}
use Rattle.chip_ledger.specs.declared.live_row.LiveRow.{LiveRow}
use Rattle.card_set.proofs.Any.{list_any-filter, list_any-map}
use Rattle.card_set.proofs.Finding.{list_any-push}
use Rattle.card_set.proofs.NumbersOfRange.{any_none, is_in}
use Rattle.play_event.specs.Amounts.{unit_target}
use Rattle.play_event.specs.Laws.{AreLegal}
use Rattle.play_event.specs.Past.{Move, Past, is_raising, moves_of}
use Rattle.play_event.specs.Places.{Place, is_held_by, is_in_group, is_same_owner}
use Rattle.play_event.specs.Played.{move_said}
use Rattle.play_event.specs.Raising.{raises_on}
use Rattle.play_event.specs.Said.{Said}
use Rattle.play_event.specs.Scripts.{past_of}
use Rattle.play_event.specs.Seats.{all_seats, is_live, live_count}
use Rattle.play_event.specs.Showing.{has_mucked}
use Rattle.play_event.specs.Streets.{limit_of}
use Rattle.play_event.specs.Table.{places_of}
use Rattle.play_event.specs.Trace.{TracedPlace, has_unknown_card, is_mucked, traced_move, traced_moves, traced_places, unit_target_in}
use Rattle.play_event.specs.declared.limit.Limit.TheVariants as limits
use Rattle.play_event.specs.declared.limit.Limit.{Limit}
use Rattle.play_event.specs.declared.played.Move as rows
use Rattle.play_event.specs.declared.setup.Rules.{Rules}
use Rattle.play_event.specs.declared.setup.Setup.{Setup}
use Rattle.hand_canon.specs.LegalPlay.{IsTraceOfLegal}
use Rattle.hand_canon.specs.SoundRecord.{script_said}
use Rattle.hand_canon.specs.TraceRows.{core_said}
use Rattle.hand_canon.specs.declared.notes.Notes.{Notes}
use Rattle.hand_canon.specs.declared.record.Record.{Record}
use Rattle.hand_canon.specs.declared.trace.Play.{Play}
use Rattle.hand_canon.specs.declared.trace.Trace.{Trace}
use Rattle.hand_canon.specs.declared.writing.Keep.{Keep}
use Rattle.hand_canon.specs.declared.writing.Keep.TheVariants as keeps
use Rattle.hand_canon.specs.declared.writing.Unspelled.{Unspelled}
use Rattle.hand_canon.specs.declared.writing.Unspelled.TheVariants as facts
use Rattle.acpc_game.specs.declared.game.Game.{Game}
use Rattle.acpc_format.specs.NoteFacts.{text_conditions, time_conditions}
use Rattle.acpc_format.specs.PlayFacts.{has_unknown_hole_card, is_above_cap, is_above_caps, is_free_fold, is_off_unit, is_open_muck, is_part_known, is_raise_on, is_uneven, play_conditions}
use Rattle.acpc_format.specs.SetupFacts.{is_code_of, setup_conditions}
use Rattle.acpc_format.specs.Spelled.{unspelled, unspelled_note}
use Rattle.acpc_reading.specs.Logs.{reading}
use Rattle.acpc_reading.specs.RecordView.{IsOfGame, record_said, rules_of}
use Rattle.acpc_format.proofs.GameSetups.{code_fits, setup_none}
use Rattle.acpc_format.proofs.HandAgain.{HasNoUpCards, no_up_cards}
use Rattle.acpc_format.proofs.Holdem.{IsHoldem, holdem}
use Rattle.acpc_format.proofs.LogEvents.{IsLogEvent, IsLogHand, log_hands, script_events}
use Rattle.acpc_format.proofs.LogPasts.{AreByUnit, all_whole, any_among, by_unit, is_hidden_of, is_open_of, none_mucked, on_first}
use Rattle.acpc_format.proofs.SuitsGame.{is_off, raises_said}
use Rattle.card_set.proofs.Tests.{not_both_still, not_true}
use Rattle.hand_canon.specs.Sharp.{IsOther, is_sharp}
use Rattle.hand_canon.specs.WriteRefusals.{or_behind}
use Rattle.first_fault.specs.Conditions.{first_where}

-- ---- the play, fact by fact

-- no seat folds when it owes nothing
folds_none : (game : Game) (trace : Trace) → SuitsRules (rules_of game) (core_said trace) → list_any is_free_fold trace.moves ≡ false
folds_none game trace suits = sym (list_any-map other_rules.is_free_fold move_said trace.moves) ∙ suits.no_free_fold refl

-- no raises above the caps
caps_none : (caps : Option (List ℕ)) (moves : List rows.Move) → IfSome caps (λ caps. (street : ℕ) → street ≤ 4 → raises_on (plain_moves (map move_said moves)) street ≤ slice_index caps (street - 1)) → is_above_caps caps moves ≡ false
caps_none None moves within = refl
caps_none (Some caps) moves within = rw (on 1 (omega arith), on 2 (omega arith), on 3 (omega arith), on 4 (omega arith)) refl
  where
    on : (street : ℕ) → street ≤ 4 → is_above_cap caps moves street ≡ false
    on street low = le-ltb (slice_index caps (street - 1)) (count_by (is_raise_on street) moves) (omega (arith, within street low, raises_said street moves))

-- no raise that is not by the unit
units_off : (setup : Setup) (moves : List Move) → limit_of setup.code ≡ limits.Fixed → AreByUnit setup moves → list_any is_off (traced_moves setup moves) ≡ false
units_off setup [] fixed units = refl
units_off setup (move ∷ older) fixed units =
    list_any-push is_off (traced_moves setup older) (traced_move setup move older)
    ∙ ap (λ b. b || is_off (traced_move setup move older)) (units_off setup older fixed units.1)
    ∙ by_raise (is_raising move.act) refl
  where
    by_raise : (b : Bool) → is_raising move.act ≡ b → (b && not (move.to == unit_target_in (limit_of setup.code) setup older move.street move.seat)) ≡ false
    by_raise false is = refl
    by_raise true is =
        ap (λ (l : Limit). not (move.to == unit_target_in l setup older move.street move.seat)) fixed
        ∙ not_true (move.to == unit_target setup older move.street move.seat) (eq-eqb move.to (unit_target setup older move.street move.seat) (units.0 is))

units_none : (no_limit : Bool) (setup : Setup) (events : List Said) (moves : List rows.Move) → (no_limit ≡ false → limit_of setup.code ≡ limits.Fixed) → AllByRecursion (IsLogEvent no_limit) events → map move_said moves ≡ traced_moves setup (moves_of (past_of setup events))
    → (not no_limit && list_any is_off_unit moves) ≡ false
units_none true setup events moves fixed each same = refl
units_none false setup events moves fixed each same =
    sym (list_any-map is_off move_said moves) ∙ ap (list_any is_off) same ∙ units_off setup (moves_of (past_of setup events)) (fixed refl) (by_unit setup events each)

-- the hole cards of a seat by its places
hole_is : (setup : Setup) (events : List Said) (seat : ℕ) (test : Slot → Bool) → IsHoldem setup.code → 1 ≤ seat → seat ≤ setup.stacks.seats
    → list_any test (dealt_slots (traced_places setup (past_of setup events)) (Some seat) 1) ≡ list_any (λ (place : Place). is_in_group (Some seat) 1 place && test place.slot) (places_of setup.code (past_of setup events))
hole_is setup events seat test is low high =
    ap (list_any test) (group_is setup events 0 (Some seat) (omega (arith, is.streets)) (a_seat seat low high))
    ∙ list_any-map test (λ (place : Place). place.slot) (filter (is_in_group (Some seat) 1) (places_of setup.code (past_of setup events)))
    ∙ list_any-filter (λ (place : Place). test place.slot) (is_in_group (Some seat) 1) (places_of setup.code (past_of setup events))

-- a hole card passes a test only if a card of the seat does
hole_own : (seat : ℕ) (test : Slot → Bool) (placed : List Place) → list_any (λ (place : Place). is_in_group (Some seat) 1 place && test place.slot) placed ≡ true → list_any (λ (place : Place). is_same_owner place.owner (Some seat) && test place.slot) placed ≡ true
hole_own seat test placed some =
    any_among (λ (place : Place). is_in_group (Some seat) 1 place && test place.slot) (λ (place : Place). is_same_owner place.owner (Some seat) && test place.slot) placed
    (λ place among is.
    let both = and_parts (is_in_group (Some seat) 1 place) (test place.slot) is in
    and_from (is_same_owner place.owner (Some seat)) (test place.slot) (and_parts (is_same_owner place.owner (Some seat)) (place.street == 1) both.0).0 both.1) some

-- no seat has one hole card known and another not
part_none : (no_limit : Bool) (setup : Setup) (rules : Rules) (events : List Said) (seat : ℕ) → IsHoldem setup.code → AreLegal setup rules events → AllByRecursion (IsLogEvent no_limit) events → 1 ≤ seat → seat ≤ setup.stacks.seats
    → is_part_known (traced_places setup (past_of setup events)) seat ≡ false
part_none no_limit setup rules events seat is legal each low high =
    let placed = places_of setup.code (past_of setup events) in
    let test : Slot → Bool = λ slot. not (hides_card slot) in
    not_both_still (has_unknown_hole_card (traced_places setup (past_of setup events)) seat) (list_any test (dealt_slots (traced_places setup (past_of setup events)) (Some seat) 1)) (list_any (is_hidden_of seat) placed) (list_any (is_open_of seat) placed)
    (λ some. hole_own seat hides_card placed (sym (hole_is setup events seat hides_card is low high) ∙ some))
    (λ some. hole_own seat test placed (sym (hole_is setup events seat test is low high) ∙ some))
    (all_whole no_limit setup rules events seat is legal each)

-- a seat that mucked has an unknown card
muck_unknown : (c l m u : Bool) → m ≡ false → ((c && l) && not (((c && l) && not m) && not u)) ≡ true → u ≡ true
muck_unknown c l true u none is = absurd (true≢false none)
muck_unknown true true false true none is = refl
muck_unknown true true false false none is = absurd (true≢false (sym is))
muck_unknown true false false u none is = absurd (true≢false (sym is))
muck_unknown false l false u none is = absurd (true≢false (sym is))

-- so no seat mucks with known hole cards
muck_none : (no_limit : Bool) (setup : Setup) (rules : Rules) (events : List Said) (row : LiveRow) (seat : ℕ) → IsHoldem setup.code → AreLegal setup rules events → AllByRecursion (IsLogEvent no_limit) events
    → flagged row ≡ filter (is_mucked setup (past_of setup events)) (all_seats setup) → 1 ≤ seat → seat ≤ setup.stacks.seats → is_open_muck (traced_places setup (past_of setup events)) row seat ≡ false
muck_none no_limit setup rules events row seat is legal each same low high = by_flag (flag_of row seat) refl
  where
    past : Past
    past = past_of setup events

    by_flag : (b : Bool) → flag_of row seat ≡ b → (b && not (has_unknown_hole_card (traced_places setup past) seat)) ≡ false
    by_flag false flag = refl
    by_flag true flag =
        let mucked : is_mucked setup past seat ≡ true = sym (is_in (is_mucked setup past) 1 setup.stacks.seats seat low (omega (arith, high))) ∙ sym (ap (list_any (λ other. other == seat)) same) ∙ flagged-from_flag row seat low flag in
        let unknown : has_unknown_card setup past seat ≡ true = muck_unknown (nat_le 2 (live_count setup (moves_of past))) (is_live (moves_of past) seat) (has_mucked past seat) (has_unknown_card setup past seat) (none_mucked no_limit setup events seat each) mucked in
        let hole = any_among (λ (place : Place). is_held_by seat place && hides_card place.slot) (λ (place : Place). is_in_group (Some seat) 1 place && hides_card place.slot) (places_of setup.code past)
        (λ place among it.
        let both = and_parts (is_held_by seat place) (hides_card place.slot) it in
        let own = (and_parts (is_same_owner place.owner (Some seat)) (is_none place.gone_after) both.0).0 in
        and_from (is_in_group (Some seat) 1 place) (hides_card place.slot) (and_from (is_same_owner place.owner (Some seat)) (place.street == 1) own (eq-eqb place.street 1 (on_first setup rules events seat place is legal among own))) both.1) unknown in
        not_true (has_unknown_hole_card (traced_places setup past) seat) (hole_is setup events seat hides_card is low high ∙ hole)

-- ---- the other facts

-- a fact found among facts that are not sharp
abbrev AreBlunt : List (Bool × Unspelled) → Type 0
AreBlunt conditions = AllByRecursion (λ (condition : Bool × Unspelled). is_sharp condition.1 ≡ false) conditions

found_blunt : (conditions : List (Bool × Unspelled)) (fact : Unspelled) → AreBlunt conditions → first_where conditions ≡ Some fact → is_sharp fact ≡ false
found_blunt [] fact blunt found = absurd (cc)
found_blunt ((condition, named) ∷ rest) fact blunt found = by_condition condition found (found_blunt rest fact blunt.1)
  where
    by_condition : (b : Bool) → (if b then Some named else first_where rest) ≡ Some fact → (first_where rest ≡ Some fact → is_sharp fact ≡ false) → is_sharp fact ≡ false
    by_condition true same later = let is : named ≡ fact = cc in sym (ap is_sharp is) ∙ blunt.0
    by_condition false same later = later same

or_blunt : (a b : Option Unspelled) (fact : Unspelled) → (a ≡ Some fact → is_sharp fact ≡ false) → (b ≡ Some fact → is_sharp fact ≡ false) → or_behind a b ≡ Some fact → is_sharp fact ≡ false
or_blunt None b fact one two found = two found
or_blunt (Some named) b fact one two found = one found

note_blunt : (keep : Keep) (notes : Notes) (fact : Unspelled) → unspelled_note keep notes ≡ Some fact → is_sharp fact ≡ false
unfolding unspelled_note
note_blunt keeps.Spelled notes fact found = absurd (cc)
note_blunt keeps.All notes fact found =
    or_blunt (first_where (text_conditions notes)) (first_where (time_conditions notes)) fact
    (found_blunt (text_conditions notes) fact (refl, (refl, (refl, (refl, (refl, (refl, (refl, tt))))))))
    (found_blunt (time_conditions notes) fact (refl, (refl, (refl, (refl, (refl, tt)))))) found

-- what holds of the play of a legal hand of a log
record HasSharpFacts (game : Game) (trace : Trace) : Type 0 where
  folds : list_any is_free_fold trace.moves ≡ false
  caps : is_above_caps game.caps trace.moves ≡ false
  units : (not game.no_limit && list_any is_off_unit trace.moves) ≡ false
  whole : list_any (is_part_known (core_said trace).places) (seats_of trace.setup.stacks.seats) ≡ false
  mucks : list_any (is_open_muck (core_said trace).places trace.mucked) (seats_of trace.setup.stacks.seats) ≡ false

skip : (condition : Bool) (fact : Unspelled) (rest : Option Unspelled) → condition ≡ false → (if condition then Some fact else rest) ≡ rest
skip false fact rest is = refl
skip true fact rest is = absurd (true≢false is)

-- so of its facts only the odd chip may be found
play_blunt : (game : Game) (trace : Trace) (fact : Unspelled) → HasSharpFacts game trace → first_where (play_conditions game trace) ≡ Some fact → is_sharp fact ≡ false
play_blunt game trace fact has found =
    let odd : first_where ((list_any is_uneven (shares_in trace.shares), facts.OddChip) ∷ []) ≡ Some fact =
    sym (skip (list_any is_free_fold trace.moves) facts.FreeFold _ has.folds
    ∙ skip (is_above_caps game.caps trace.moves) facts.TooManyRaises _ has.caps
    ∙ skip (not game.no_limit && list_any is_off_unit trace.moves) facts.RaiseTarget _ has.units
    ∙ skip (list_any (is_part_known (core_said trace).places) (seats_of trace.setup.stacks.seats)) facts.PartCards _ has.whole
    ∙ skip (list_any (is_open_muck (core_said trace).places trace.mucked) (seats_of trace.setup.stacks.seats)) facts.Muck _ has.mucks) ∙ found in
    found_blunt ((list_any is_uneven (shares_in trace.shares), facts.OddChip) ∷ []) fact (refl, tt) odd

none_blunt : (found : Option Unspelled) (fact : Unspelled) → found ≡ None → found ≡ Some fact → is_sharp fact ≡ false
none_blunt None fact none some = absurd (cc)
none_blunt (Some other) fact none some = absurd (cc)

-- ---- the hands of a log

-- the trace of a legal hand of a log
sharp_facts : (game : Game) (hand : Record) (trace : Trace) → IsOfGame game hand → AllByRecursion (IsLogEvent game.no_limit) (reverse (script_said hand)) → IsTraceOfLegal hand trace → HasSharpFacts game trace
sharp_facts game hand trace is each traced =
    let setup = hand.setup in
    let script = script_said hand in
    let events = reverse script in
    let core : core_said trace ≡ core_after setup script = traced.whole.core in
    let one : trace.setup ≡ setup = traced.whole.same_setup in
    let code : is_code_of game.no_limit setup.code ≡ true = ap (is_code_of game.no_limit) is.setup.code ∙ code_fits game.no_limit in
    let holdem_is : IsHoldem setup.code = holdem game.no_limit setup.code code in
    let kind : HasNoUpCards game.no_limit setup.code = subst (HasNoUpCards game.no_limit) (sym is.setup.code) (no_up_cards game.no_limit) in
    let suits : SuitsRules (rules_of game) (core_said trace) = subst (SuitsRules (rules_of game)) (sym core) (subst (λ (r : Rules). SuitsRules r (core_after setup script)) is.rules (suits_own setup hand.rules script traced.legal.played)) in
    let places : (core_said trace).places ≡ traced_places setup (past_of setup events) = ap (λ (c : TraceCore). c.places) core in
    let seats : trace.setup.stacks.seats ≡ setup.stacks.seats = ap (λ (s : Setup). s.stacks.seats) one in
    record {
      folds = folds_none game trace suits;
      caps = caps_none game.caps trace.moves suits.within_caps;
      units = units_none game.no_limit setup events trace.moves kind.fixed each (ap (λ (c : TraceCore). c.moves) core);
      whole = ap (λ (p : List TracedPlace). list_any (is_part_known p) (seats_of trace.setup.stacks.seats)) places
          ∙ ap (λ n. list_any (is_part_known (traced_places setup (past_of setup events))) (seats_of n)) seats
          ∙ any_none (is_part_known (traced_places setup (past_of setup events))) 1 setup.stacks.seats (λ seat low high. part_none game.no_limit setup hand.rules events seat holdem_is traced.legal.played.legal each low (omega (arith, high)));
      mucks = ap (λ (p : List TracedPlace). list_any (is_open_muck p trace.mucked) (seats_of trace.setup.stacks.seats)) places
          ∙ ap (λ n. list_any (is_open_muck (traced_places setup (past_of setup events)) trace.mucked) (seats_of n)) seats
          ∙ any_none (is_open_muck (traced_places setup (past_of setup events)) trace.mucked) 1 setup.stacks.seats
          (λ seat low high. muck_none game.no_limit setup hand.rules events trace.mucked seat holdem_is traced.legal.played.legal each (ap (λ (c : TraceCore). c.mucked) core) low (omega (arith, high)));
    }

-- so it has no sharp fact
hand_blunt : (game : Game) (keep : Keep) (play : Play) (fact : Unspelled) (hand : Record) → IsOfGame game hand → AllByRecursion (IsLogEvent game.no_limit) (reverse (script_said hand)) → IsTraceOfLegal hand play.trace → unspelled game keep play ≡ Some fact → is_sharp fact ≡ false
unfolding unspelled
hand_blunt game keep play fact hand is each traced found =
    let none : first_where (setup_conditions game play.trace.setup) ≡ None = ap (λ (s : Setup). first_where (setup_conditions game s)) traced.whole.same_setup ∙ setup_none game hand.setup is.setup in
    or_blunt (first_where (setup_conditions game play.trace.setup)) (or_behind (first_where (play_conditions game play.trace)) (unspelled_note keep play.hand.notes)) fact
    (none_blunt (first_where (setup_conditions game play.trace.setup)) fact none)
    (or_blunt (first_where (play_conditions game play.trace)) (unspelled_note keep play.hand.notes) fact
    (play_blunt game play.trace fact (sharp_facts game hand play.trace is each traced)) (note_blunt keep play.hand.notes fact)) found

-- events in reverse order
reverse_each : (no_limit : Bool) (script : List Said) → AllByRecursion (IsLogEvent no_limit) script → AllByRecursion (IsLogEvent no_limit) (reverse script)
reverse_each no_limit [] each = tt
reverse_each no_limit (event ∷ rest) each =
    subst (AllByRecursion (IsLogEvent no_limit)) (sym (reverse-append (event ∷ []) rest)) (push (reverse rest) (reverse_each no_limit rest each.1))
  where
    push : (events : List Said) → AllByRecursion (IsLogEvent no_limit) events → AllByRecursion (IsLogEvent no_limit) (events ++ event ∷ [])
    push [] all = (each.0, tt)
    push (first ∷ events) all = (all.0, push events all.1)

hands_blunt : (game : Game) (keep : Keep) (play : Play) (fact : Unspelled) (records : List Record) → unspelled game keep play ≡ Some fact → is_sharp fact ≡ true → AllByRecursion (IsOfGame game) records
    → AllByRecursion (IsLogHand game.no_limit) (map record_said records) → AllByRecursion (IsOther play) records
hands_blunt game keep play fact [] found sharp each log = tt
hands_blunt game keep play fact (hand ∷ records) found sharp each log = (
  λ traced. true≢false (sym sharp ∙ hand_blunt game keep play fact hand each.0 (reverse_each game.no_limit (script_said hand) (script_events game.no_limit hand.script log.0)) traced found),
  hands_blunt game keep play fact records found sharp each.1 log.1,
)

-- no legal hand of a log of the game has the trace of a play with a sharp fact
pub sharpness : (game : Game) (keep : Keep) (play : Play) (fact : Unspelled) → unspelled game keep play ≡ Some fact → is_sharp fact ≡ true → (bytes : List ℕ) (records : List Record) → AllByRecursion (IsOfGame game) records
    → reading game bytes ≡ Ok (map record_said records) → AllByRecursion (IsOther play) records
sharpness game keep play fact found sharp bytes records each read =
    hands_blunt game keep play fact records found sharp each (IfOk-at_ok (AllByRecursion (IsLogHand game.no_limit)) read (log_hands game bytes))
