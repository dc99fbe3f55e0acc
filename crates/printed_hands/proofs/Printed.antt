-- The lines of the events so far, and of one more event.
use Rattle.std.proofs.Common.{◌≡◌, ℕ, ◌+◌, ◌-◌, ◌≤◌, ◌<◌, true, false, List, [], ◌∷◌, ◌++◌, length, map, take, drop, slice_get, Option, Some, refl, sym, subst, ap, ◌∙◌, append_assoc, decimal, arith}
use Rattle.std.specs.Option.{option_map}
use Rattle.std.proofs.lemmas.List.{append-nil, length-map, length-reverse, length-take-le}
use Rattle.std.proofs.lemmas.Option.{slice_get-map}
use Rattle.chip_ledger.specs.declared.seat_row.SeatRow.{SeatRow}
use Rattle.play_event.specs.CanonScript.{move_named, plain_move}
use Rattle.play_event.specs.PlayedScript.{is_move_event}
use Rattle.hand_canon.specs.LegalPlay.{IsTraceOfLegal}
use Rattle.hand_canon.specs.SoundRecord.{script_said}
use Rattle.hand_canon.specs.declared.record.Record.{Record}
use Rattle.hand_canon.specs.declared.trace.Trace.{Trace}
use Rattle.phh_actions.specs.Written.{event_text}
use Rattle.play_event.proofs.ChipLaws.{puts_within}
use Rattle.play_event.specs.Chips.{chips_put}
use Rattle.play_event.specs.Laws.{AreLegal}
use Rattle.play_event.specs.Past as past
use Rattle.play_event.specs.Past.{Move, Past, Resolved, moves_of}
use Rattle.play_event.specs.Played.{move_said}
use Rattle.play_event.specs.Said.{Said, said_of}
use Rattle.play_event.specs.Scripts.{past_after, past_at_end, past_of}
use Rattle.play_event.specs.TraceCore.{TraceCore}
use Rattle.play_event.specs.ValidSetup.{IsValid}
use Rattle.play_event.specs.Trace.{TracedMove, traced_move, traced_moves}
use Rattle.play_event.specs.declared.event.Event.{Event}
use Rattle.play_event.specs.declared.played.Move as rows
use Rattle.play_event.specs.declared.setup.Setup.{Setup}
use Rattle.printed_hands.specs.Steps.{AreMovesBefore, HasPut, MayAdd, chips_text, event_named, step_lines, steps_before}
use Rattle.printed_hands.proofs.Moves.{own_more, traced_here}
use Rattle.printed_hands.proofs.Pasts.{all_are, by_move, later_than, legal_before, longer, on_cards, past_length}
use Rattle.play_event.proofs.SaidSoFar.{all_played, is_next, none_left, so_far}

-- the past after this many events
abbrev pub past_to : Record → ℕ → Past
past_to hand count = past_of hand.setup (so_far hand.script count)

-- This many events are printed: these are left, a row has what each seat has put in, and the text
-- has one line per event.
pub record ArePrinted (hand : Record) (count made : ℕ) (put : SeatRow) (left : List Event) (before text : List ℕ) : Type 0 where
  pub within : count ≤ length hand.script
  pub left_is : left ≡ drop count hand.script
  pub has_put : HasPut hand.setup (moves_of (past_to hand count)) put
  pub made_is : made ≡ length (moves_of (past_to hand count))
  pub lines : text ≡ before ++ step_lines hand.setup (past_to hand count)

-- what is printed of an event
abbrev pub line_of : Setup → ℕ → Said → List Move → List ℕ
line_of setup number event moves = decimal number ++ (32 ∷ event_text event ++ chips_text setup moves)

pub count_is : (hand : Record) (count : ℕ) → count ≤ length hand.script → length (past_to hand count) ≡ count
count_is hand count within =
    past_length hand.setup (so_far hand.script count)
    ∙ length-reverse (take count (map said_of hand.script))
    ∙ length-take-le count (map said_of hand.script) (omega (arith, within, length-map hand.script said_of))

-- the lines of a past with one more event
one_line : (setup : Setup) (newest : Resolved) (base : Past) (count : ℕ) (event : Said) (moves : List Move)
    → length base ≡ count → event_named newest ≡ event → moves_of (newest ∷ base) ≡ moves
    → step_lines setup (newest ∷ base) ≡ step_lines setup base ++ line_of setup (count + 1) event moves
unfolding step_lines
one_line setup newest base count event moves counted named moved = rw (counted, named, moved) refl

-- one more event that leaves these moves
more_lines : (hand : Record) (count : ℕ) (newest : Resolved) (event : Said) (moves : List Move) (before text : List ℕ)
    → count ≤ length hand.script → past_to hand (count + 1) ≡ newest ∷ past_to hand count
    → event_named newest ≡ event → moves_of (newest ∷ past_to hand count) ≡ moves
    → text ≡ before ++ step_lines hand.setup (past_to hand count)
    → text ++ line_of hand.setup (count + 1) event moves ≡ before ++ step_lines hand.setup (past_to hand (count + 1))
more_lines hand count newest event moves before text within is named moved so_far =
    let setup = hand.setup in
    let line = line_of setup (count + 1) event moves in
    ap (λ (t : List ℕ). t ++ line) so_far
    ∙ append_assoc before (step_lines setup (past_to hand count)) line
    ∙ ap (λ (t : List ℕ). before ++ t) (sym (ap (step_lines setup) is ∙ one_line setup newest (past_to hand count) count event moves (count_is hand count within) named moved))

-- one more event of cards
pub cards_printed : (hand : Record) (count made : ℕ) (put : SeatRow) (left more : List Event) (event : Event) (before text : List ℕ)
    → ArePrinted hand count made put left before text → event ∷ more ≡ left → is_move_event (said_of event) ≡ false
    → ArePrinted hand (count + 1) made put more before (text ++ line_of hand.setup (count + 1) (said_of event) (moves_of (past_to hand count)))
cards_printed hand count made put left more event before text printed front is_not =
    let next = is_next hand.script count event more (front ∙ printed.left_is) in
    let on = on_cards hand.setup (past_to hand count) (said_of event) is_not in
    let is : past_to hand (count + 1) ≡ on.newest ∷ past_to hand count = ap (past_of hand.setup) next.longer ∙ on.is in
    let moves : moves_of (past_to hand (count + 1)) ≡ moves_of (past_to hand count) = ap moves_of is ∙ on.moves in
    record {
      within = omega (arith, next.within);
      left_is = next.left;
      has_put = subst (λ (list : List Move). HasPut hand.setup list put) (sym moves) printed.has_put;
      made_is = printed.made_is ∙ ap length (sym moves);
      lines = more_lines hand count on.newest (said_of event) (moves_of (past_to hand count)) before text printed.within is on.named on.moves printed.lines;
    }

-- the next event is a move: the trace has it after those that were made, and its chips can be added
pub record IsNextMove (hand : Record) (moves : List rows.Move) (count made : ℕ) (put : SeatRow) (event : Event) (more : List Event) : Type 0 where
  pub move : Move
  pub is : past_to hand (count + 1) ≡ past.Moved move ∷ past_to hand count
  pub here : slice_get (map move_said moves) made ≡ Some (traced_move hand.setup move (moves_of (past_to hand count)))
  pub may_add : (moved : rows.Move) → slice_get moves made ≡ Some moved → MayAdd moved put
  pub within : count < length hand.script
  pub left : more ≡ drop (count + 1) hand.script

-- the move that a row means
said_move : (setup : Setup) (moved : rows.Move) (move : Move) (base : List Move) → move_said moved ≡ traced_move setup move base → plain_move (move_said moved) ≡ move
said_move setup moved move base same = ap plain_move same

some_said : (moved : rows.Move) (traced : TracedMove) (found : Option rows.Move) → found ≡ Some moved → option_map move_said found ≡ Some traced → move_said moved ≡ traced
some_said moved traced found is said = inside (move_said moved) traced (sym (ap (option_map move_said) is) ∙ said)
  where
    inside : (x y : TracedMove) → Some x ≡ Some y → x ≡ y
    inside x y same = cc

pub next_move : (hand : Record) (moves : List rows.Move) (events count made : ℕ) (put : SeatRow) (left more : List Event) (event : Event) (before text : List ℕ)
    → IsValid hand.setup → AreMovesBefore hand events moves → count < events → ArePrinted hand count made put left before text → event ∷ more ≡ left → is_move_event (said_of event) ≡ true
    → IsNextMove hand moves count made put event more
next_move hand moves events count made put left more event before text valid begun more_to_come printed front is_so =
    let setup = hand.setup in
    let script = hand.script in
    let base = past_to hand count in
    let next = is_next script count event more (front ∙ printed.left_is) in
    let by = by_move setup base (said_of event) is_so in
    let is : past_to hand (count + 1) ≡ past.Moved by.move ∷ base = ap (past_of setup) next.longer ∙ by.is in
    let all = all_are script events (count + 1) (omega (arith, more_to_come)) in
    let more_moves = longer setup (later_than script events (count + 1)) (so_far script (count + 1)) in
    let end_is : moves_of (past_of setup (so_far script events)) ≡ more_moves.front ++ by.move ∷ moves_of base =
    ap (λ (events : List Said). moves_of (past_of setup events)) all ∙ more_moves.is ∙ ap (λ (list : List Move). more_moves.front ++ list) (ap moves_of is) in
    let traced : map move_said moves ≡ traced_moves setup (more_moves.front ++ by.move ∷ moves_of base) =
    begun.are ∙ ap (traced_moves setup) end_is in
    let here : slice_get (map move_said moves) made ≡ Some (traced_move setup by.move (moves_of base)) =
    ap (λ (list : List TracedMove). slice_get list made) traced
    ∙ ap (slice_get (traced_moves setup (more_moves.front ++ by.move ∷ moves_of base))) printed.made_is
    ∙ traced_here setup more_moves.front by.move (moves_of base) in
    let legal : AreLegal setup hand.rules (so_far script (count + 1)) =
    legal_before setup hand.rules (later_than script events (count + 1)) (so_far script (count + 1))
    (subst (λ (events : List Said). AreLegal setup hand.rules events) all begun.legal) in
    record {
      move = by.move;
      is = is;
      here = here;
      may_add = λ moved found inside.
          let same = said_move setup moved by.move (moves_of base) (some_said moved (traced_move setup by.move (moves_of base)) (slice_get moves made) found (sym (slice_get-map move_said moves made) ∙ here)) in
          let seat : by.move.seat ≡ moved.seat.number = sym (ap (λ (m : Move). m.seat) same) in
          let from : by.move.from ≡ moved.from = sym (ap (λ (m : Move). m.from) same) in
          let to : by.move.to ≡ moved.to = sym (ap (λ (m : Move). m.to) same) in
          let put_is = printed.has_put.amounts moved.seat.number moved.seat.first (omega (arith, inside, printed.has_put.seats)) in
          let most = puts_within setup hand.rules (so_far script (count + 1)) valid.antes legal moved.seat.number in
          let own = ap (λ (list : List Move). chips_put setup list moved.seat.number) (ap moves_of is) ∙ own_more setup (moves_of base) by.move moved.seat.number seat in
          let stack = setup.stacks.bounded (moved.seat.number - 1) in
          rw (put_is) (omega (arith, most, own, stack, from, to));
      within = next.within;
      left = next.left;
    }

-- one more move
pub move_printed : (hand : Record) (moves : List rows.Move) (count made : ℕ) (put new : SeatRow) (left more : List Event) (event : Event) (moved : rows.Move) (before text : List ℕ)
    → ArePrinted hand count made put left before text → IsNextMove hand moves count made put event more
    → slice_get moves made ≡ Some moved
    → HasPut hand.setup (plain_move (move_said moved) ∷ moves_of (past_to hand count)) new
    → ArePrinted hand (count + 1) (made + 1) new more before
    (text ++ line_of hand.setup (count + 1) (move_named (plain_move (move_said moved))) (plain_move (move_said moved) ∷ moves_of (past_to hand count)))
move_printed hand moves count made put new left more event moved before text printed next found has =
    let setup = hand.setup in
    let base = past_to hand count in
    let same = said_move setup moved next.move (moves_of base) (some_said moved (traced_move setup next.move (moves_of base)) (slice_get moves made) found (sym (slice_get-map move_said moves made) ∙ next.here)) in
    let is : past_to hand (count + 1) ≡ past.Moved (plain_move (move_said moved)) ∷ base =
    next.is ∙ ap (λ (move : Move). past.Moved move ∷ base) (sym same) in
    let moves : moves_of (past_to hand (count + 1)) ≡ plain_move (move_said moved) ∷ moves_of base = ap moves_of is in
    record {
      within = omega (arith, next.within);
      left_is = next.left;
      has_put = subst (λ (list : List Move). HasPut setup list new) (sym moves) has;
      made_is = rw (moves) (omega (arith, printed.made_is));
      lines = more_lines hand count (past.Moved (plain_move (move_said moved))) (move_named (plain_move (move_said moved))) (plain_move (move_said moved) ∷ moves_of base) before text printed.within is refl refl printed.lines;
    }

-- before the first event
pub none_printed : (hand : Record) (put : SeatRow) (left : List Event) (text : List ℕ)
    → left ≡ hand.script → HasPut hand.setup [] put → ArePrinted hand 0 0 put left text text
unfolding step_lines
none_printed hand put left text is has =
    record { within = omega arith; left_is = is; has_put = has; made_is = refl; lines = sym (append-nil text) }

-- after the last event, or after as many as are asked for
pub steps_printed : (hand : Record) (moves : List rows.Move) (events count made : ℕ) (put : SeatRow) (left : List Event) (before text : List ℕ)
    → AreMovesBefore hand events moves → count ≤ events → ArePrinted hand count made put left before text → [] ≡ left
    → text ≡ before ++ steps_before hand events
steps_printed hand moves events count made put left before text begun within printed none =
    let over = none_left hand.script count (none ∙ printed.left_is) in
    let all : count ≡ events = omega (arith, over, within, begun.there) in
    printed.lines ∙ ap (λ (n : ℕ). before ++ steps_before hand n) all

-- the past after as many events as a script has is that at its end
pub whole_past : (hand : Record) (events : ℕ) → events ≡ length hand.script → past_after hand.setup (script_said hand) events ≡ past_at_end hand.setup (script_said hand)
whole_past hand events all = ap (past_of hand.setup) (all_played hand.script events (omega (arith, all)))

-- a legal hand has begun with all its events
pub whole_begun : (hand : Record) (trace : Trace) (events : ℕ) → events ≡ length hand.script → IsTraceOfLegal hand trace → AreMovesBefore hand events trace.moves
whole_begun hand trace events all traced =
    record {
      there = omega (arith, all);
      legal = subst (AreLegal hand.setup hand.rules) (sym (all_played hand.script events (omega (arith, all)))) traced.legal.played.legal;
      are = ap (λ (core : TraceCore). core.moves) traced.whole.core ∙ ap (λ (before : Past). traced_moves hand.setup (moves_of before)) (sym (whole_past hand events all));
    }
