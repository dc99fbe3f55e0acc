-- A written line is cut into its fields, and reads as the hand of its play.
use Rattle.std.proofs.Common.{◌≡◌, ℕ, ◌+◌, ◌-◌, ◌≤◌, ◌<◌, ◌^◌, Bool, true, false, ◌||◌, ◌==◌, not, eqb, nat_lt, if◌then◌else◌, codes, decimal, List, [], ◌∷◌, ◌++◌, length, map, slice_index_or, Option, Some, None, Ok, refl, sym, ap, subst, ◌∙◌, arith, append_assoc, true≢false}
use Rattle.std.specs.List.{flat_map, range_with_len, AllByRecursion}
use Rattle.std.proofs.lemmas.Bool.{eq-eqb}
use Rattle.std.proofs.lemmas.List.{length-map, length-reverse}
use Rattle.std.proofs.lemmas.List.FromFn.{length-range_with_len}
use Rattle.chip_ledger.specs.SeatRow.{amount_of}
use Rattle.chip_ledger.specs.declared.numbers.TheConstants.{MOST_CHIPS}
use Rattle.card_set.specs.Spelling.{spelling}
use Rattle.play_event.specs.CanonScript.{dealt_slots, plain_move, plain_moves}
use Rattle.hand_canon.specs.Agreement.{value_of}
use Rattle.hand_canon.specs.TraceRows.{core_said}
use Rattle.first_fault.specs.declared.limits.TheConstants.{MOST_FILE_MOVES}
use Rattle.hand_canon.specs.declared.notes.Notes.{Notes}
use Rattle.hand_canon.specs.declared.trace.Play.{Play}
use Rattle.hand_canon.specs.declared.trace.Trace.{Trace}
use Rattle.play_event.specs.Chips.{chips_put}
use Rattle.play_event.specs.Past.{Act, BroughtIn, Called, Folded, Move, Raised}
use Rattle.play_event.specs.Trace.{TracedMove, TracedPlace}
use Rattle.play_event.specs.declared.setup.Setup.{Setup}
use Rattle.acpc_game.specs.Parts.{parts_of}
use Rattle.acpc_game.specs.declared.game.Game.{Game}
use Rattle.acpc_format.specs.Betting.{betting_text, hand_total}
use Rattle.acpc_format.specs.Cards.{board_text, boards_text, cards_text, hole_text, holes_text}
use Rattle.acpc_format.specs.Line.{end_text, head_text, line_text, play_text}
use Rattle.acpc_format.specs.Names.{hand_text, is_spelled_hand, is_spelled_name, may_stand, name_or_default, name_text, names_text}
use Rattle.acpc_format.specs.Rounds.{further_streets, has_board}
use Rattle.acpc_format.specs.Seats.{for_seats}
use Rattle.acpc_format.specs.Values.{value_text, values_text}
use Rattle.acpc_reading.specs.Betting.{betting_said, no_bets}
use Rattle.acpc_reading.specs.Logs.{FieldsSaid, behind, hand_of, line_said, six_fields}
use Rattle.acpc_reading.specs.Names.{names_said}
use Rattle.acpc_reading.specs.Values.{values_said}
use Rattle.acpc_reading.specs.declared.step.BettingStep.{BettingStep}
use Rattle.acpc_reading.specs.declared.step.BettingStep.TheVariants as steps
use Rattle.acpc_format.specs.Again.{hand_again, name_again}
use Rattle.acpc_format.proofs.Readable.{IsReadable}
use Rattle.acpc_format.proofs.BettingAgain.{HasLetter, betting_again, with_steps}
use Rattle.acpc_format.proofs.CardsAgain.{hole_plain}
use Rattle.acpc_format.proofs.EventsAgain.{script_read}
use Rattle.acpc_format.proofs.NamesAgain.{names_again}
use Rattle.acpc_format.proofs.NumbersAgain as numbers
use Rattle.acpc_format.proofs.NumbersAgain.{values_again}
use Rattle.acpc_format.proofs.Signs.{cards_plain, decimal_plain, default_plain, is_clear, is_plain, plain_stands, stands_clear}
use Rattle.acpc_format.proofs.Splits.{Passes, cut, cut_seats, passes_both, passes_more, passes_none, passes_seats, passes_wider, whole}
use Rattle.acpc_format.proofs.Steps.{all_steps, few_steps, moves_in, round_steps, step_of, step_on, step_text, steps_on, steps_text}
use Rattle.chip_ledger.specs.SeatsSaid.{default_name}
use Rattle.hand_canon.specs.Plays.{moves_written}

-- ---- the letters of a play

-- each step has a letter
all_letters : (no_limit : Bool) (some more : List BettingStep) → AllByRecursion (HasLetter no_limit) some → AllByRecursion (HasLetter no_limit) more → AllByRecursion (HasLetter no_limit) (some ++ more)
all_letters no_limit [] more one other = other
all_letters no_limit (step ∷ some) more one other = (one.0, all_letters no_limit some more one.1 other)

act_letter : (no_limit : Bool) (act : Act) (total : ℕ) → total ≤ MOST_CHIPS → AllByRecursion (HasLetter no_limit) (step_of no_limit act total)
act_letter no_limit Folded total few = (tt, tt)
act_letter no_limit Called total few = (tt, tt)
act_letter true Raised total few = ((refl, few), tt)
act_letter false Raised total few = (refl, tt)
act_letter no_limit BroughtIn total few = tt

on_letter : (no_limit on : Bool) (act : Act) (total : ℕ) → total ≤ MOST_CHIPS → AllByRecursion (HasLetter no_limit) (if on then step_of no_limit act total else [])
on_letter no_limit true act total few = act_letter no_limit act total few
on_letter no_limit false act total few = tt

-- earlier moves have put no more
less_put : (setup : Setup) (move : Move) (before : List Move) (seat : ℕ) → chips_put setup before seat ≤ chips_put setup (move ∷ before) seat
less_put setup move before seat = omega arith

street_letters : (no_limit : Bool) (setup : Setup) (street : ℕ) (moves : List Move) → ((seat : ℕ) → chips_put setup moves seat ≤ MOST_CHIPS) → AllByRecursion (HasLetter no_limit) (steps_on no_limit setup street moves)
unfolding steps_on
street_letters no_limit setup street [] few = tt
street_letters no_limit setup street (move ∷ before) few =
    all_letters no_limit (steps_on no_limit setup street before) (step_on no_limit street move (hand_total setup move before))
    (street_letters no_limit setup street before (λ seat. omega (arith, less_put setup move before seat, few seat)))
    (on_letter no_limit (move.street == street) move.act (hand_total setup move before) (few move.seat))

rounds_letters : (no_limit : Bool) (setup : Setup) (placed : List TracedPlace) (moves : List Move) (streets : List ℕ) → ((seat : ℕ) → chips_put setup moves seat ≤ MOST_CHIPS) → AllByRecursion (HasLetter no_limit) (flat_map (round_steps no_limit setup placed moves) streets)
rounds_letters no_limit setup placed moves [] few = tt
rounds_letters no_limit setup placed moves (street ∷ streets) few =
    all_letters no_limit (round_steps no_limit setup placed moves street) (flat_map (round_steps no_limit setup placed moves) streets) (by_dealt (has_board placed street)) (rounds_letters no_limit setup placed moves streets few)
  where
    by_dealt : (dealt : Bool) → AllByRecursion (HasLetter no_limit) (if dealt then steps.NextRound ∷ steps_on no_limit setup street moves else [])
    by_dealt true = (tt, street_letters no_limit setup street moves few)
    by_dealt false = tt

step_clear : (no_limit : Bool) (step : BettingStep) → HasLetter no_limit step → Passes is_clear (step_text step)
step_clear no_limit steps.Fold has = record { all = refl }
step_clear no_limit steps.Call has = record { all = refl }
step_clear no_limit steps.Raise has = record { all = refl }
step_clear no_limit steps.NextRound has = record { all = refl }
step_clear no_limit (steps.RaiseTo total) has =
    passes_more is_clear 114 (decimal total) refl (passes_wider is_plain is_clear (decimal total) (λ sign is. stands_clear sign (plain_stands sign is)) (decimal_plain total (omega (arith, has.1))))

steps_clear : (no_limit : Bool) (list : List BettingStep) → AllByRecursion (HasLetter no_limit) list → Passes is_clear (flat_map step_text list)
steps_clear no_limit [] each = passes_none is_clear
steps_clear no_limit (step ∷ list) each = passes_both is_clear (step_text step) (flat_map step_text list) (step_clear no_limit step each.0) (steps_clear no_limit list each.1)

-- ---- the fields

plain_clear : (text : List ℕ) → Passes is_plain text → Passes is_clear text
plain_clear text passes = passes_wider is_plain is_clear text (λ sign is. stands_clear sign (plain_stands sign is)) passes

stand_clear : (text : List ℕ) → Passes may_stand text → Passes is_clear text
stand_clear text passes = passes_wider may_stand is_clear text stands_clear passes

hand_clear : (place : ℕ) (said : Option (List ℕ)) → place < 2 ^ 32 → Passes is_clear (hand_text place said)
unfolding hand_text is_spelled_hand
hand_clear place None few = plain_clear (decimal place) (decimal_plain place (omega (arith, few)))
hand_clear place (Some text) few = by_spelling (is_spelled_hand text) refl
  where
    by_spelling : (spelled : Bool) → is_spelled_hand text ≡ spelled → Passes is_clear (if spelled then text else decimal place)
    by_spelling true is = plain_clear text (numbers.hand_plain text is)
    by_spelling false is = plain_clear (decimal place) (decimal_plain place (omega (arith, few)))

boards_clear : (placed : List TracedPlace) (streets : List ℕ) → Passes is_clear (flat_map (board_text placed) streets)
unfolding board_text
boards_clear placed [] = passes_none is_clear
boards_clear placed (street ∷ streets) = passes_both is_clear (board_text placed street) (flat_map (board_text placed) streets) (by_dealt (has_board placed street)) (boards_clear placed streets)
  where
    by_dealt : (dealt : Bool) → Passes is_clear (if dealt then 47 ∷ spelling (dealt_slots placed None street) else [])
    by_dealt true = passes_more is_clear 47 (spelling (dealt_slots placed None street)) refl (plain_clear (spelling (dealt_slots placed None street)) (cards_plain (dealt_slots placed None street)))
    by_dealt false = passes_none is_clear

cards_clear : (placed : List TracedPlace) (count : ℕ) → Passes is_clear (cards_text placed count)
unfolding cards_text holes_text boards_text
cards_clear placed count =
    passes_both is_clear (holes_text placed count) (boards_text placed)
    (passes_seats is_clear (hole_text placed) 1 count count refl (omega arith) (omega arith) (λ seat low high. plain_clear (hole_text placed seat) (hole_plain placed seat)))
    (boards_clear placed further_streets)

value_stands : (trace : Trace) (seat : ℕ) → Passes may_stand (value_text trace.setup.stacks trace.finish seat)
value_stands trace seat = by_less (nat_lt (amount_of trace.finish seat) (amount_of trace.setup.stacks seat))
  where
    stands : (n : ℕ) → n < 2 ^ 64 → Passes may_stand (decimal n)
    stands n small = passes_wider is_plain may_stand (decimal n) plain_stands (decimal_plain n small)

    by_less : (less : Bool) → Passes may_stand (if less then 45 ∷ decimal (amount_of trace.setup.stacks seat - amount_of trace.finish seat) else decimal (amount_of trace.finish seat - amount_of trace.setup.stacks seat))
    by_less true = passes_more may_stand 45 (decimal (amount_of trace.setup.stacks seat - amount_of trace.finish seat)) refl (stands (amount_of trace.setup.stacks seat - amount_of trace.finish seat) (omega (arith, trace.setup.stacks.bounded (seat - 1))))
    by_less false = stands (amount_of trace.finish seat - amount_of trace.setup.stacks seat) (omega (arith, trace.finish.bounded (seat - 1)))

name_stands : (notes : Notes) (seat : ℕ) → seat ≤ 10 → Passes may_stand (name_text notes seat)
unfolding is_spelled_name
name_stands notes seat few = by_said (slice_index_or notes.names (seat - 1) None)
  where
    usual : Passes may_stand (default_name seat)
    usual = passes_wider is_plain may_stand (default_name seat) plain_stands (default_plain seat (omega (arith, few)))

    by_said : (said : Option (List ℕ)) → Passes may_stand (name_or_default seat said)
    by_said None = usual
    by_said (Some name) = by_spelling (is_spelled_name name) refl
      where
        by_spelling : (spelled : Bool) → is_spelled_name name ≡ spelled → Passes may_stand (if spelled then name else default_name seat)
        by_spelling true is = record { all = is }
        by_spelling false is = usual

stand_clear_seats : (text : ℕ → List ℕ) (count : ℕ) → ((seat : ℕ) → 1 ≤ seat → seat ≤ count → Passes may_stand (text seat)) → Passes is_clear (for_seats text count)
stand_clear_seats text count each = passes_seats is_clear text 1 count count refl (omega arith) (omega arith) (λ seat low high. stand_clear (text seat) (each seat low high))

-- a move of the trace is a move
plain_length : (moves : List TracedMove) → length (plain_moves moves) ≡ length moves
plain_length moves = length-reverse (map plain_move moves) ∙ length-map moves plain_move

play_letters : (game : Game) (play : Play) → IsReadable game play → AllByRecursion (HasLetter game.no_limit) (all_steps game.no_limit play.trace.setup (core_said play.trace).places (plain_moves (core_said play.trace).moves))
play_letters game play readable =
    let placed = (core_said play.trace).places in
    let moves = plain_moves (core_said play.trace).moves in
    all_letters game.no_limit (steps_on game.no_limit play.trace.setup 1 moves) (flat_map (round_steps game.no_limit play.trace.setup placed moves) further_streets)
    (street_letters game.no_limit play.trace.setup 1 moves readable.letters.put)
    (rounds_letters game.no_limit play.trace.setup placed moves further_streets readable.letters.put)

-- ---- the line

-- the fields of the line of a play
pub record Fields : Type 0 where
  pub hand : List ℕ
  pub betting : List ℕ
  pub cards : List ℕ
  pub values : List ℕ
  pub names : List ℕ

abbrev pub fields_of : Bool → ℕ → Play → Fields
fields_of no_limit place play = record {
  hand = hand_text place play.hand.notes.hand;
  betting = betting_text no_limit play.trace.setup (core_said play.trace).places (plain_moves (core_said play.trace).moves);
  cards = cards_text (core_said play.trace).places play.trace.setup.stacks.seats;
  values = values_text play.trace.setup.stacks play.trace.finish;
  names = names_text play.hand.notes play.trace.setup.stacks.seats;
}

pub record AreClear (fields : Fields) : Type 0 where
  pub hand : Passes is_clear fields.hand
  pub betting : Passes is_clear fields.betting
  pub cards : Passes is_clear fields.cards
  pub values : Passes is_clear fields.values
  pub names : Passes is_clear fields.names

-- the line without its newline
abbrev pub in_fields : Fields → List ℕ
in_fields fields = codes "STATE" ++ 58 ∷ (fields.hand ++ 58 ∷ (fields.betting ++ 58 ∷ (fields.cards ++ 58 ∷ (fields.values ++ 58 ∷ fields.names))))

-- the bytes of a line in its fields
five : (hand betting cards values names ends : List ℕ)
    → hand ++ 58 ∷ ((betting ++ 58 ∷ cards) ++ 58 ∷ ((values ++ 58 ∷ names) ++ ends)) ≡ (hand ++ 58 ∷ (betting ++ 58 ∷ (cards ++ 58 ∷ (values ++ 58 ∷ names)))) ++ ends
five hand betting cards values names ends =
    let last = values ++ 58 ∷ names in
    ap (λ (l : List ℕ). hand ++ 58 ∷ l) (append_assoc betting (58 ∷ cards) (58 ∷ (last ++ ends)))
    ∙ sym (append_assoc hand (58 ∷ (betting ++ 58 ∷ (cards ++ 58 ∷ last))) ends
    ∙ ap (λ (l : List ℕ). hand ++ 58 ∷ l) (append_assoc betting (58 ∷ (cards ++ 58 ∷ last)) ends
    ∙ ap (λ (l : List ℕ). betting ++ 58 ∷ l) (append_assoc cards (58 ∷ last) ends)))

pub line_is : (no_limit : Bool) (place : ℕ) (play : Play) → line_text no_limit place play ≡ in_fields (fields_of no_limit place play) ++ 10 ∷ []
unfolding line_text head_text play_text end_text
line_is no_limit place play =
    let f = fields_of no_limit place play in
    ap (λ (l : List ℕ). codes "STATE" ++ 58 ∷ l) (five f.hand f.betting f.cards f.values f.names (10 ∷ []))

six_parts : (fields : Fields) → AreClear fields → parts_of 58 (in_fields fields) ≡ codes "STATE" ∷ fields.hand ∷ fields.betting ∷ fields.cards ∷ fields.values ∷ fields.names ∷ []
six_parts fields clear =
    cut is_clear 58 (codes "STATE") (fields.hand ++ 58 ∷ (fields.betting ++ 58 ∷ (fields.cards ++ 58 ∷ (fields.values ++ 58 ∷ fields.names)))) refl (record { all = refl })
    ∙ ap (λ (parts : List (List ℕ)). codes "STATE" ∷ parts)
    (cut is_clear 58 fields.hand (fields.betting ++ 58 ∷ (fields.cards ++ 58 ∷ (fields.values ++ 58 ∷ fields.names))) refl clear.hand
    ∙ ap (λ (parts : List (List ℕ)). fields.hand ∷ parts)
    (cut is_clear 58 fields.betting (fields.cards ++ 58 ∷ (fields.values ++ 58 ∷ fields.names)) refl clear.betting
    ∙ ap (λ (parts : List (List ℕ)). fields.betting ∷ parts)
    (cut is_clear 58 fields.cards (fields.values ++ 58 ∷ fields.names) refl clear.cards
    ∙ ap (λ (parts : List (List ℕ)). fields.cards ∷ parts)
    (cut is_clear 58 fields.values fields.names refl clear.values
    ∙ ap (λ (parts : List (List ℕ)). fields.values ∷ parts) (whole is_clear 58 fields.names refl clear.names)))))

-- the fields of a play are clear
pub fields_clear : (game : Game) (place : ℕ) (play : Play) → place < 2 ^ 32 → IsReadable game play → AreClear (fields_of game.no_limit place play)
unfolding values_text names_text
fields_clear game place play few readable =
    let trace = play.trace in
    let count = trace.setup.stacks.seats in
    let placed = (core_said trace).places in
    let moves = plain_moves (core_said trace).moves in
    record {
      hand = hand_clear place play.hand.notes.hand few;
      betting = subst (Passes is_clear) (steps_text game.no_limit trace.setup placed moves)
          (steps_clear game.no_limit (all_steps game.no_limit trace.setup placed moves) (play_letters game play readable));
      cards = cards_clear placed count;
      values = stand_clear_seats (value_text trace.setup.stacks trace.finish) count (λ seat low high. value_stands trace seat);
      names = stand_clear_seats (name_text play.hand.notes) count (λ seat low high. name_stands play.hand.notes seat (omega (arith, high, trace.setup.stacks.greatest)));
    }

-- a sign ends no line
abbrev pub is_inner : ℕ → Bool
is_inner sign = not (sign == 13 || sign == 10)

clear_inner : (sign : ℕ) → is_clear sign ≡ true → is_inner sign ≡ true
clear_inner sign is = second (sign == 58) (sign == 13 || sign == 10) is
  where
    second : (a b : Bool) → not (a || b) ≡ true → not b ≡ true
    second false b is = is
    second true b is = absurd (true≢false (sym is))

pub inner_line : (fields : Fields) → AreClear fields → Passes is_inner (in_fields fields)
inner_line fields clear =
    let inner : (text : List ℕ) → Passes is_clear text → Passes is_inner text = λ text passes. passes_wider is_clear is_inner text clear_inner passes in
    let last = passes_both is_inner fields.values (58 ∷ fields.names) (inner fields.values clear.values) (passes_more is_inner 58 fields.names refl (inner fields.names clear.names)) in
    let cards = passes_both is_inner fields.cards (58 ∷ (fields.values ++ 58 ∷ fields.names)) (inner fields.cards clear.cards) (passes_more is_inner 58 (fields.values ++ 58 ∷ fields.names) refl last) in
    let betting = passes_both is_inner fields.betting (58 ∷ (fields.cards ++ 58 ∷ (fields.values ++ 58 ∷ fields.names))) (inner fields.betting clear.betting) (passes_more is_inner 58 (fields.cards ++ 58 ∷ (fields.values ++ 58 ∷ fields.names)) refl cards) in
    let hand = passes_both is_inner fields.hand (58 ∷ (fields.betting ++ 58 ∷ (fields.cards ++ 58 ∷ (fields.values ++ 58 ∷ fields.names)))) (inner fields.hand clear.hand) (passes_more is_inner 58 (fields.betting ++ 58 ∷ (fields.cards ++ 58 ∷ (fields.values ++ 58 ∷ fields.names))) refl betting) in
    passes_both is_inner (codes "STATE:") (fields.hand ++ 58 ∷ (fields.betting ++ 58 ∷ (fields.cards ++ 58 ∷ (fields.values ++ 58 ∷ fields.names)))) (record { all = refl }) hand

-- ---- the hand

-- the steps of a play
abbrev pub steps_of : Game → Play → List BettingStep
steps_of game play = all_steps game.no_limit play.trace.setup (core_said play.trace).places (plain_moves (core_said play.trace).moves)

pub few_moves : (game : Game) (play : Play) → moves_in (steps_of game play) ≤ moves_written play
few_moves game play = omega (arith, (few_steps game.no_limit play.trace.setup (core_said play.trace).places (plain_moves (core_said play.trace).moves)).0, plain_length (core_said play.trace).moves)

betting_read : (game : Game) (file_moves at : ℕ) (play : Play) → IsReadable game play → file_moves + moves_written play ≤ MOST_FILE_MOVES
    → betting_said game.no_limit file_moves at (betting_text game.no_limit play.trace.setup (core_said play.trace).places (plain_moves (core_said play.trace).moves)) ≡ Ok (with_steps (no_bets file_moves) (steps_of game play))
betting_read game file_moves at play readable few =
    let placed = (core_said play.trace).places in
    let moves = plain_moves (core_said play.trace).moves in
    let counts = few_steps game.no_limit play.trace.setup placed moves in
    ap (betting_said game.no_limit file_moves at) (sym (steps_text game.no_limit play.trace.setup placed moves))
    ∙ betting_again game.no_limit file_moves at (steps_of game play) (play_letters game play readable) counts.1 (omega (arith, counts.0, readable.letters.few)) (omega (arith, few, few_moves game play))

values_read : (trace : Trace) (at : ℕ) → values_said trace.setup.stacks.seats at (values_text trace.setup.stacks trace.finish) ≡ Ok (map (value_of trace) (range_with_len 1 trace.setup.stacks.seats))
unfolding values_said values_text
values_read trace at =
    let count = trace.setup.stacks.seats in
    let text = value_text trace.setup.stacks trace.finish in
    let parts = cut_seats may_stand text count refl (omega (arith, trace.setup.stacks.least)) (λ seat low high. value_stands trace seat) in
    let counted : eqb (length (map text (range_with_len 1 count))) count ≡ true = eq-eqb (length (map text (range_with_len 1 count))) count (length-map (range_with_len 1 count) text ∙ length-range_with_len 1 count) in
    rw (parts, counted) (values_again trace.setup.stacks trace.finish [] 1 count at)

names_read : (game : Game) (play : Play) (at : ℕ) → IsReadable game play → names_said play.trace.setup.stacks.seats at (names_text play.hand.notes play.trace.setup.stacks.seats) ≡ Ok (map (name_again play.hand.notes) (range_with_len 1 play.trace.setup.stacks.seats))
unfolding names_said names_text
names_read game play at readable =
    let count = play.trace.setup.stacks.seats in
    let text = name_text play.hand.notes in
    let few : count ≤ 10 = play.trace.setup.stacks.greatest in
    let parts = cut_seats may_stand text count refl (omega (arith, play.trace.setup.stacks.least)) (λ seat low high. name_stands play.hand.notes seat (omega (arith, high, few))) in
    let counted : eqb (length (map text (range_with_len 1 count))) count ≡ true = eq-eqb (length (map text (range_with_len 1 count))) count (length-map (range_with_len 1 count) text ∙ length-range_with_len 1 count) in
    rw (parts, counted) (names_again play.hand.notes count [] 1 count at few (omega arith) (omega arith) readable.notes readable.texts)

-- the fields as they are read
abbrev read_fields : Fields → FieldsSaid
read_fields fields = record { state = codes "STATE"; hand = fields.hand; betting = fields.betting; cards = fields.cards; values = fields.values; names = fields.names }

hand_read : (game : Game) (place file_moves : ℕ) (play : Play) → place < 2 ^ 32 → IsReadable game play → file_moves + moves_written play ≤ MOST_FILE_MOVES
    → hand_of game place file_moves (read_fields (fields_of game.no_limit place play)) ≡ Ok (hand_again game.no_limit place play, file_moves + moves_in (steps_of game play))
unfolding hand_of
hand_read game place file_moves play low readable few =
    let f = fields_of game.no_limit place play in
    let hand_at = behind 1 (codes "STATE") in
    let betting_at = behind hand_at f.hand in
    let cards_at = behind betting_at f.betting in
    let values_at = behind cards_at f.cards in
    let names_at = behind values_at f.values in
    rw (numbers.hand_again place hand_at play.hand.notes.hand low)
    (rw (betting_read game file_moves betting_at play readable few)
    (rw (sym readable.seats)
    (rw (script_read game.no_limit play.trace.setup (core_said play.trace).places (plain_moves (core_said play.trace).moves) cards_at readable.holes readable.boards readable.letters)
    (rw (values_read play.trace values_at)
    (rw (names_read game play names_at readable) refl)))))

-- the written line of a play reads as its hand
pub line_read : (game : Game) (place file_moves : ℕ) (play : Play) → place < 2 ^ 32 → IsReadable game play → file_moves + moves_written play ≤ MOST_FILE_MOVES
    → line_said game place file_moves (in_fields (fields_of game.no_limit place play)) ≡ Ok (hand_again game.no_limit place play, file_moves + moves_in (steps_of game play))
unfolding line_said six_fields
line_read game place file_moves play low readable few =
    let f = fields_of game.no_limit place play in
    rw (six_parts f (fields_clear game place play low readable)) (hand_read game place file_moves play low readable few)
