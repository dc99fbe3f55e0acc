-- The script of a written line: the deals, and a move for each letter.
use Rattle.std.proofs.Common.{◌≡◌, ℕ, zero, suc, ◌+◌, ◌≤◌, Bool, true, false, ◌==◌, eqb, if◌then◌else◌, cond, List, [], ◌∷◌, ◌++◌, length, map, Some, None, Result, Ok, Err, refl, sym, ap, ap₂, ◌∙◌, arith, append_assoc, true≢false}
use Rattle.std.specs.List.{flat_map, list_any, range_with_len}
use Rattle.std.proofs.lemmas.Bool.{eq-eqb}
use Rattle.std.proofs.lemmas.List.{append-nil, length-map}
use Rattle.std.proofs.lemmas.List.FromFn.{length-range_with_len}
use Rattle.card_set.proofs.Any.{nothing_kept}
use Rattle.card_set.proofs.NumbersOfRange.{flat_none}
use Rattle.card_set.specs.Known.{hides_card, known_among}
use Rattle.card_set.specs.Spelling.{spelling}
use Rattle.card_set.specs.declared.card.Slot.{Slot}
use Rattle.play_event.specs.CanonScript as canon
use Rattle.play_event.specs.CanonScript.{deal_said, deals_said, dealt_slots, is_dealt_to}
use Rattle.play_event.specs.PlayedScript.{is_move_event}
use Rattle.play_event.specs.Past.{Act, BroughtIn, Called, Folded, Move, Raised, moves_on}
use Rattle.play_event.specs.Said as said
use Rattle.play_event.specs.Said.{Numbered, Said}
use Rattle.play_event.specs.Seats.{all_seats}
use Rattle.play_event.specs.Trace.{TracedPlace}
use Rattle.play_event.specs.declared.setup.Setup.{Setup}
use Rattle.first_fault.specs.Reading.{◌>>=◌}
use Rattle.acpc_game.specs.declared.fault.LineFault.{LineFault}
use Rattle.acpc_format.specs.Betting.{hand_total}
use Rattle.acpc_format.specs.Cards.{cards_text, hole_text, holes_text}
use Rattle.acpc_format.specs.Rounds.{further_streets, has_board}
use Rattle.acpc_game.specs.Parts.{parts_of}
use Rattle.acpc_reading.specs.Cards.{Written, dealt, holes_after, next_round, script_said, step_after, steps_after, steps_said, without_rest}
use Rattle.acpc_reading.specs.declared.step.BettingStep.{BettingStep}
use Rattle.acpc_reading.specs.declared.step.BettingStep.TheVariants as steps
use Rattle.acpc_format.specs.Again.{move_again, move_on, moves_again, numbered_from, street_again}
use Rattle.acpc_format.proofs.Readable.{HasBoards, HasHoles, HasLetters}
use Rattle.acpc_format.proofs.CardsAgain.{board_again, boards_of, cut_cards, cut_holes, hole_deals, holes_again}
use Rattle.acpc_format.proofs.Steps.{all_steps, round_steps, step_of, step_on, steps_on}
use Rattle.first_fault.specs.Numbers.{saturated}

-- how many events are moves
abbrev pub letters_in : List Said → ℕ
letters_in [] = 0
letters_in (event ∷ rest) = cond (is_move_event event) 1 0 + letters_in rest

letters_append : (some more : List Said) → letters_in (some ++ more) ≡ letters_in some + letters_in more
letters_append [] more = omega arith
letters_append (event ∷ some) more = omega (arith, letters_append some more)

-- events after others have the numbers that follow
numbered_append : (n : ℕ) (some more : List Said) → numbered_from n (some ++ more) ≡ numbered_from n some ++ numbered_from (n + letters_in some) more
numbered_append n [] more = ap (λ k. numbered_from k more) (omega arith)
numbered_append n (event ∷ some) more = by_move (is_move_event event) (numbered_append (n + 1) some more) (numbered_append n some more)
  where
    by_move : (moves : Bool) → numbered_from (n + 1) (some ++ more) ≡ numbered_from (n + 1) some ++ numbered_from (n + 1 + letters_in some) more → numbered_from n (some ++ more) ≡ numbered_from n some ++ numbered_from (n + letters_in some) more
        → (if moves then (saturated n, event) ∷ numbered_from (n + 1) (some ++ more) else (0, event) ∷ numbered_from n (some ++ more))
        ≡ (if moves then (saturated n, event) ∷ numbered_from (n + 1) some else (0, event) ∷ numbered_from n some) ++ numbered_from (n + (cond moves 1 0 + letters_in some)) more
    by_move true next same =
        ap (λ (l : List Numbered). (saturated n, event) ∷ l) (next
        ∙ ap (λ k. numbered_from (n + 1) some ++ numbered_from k more) (omega arith))
    by_move false next same = ap (λ (l : List Numbered). (0, event) ∷ l) (same ∙ ap (λ k. numbered_from n some ++ numbered_from k more) (omega arith))

-- the script with more events
abbrev with_events : Written → List Said → Written
with_events so_far events = record { events = so_far.events ++ numbered_from so_far.number events; number = so_far.number + letters_in events; size = so_far.size; boards = so_far.boards }

-- the script as it is read
abbrev so_read : List Numbered → ℕ → ℕ → List (List ℕ) → Result Written LineFault
so_read events number size boards = Ok (record { events = events; number = number; size = size; boards = boards })

written_same : (e f : List Numbered) (n m size : ℕ) (boards : List (List ℕ)) → e ≡ f → n ≡ m
    → so_read e n size boards ≡ so_read f m size boards
written_same e f n m size boards one two = rw (one, two) refl

steps_append : (at : ℕ) (so_far : Written) (some more : List BettingStep) → steps_after at so_far (some ++ more) ≡ (steps_after at so_far some >>= λ next. steps_after at next more)
unfolding steps_after
steps_append at so_far [] more = refl
steps_append at so_far (step ∷ some) more = by_step (step_after at so_far step) (λ next. steps_append at next some more)
  where
    by_step : (found : Result Written LineFault) → ((next : Written) → steps_after at next (some ++ more) ≡ (steps_after at next some >>= λ after. steps_after at after more)) → (found >>= λ next. steps_after at next (some ++ more)) ≡ ((found >>= λ next. steps_after at next some) >>= λ next. steps_after at next more)
    by_step (Ok next) later = later next
    by_step (Err fault) later = refl

act_again : (no_limit : Bool) (at total : ℕ) (act : Act) (so_far : Written) → steps_after at so_far (step_of no_limit act total) ≡ Ok (with_events so_far (move_again no_limit act total))
unfolding steps_after step_after
act_again no_limit at total Folded so_far = written_same (so_far.events ++ (saturated so_far.number, said.Fold None) ∷ []) (so_far.events ++ (saturated so_far.number, said.Fold None) ∷ []) (so_far.number + 1) (so_far.number + 1) so_far.size so_far.boards refl refl
act_again no_limit at total Called so_far = written_same (so_far.events ++ (saturated so_far.number, said.Call None None) ∷ []) (so_far.events ++ (saturated so_far.number, said.Call None None) ∷ []) (so_far.number + 1) (so_far.number + 1) so_far.size so_far.boards refl refl
act_again true at total Raised so_far = refl
act_again false at total Raised so_far = refl
act_again no_limit at total BroughtIn so_far = written_same so_far.events (so_far.events ++ []) so_far.number (so_far.number + 0) so_far.size so_far.boards (sym (append-nil so_far.events)) (omega arith)

move_on_again : (no_limit on : Bool) (at total : ℕ) (act : Act) (so_far : Written) → steps_after at so_far (if on then step_of no_limit act total else []) ≡ Ok (with_events so_far (if on then move_again no_limit act total else []))
unfolding steps_after
move_on_again no_limit true at total act so_far = act_again no_limit at total act so_far
move_on_again no_limit false at total act so_far = written_same so_far.events (so_far.events ++ []) so_far.number (so_far.number + 0) so_far.size so_far.boards (sym (append-nil so_far.events)) (omega arith)

abbrev ok_read : Written → Result Written LineFault
ok_read written = Ok written

-- events after events
both_events : (so_far : Written) (some more : List Said) → ok_read (with_events (with_events so_far some) more) ≡ ok_read (with_events so_far (some ++ more))
both_events so_far some more =
    written_same ((so_far.events ++ numbered_from so_far.number some) ++ numbered_from (so_far.number + letters_in some) more) (so_far.events ++ numbered_from so_far.number (some ++ more)) (so_far.number + letters_in some + letters_in more) (so_far.number + letters_in (some ++ more)) so_far.size so_far.boards
    (append_assoc so_far.events (numbered_from so_far.number some) (numbered_from (so_far.number + letters_in some) more) ∙ ap (λ (l : List Numbered). so_far.events ++ l) (sym (numbered_append so_far.number some more)))
    (omega (arith, letters_append some more))

-- the letters of a street
pub street_moves : (no_limit : Bool) (setup : Setup) (street at : ℕ) (moves : List Move) (so_far : Written) → steps_after at so_far (steps_on no_limit setup street moves) ≡ Ok (with_events so_far (moves_again no_limit setup street moves))
unfolding steps_on moves_again steps_after
street_moves no_limit setup street at [] so_far = written_same so_far.events (so_far.events ++ []) so_far.number (so_far.number + 0) so_far.size so_far.boards (sym (append-nil so_far.events)) (omega arith)
street_moves no_limit setup street at (move ∷ before) so_far =
    let total = hand_total setup move before in
    let events = moves_again no_limit setup street before in
    steps_append at so_far (steps_on no_limit setup street before) (step_on no_limit street move total)
    ∙ ap (λ (found : Result Written LineFault). found >>= λ next. steps_after at next (step_on no_limit street move total)) (street_moves no_limit setup street at before so_far)
    ∙ move_on_again no_limit (move.street == street) at total move.act (with_events so_far events)
    ∙ both_events so_far events (move_on no_limit street move total)

-- boards of this size first and then of one card, for the streets that were dealt
abbrev AreBoards : List TracedPlace → ℕ → List ℕ → Type 0
AreBoards placed size [] = Unit {0}
AreBoards placed size (street ∷ streets) =
    (has_board placed street ≡ true → length (dealt_slots placed None street) ≡ size) × AreBoards placed (if has_board placed street then 1 else size) streets

-- no seat is dealt a card on a later street
no_holes : (setup : Setup) (placed : List TracedPlace) (street : ℕ) → ((seat : ℕ) → 1 ≤ seat → seat ≤ setup.stacks.seats → dealt_slots placed (Some seat) street ≡ []) → flat_map (λ seat. deal_said seat (dealt_slots placed (Some seat) street)) (all_seats setup) ≡ []
no_holes setup placed street none = flat_none (λ seat. deal_said seat (dealt_slots placed (Some seat) street)) 1 setup.stacks.seats (λ seat low high. ap (deal_said seat) (none seat low (omega (arith, high))))

-- without a board there are no cards
pub no_slots : (placed : List TracedPlace) (street : ℕ) → has_board placed street ≡ false → dealt_slots placed None street ≡ []
no_slots placed street none = ap (map (λ (place : TracedPlace). place.slot)) (nothing_kept (is_dealt_to None street) placed none)

none_on : (no_limit : Bool) (setup : Setup) (street : ℕ) (moves : List Move) → moves_on street moves ≡ [] → moves_again no_limit setup street moves ≡ []
unfolding moves_again
none_on no_limit setup street [] none = refl
none_on no_limit setup street (move ∷ before) none = by_street (move.street == street) none (none_on no_limit setup street before)
  where
    by_street : (on : Bool) → cond on (move ∷ moves_on street before) (moves_on street before) ≡ [] → (moves_on street before ≡ [] → moves_again no_limit setup street before ≡ []) → moves_again no_limit setup street before ++ (if on then move_again no_limit move.act (hand_total setup move before) else []) ≡ []
    by_street true none later = absurd (cc (none))
    by_street false none later = append-nil (moves_again no_limit setup street before) ∙ later none

board_deal : (cards : List Slot) → 1 ≤ length cards → canon.board_said cards ≡ said.Board (known_among cards) ∷ []
board_deal [] some = absurd (omega (arith, some))
board_deal (slot ∷ rest) some = refl

-- what a street deals if its board was dealt, and if it was not
later_deals : (setup : Setup) (placed : List TracedPlace) (street : ℕ) → ((seat : ℕ) → 1 ≤ seat → seat ≤ setup.stacks.seats → dealt_slots placed (Some seat) street ≡ []) → deals_said setup placed street ≡ canon.board_said (dealt_slots placed None street)
later_deals setup placed street none = ap (λ (l : List Said). l ++ canon.board_said (dealt_slots placed None street)) (no_holes setup placed street none)

-- the script of further rounds
abbrev later_script : Bool → Setup → List TracedPlace → List Move → List ℕ → List Said
later_script no_limit setup placed moves streets = flat_map (street_again no_limit setup placed moves) streets

-- what is required of the further streets
record AreLater (count : ℕ) (placed : List TracedPlace) (moves : List Move) : Type 0 where
  no_holes : (seat street : ℕ) → 1 ≤ seat → seat ≤ count → 2 ≤ street → street ≤ 4 → dealt_slots placed (Some seat) street ≡ []
  known : (street : ℕ) → list_any hides_card (dealt_slots placed None street) ≡ false
  dealt : (street : ℕ) → 2 ≤ street → street ≤ 4 → has_board placed street ≡ false → moves_on street moves ≡ []

abbrev AreFurther : List ℕ → Type 0
AreFurther [] = Unit {0}
AreFurther (street ∷ streets) = ((2 ≤ street) × (street ≤ 4)) × AreFurther streets

stroke_again : (at : ℕ) (so_far : Written) (cards : List Slot) (boards : List (List ℕ)) → so_far.boards ≡ spelling cards ∷ boards → length cards ≡ so_far.size → list_any hides_card cards ≡ false
    → step_after at so_far steps.NextRound ≡ Ok (record { events = so_far.events ++ (0, said.Board (known_among cards)) ∷ []; number = so_far.number; size = 1; boards = boards })
unfolding step_after next_round
stroke_again at so_far cards boards is counted known = rw (is, board_again so_far.size cards counted known) refl

rounds_again : (no_limit : Bool) (setup : Setup) (placed : List TracedPlace) (moves : List Move) (at number size : ℕ) (events : List Numbered) (streets : List ℕ)
    → AreLater setup.stacks.seats placed moves → 1 ≤ size → AreFurther streets → AreBoards placed size streets
    → (steps_after at (record { events = events; number = number; size = size; boards = boards_of placed streets }) (flat_map (round_steps no_limit setup placed moves) streets) >>= without_rest at)
    ≡ Ok (events ++ numbered_from number (later_script no_limit setup placed moves streets))
unfolding steps_after
rounds_again no_limit setup placed moves at number size events [] later some further boards = ap Ok (sym (append-nil events))
rounds_again no_limit setup placed moves at number size events (street ∷ streets) later some further boards =
    by_dealt (has_board placed street) refl boards (λ n k list one behind. rounds_again no_limit setup placed moves at n k list streets later one further.1 behind)
  where
    cards : List Slot
    cards = dealt_slots placed None street

    acts : List Said
    acts = moves_again no_limit setup street moves

    rest : List Said
    rest = later_script no_limit setup placed moves streets

    after : List BettingStep
    after = flat_map (round_steps no_limit setup placed moves) streets

    deals : deals_said setup placed street ≡ canon.board_said cards
    deals = later_deals setup placed street (λ seat low high. later.no_holes seat street low high further.0.0 further.0.1)

    by_dealt : (dealt : Bool) → has_board placed street ≡ dealt → (dealt ≡ true → length cards ≡ size) × AreBoards placed (if dealt then 1 else size) streets
        → ((n k : ℕ) (list : List Numbered) → 1 ≤ k → AreBoards placed k streets → (steps_after at (record { events = list; number = n; size = k; boards = boards_of placed streets }) after >>= without_rest at) ≡ Ok (list ++ numbered_from n rest))
        → (steps_after at (record { events = events; number = number; size = size; boards = (if dealt then spelling cards ∷ [] else []) ++ boards_of placed streets }) ((if dealt then steps.NextRound ∷ steps_on no_limit setup street moves else []) ++ after) >>= without_rest at)
        ≡ Ok (events ++ numbered_from number ((deals_said setup placed street ++ acts) ++ rest))
    by_dealt true is boards again =
        let counted = boards.0 refl in
        let begun : Written = record { events = events; number = number; size = size; boards = spelling cards ∷ boards_of placed streets } in
        let next : Written = record { events = events ++ (0, said.Board (known_among cards)) ∷ []; number = number; size = 1; boards = boards_of placed streets } in
        let one : steps_after at begun (steps.NextRound ∷ (steps_on no_limit setup street moves ++ after)) ≡ steps_after at (with_events next acts) after =
        ap (λ (found : Result Written LineFault). found >>= λ (w : Written). steps_after at w (steps_on no_limit setup street moves ++ after)) (stroke_again at begun cards (boards_of placed streets) refl counted (later.known street))
        ∙ steps_append at next (steps_on no_limit setup street moves) after
        ∙ ap (λ (found : Result Written LineFault). found >>= λ (w : Written). steps_after at w after) (street_moves no_limit setup street at moves next) in
        let said_deals : deals_said setup placed street ≡ said.Board (known_among cards) ∷ [] = deals ∙ board_deal cards (omega (arith, counted, some)) in
        ap (λ (found : Result Written LineFault). found >>= without_rest at) one
        ∙ again (number + letters_in acts) 1 ((events ++ (0, said.Board (known_among cards)) ∷ []) ++ numbered_from number acts) (omega arith) boards.1
        ∙ ap Ok (append_assoc (events ++ (0, said.Board (known_among cards)) ∷ []) (numbered_from number acts) (numbered_from (number + letters_in acts) rest)
        ∙ append_assoc events ((0, said.Board (known_among cards)) ∷ []) (numbered_from number acts ++ numbered_from (number + letters_in acts) rest)
        ∙ ap (λ (l : List Numbered). events ++ (0, said.Board (known_among cards)) ∷ l) (sym (numbered_append number acts rest))
        ∙ ap (λ (l : List Said). events ++ numbered_from number ((l ++ acts) ++ rest)) (sym said_deals))
    by_dealt false is boards again =
        let none : deals_said setup placed street ≡ [] = deals ∙ ap canon.board_said (no_slots placed street is) in
        let no_acts : acts ≡ [] = none_on no_limit setup street moves (later.dealt street further.0.0 further.0.1 is) in
        again number size events some boards.1
        ∙ ap₂ (λ (a b : List Said). Ok (events ++ numbered_from number ((a ++ b) ++ rest))) (sym none) (sym no_acts)

-- the boards of a play are those of the further rounds
boards_fit : (placed : List TracedPlace) → HasBoards placed → AreBoards placed 3 further_streets
boards_fit placed has = (has.flop, (turn (has_board placed 2) refl, (river (has_board placed 2) (has_board placed 3) refl refl, tt)))
  where
    turn : (flop : Bool) → has_board placed 2 ≡ flop → has_board placed 3 ≡ true → length (dealt_slots placed None 3) ≡ (if flop then 1 else 3)
    turn true is dealt = has.turn dealt
    turn false is dealt = absurd (true≢false (sym (has.turn_follows dealt) ∙ is))

    river : (flop turned : Bool) → has_board placed 2 ≡ flop → has_board placed 3 ≡ turned → has_board placed 4 ≡ true → length (dealt_slots placed None 4) ≡ (if turned then 1 else (if flop then 1 else 3))
    river flop true is second dealt = has.river dealt
    river flop false is second dealt = absurd (true≢false (sym (has.river_follows dealt) ∙ second))

-- the deals of the first street
holes_first : (setup : Setup) (placed : List TracedPlace) → HasHoles setup.stacks.seats placed → (first count : ℕ) → 1 ≤ first → first + count ≤ setup.stacks.seats + 1
    → flat_map (λ seat. deal_said seat (dealt_slots placed (Some seat) 1)) (range_with_len first count) ≡ map (λ seat. said.Hole seat (dealt_slots placed (Some seat) 1)) (range_with_len first count)
holes_first setup placed has first zero low high = refl
holes_first setup placed has first (suc count) low high =
    ap₂ (λ (a b : List Said). a ++ b) (deal_is (dealt_slots placed (Some first) 1) (has.two first low (omega (arith, high))))
    (holes_first setup placed has (first + 1) count (omega (arith, low)) (omega (arith, high)))
  where
    deal_is : (cards : List Slot) → length cards ≡ 2 → deal_said first cards ≡ said.Hole first cards ∷ []
    deal_is [] two = absurd (omega (arith, two))
    deal_is (slot ∷ rest) two = refl

holes_numbered : (placed : List TracedPlace) (first count number : ℕ) (rest : List Said)
    → numbered_from number (map (λ seat. said.Hole seat (dealt_slots placed (Some seat) 1)) (range_with_len first count) ++ rest) ≡ hole_deals placed first count ++ numbered_from number rest
holes_numbered placed first zero number rest = refl
holes_numbered placed first (suc count) number rest = ap (λ (l : List Numbered). (0, said.Hole first (dealt_slots placed (Some first) 1)) ∷ l) (holes_numbered placed (first + 1) count number rest)

-- the written script of a play reads back
pub script_read : (no_limit : Bool) (setup : Setup) (placed : List TracedPlace) (moves : List Move) (at : ℕ) → HasHoles setup.stacks.seats placed → HasBoards placed → HasLetters setup placed moves
    → script_said setup.stacks.seats (all_steps no_limit setup placed moves) at (parts_of 47 (cards_text placed setup.stacks.seats))
    ≡ Ok (numbered_from 1 (flat_map (street_again no_limit setup placed moves) (1 ∷ 2 ∷ 3 ∷ 4 ∷ [])))
unfolding script_said steps_said
script_read no_limit setup placed moves at holes boards letters =
    let count = setup.stacks.seats in
    let seats : 1 ≤ count = omega (arith, setup.stacks.least) in
    let texts = cut_holes placed count seats in
    let counted : eqb (length (parts_of 124 (holes_text placed count))) count ≡ true = eq-eqb (length (parts_of 124 (holes_text placed count))) count (ap length texts ∙ range_length) in
    let acts = moves_again no_limit setup 1 moves in
    let deals = hole_deals placed 1 count in
    let begun = dealt deals (boards_of placed further_streets) in
    let later : AreLater count placed moves = record { no_holes = holes.no_more; known = boards.known; dealt = letters.dealt } in
    let rest = later_script no_limit setup placed moves further_streets in
    let all : (steps_after at begun (all_steps no_limit setup placed moves) >>= without_rest at) ≡ Ok (deals ++ numbered_from 1 (acts ++ rest)) =
    ap (λ (found : Result Written LineFault). found >>= without_rest at)
    (steps_append at begun (steps_on no_limit setup 1 moves) (flat_map (round_steps no_limit setup placed moves) further_streets)
    ∙ ap (λ (found : Result Written LineFault). found >>= λ (w : Written). steps_after at w (flat_map (round_steps no_limit setup placed moves) further_streets)) (street_moves no_limit setup 1 at moves begun))
    ∙ rounds_again no_limit setup placed moves at (1 + letters_in acts) 3 (deals ++ numbered_from 1 acts) further_streets later (omega arith) ((omega arith, omega arith), ((omega arith, omega arith), ((omega arith, omega arith), tt))) (boards_fit placed boards)
    ∙ ap Ok (append_assoc deals (numbered_from 1 acts) (numbered_from (1 + letters_in acts) rest) ∙ ap (λ (l : List Numbered). deals ++ l) (sym (numbered_append 1 acts rest))) in
    ap (λ (parts : List (List ℕ)). script_said count (all_steps no_limit setup placed moves) at parts) (cut_cards placed count)
    ∙ rw counted
    (ap (λ (parts : List (List ℕ)). holes_after at [] 1 parts >>= λ events. steps_said at (dealt events (boards_of placed further_streets)) (all_steps no_limit setup placed moves)) texts
    ∙ rw (holes_again placed count at [] 1 count holes (omega arith) (omega arith)) (all ∙ ap Ok (sym (whole acts rest))))
  where
    range_length : length (map (hole_text placed) (range_with_len 1 setup.stacks.seats)) ≡ setup.stacks.seats
    range_length = length-map (range_with_len 1 setup.stacks.seats) (hole_text placed) ∙ length-range_with_len 1 setup.stacks.seats

    whole : (acts rest : List Said) → numbered_from 1 ((deals_said setup placed 1 ++ acts) ++ rest) ≡ hole_deals placed 1 setup.stacks.seats ++ numbered_from 1 (acts ++ rest)
    whole acts rest =
        ap (numbered_from 1) (append_assoc (deals_said setup placed 1) acts rest
        ∙ ap (λ (l : List Said). l ++ (acts ++ rest)) (ap₂ (λ (a b : List Said). a ++ b) (holes_first setup placed holes 1 setup.stacks.seats (omega arith) (omega arith)) (ap canon.board_said boards.none) ∙ append-nil (map (λ seat. said.Hole seat (dealt_slots placed (Some seat) 1)) (range_with_len 1 setup.stacks.seats))))
        ∙ holes_numbered placed 1 setup.stacks.seats 1 (acts ++ rest)
