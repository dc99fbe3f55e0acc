-- The events that a log can say, whatever its bytes: deals of two known or two unknown hole cards,
-- deals of known board cards, and letters, with raises written as the game has them.
use Rattle.std.proofs.Common.{◌≡◌, ℕ, ◌+◌, Bool, true, false, ◌&&◌, not, eqb, nat_lt, nat_le, if◌then◌else◌, codes, List, [], ◌∷◌, ◌++◌, length, map, Option, Some, None, option_and_then, Result, Ok, Err, IfOk, refl, sym, ap, ◌∙◌}
use Rattle.std.specs.List.{AllByRecursion, list_any}
use Rattle.std.proofs.lemmas.Bool.{and_parts, eqb-true, not-true}
use Rattle.card_set.specs.Known.{hides_card}
use Rattle.card_set.specs.Spelling.{slots_spelled}
use Rattle.card_set.specs.declared.card.Slot.{Slot}
use Rattle.card_set.specs.declared.card.Slot.TheVariants as slots
use Rattle.chip_ledger.specs.declared.numbers.TheConstants.{MOST_CHIPS}
use Rattle.play_event.specs.declared.hand_limits.TheConstants.{MOST_MOVES}
use Rattle.first_fault.specs.Digits.{number_of}
use Rattle.first_fault.specs.declared.limits.Quantity.TheVariants as quantities
use Rattle.first_fault.specs.declared.limits.TheConstants.{MOST_FILE_MOVES, MOST_HANDS}
use Rattle.play_event.specs.Said as said
use Rattle.play_event.specs.Said.{Numbered, Said, numbered, said_of}
use Rattle.play_event.specs.declared.event.Event.{Event}
use Rattle.play_event.specs.declared.event.Spelled.{Spelled}
use Rattle.play_event.specs.declared.event.Spelled.TheVariants as spelled
use Rattle.acpc_game.specs.declared.game.Game.{Game}
use Rattle.acpc_game.specs.Faults.{in_line, wrong}
use Rattle.acpc_game.specs.Letters.{Letter, scan}
use Rattle.acpc_game.specs.Parts.{has_front, lines_of, parts_of}
use Rattle.acpc_game.specs.declared.fault.LineFault.{LineFault}
use Rattle.acpc_game.specs.declared.fault.LineFaultKind.TheVariants as whats
use Rattle.acpc_reading.proofs.Checked.{after}
use Rattle.acpc_reading.specs.Betting.{Bets, bare_said, bets_after, betting_said, letter_said, no_bets, raise_said, stroke_said, with_move}
use Rattle.acpc_reading.specs.Cards.{Written, bad_cards, board_said, dealt, hole_after, hole_said, holes_after, known_said, next_round, only_known, script_said, step_after, steps_after, steps_said, without_rest}
use Rattle.acpc_reading.specs.Logs.{FieldsSaid, HandSaid, Hands, behind, hand_of, hands_after, hands_after_line, is_passed_over, line_said, reading, six_fields}
use Rattle.acpc_reading.specs.Names.{hand_said, names_said}
use Rattle.acpc_reading.specs.Values.{values_said}
use Rattle.acpc_reading.specs.declared.step.BettingStep.{BettingStep}
use Rattle.acpc_reading.specs.declared.step.BettingStep.TheVariants as steps
use Rattle.card_set.proofs.Entries.{all_push}
use Rattle.card_set.proofs.Results.{ok_anyway, ok_either, ok_where_found, ok_where_some}

-- two cards, both known or both unknown
pub record AreWhole (cards : List Slot) : Type 0 where
  pub two : length cards ≡ 2
  pub whole : (list_any hides_card cards && list_any (λ slot. not (hides_card slot)) cards) ≡ false

-- how a game writes raises: in no-limit as the seat's chips in the whole hand, in limit by the unit
abbrev pub IsRaiseOf : Bool → Spelled → Type 0
IsRaiseOf no_limit (spelled.HandTotal total) = no_limit ≡ true
IsRaiseOf no_limit spelled.Unit = no_limit ≡ false
IsRaiseOf no_limit (spelled.To target) = ⊥
IsRaiseOf no_limit (spelled.Added chips) = ⊥

-- an event that a log says
abbrev pub IsLogEvent : Bool → Said → Type 0
IsLogEvent no_limit (said.Hole seat cards) = AreWhole cards
IsLogEvent no_limit (said.Board cards) = Unit {0}
IsLogEvent no_limit (said.Fold None) = Unit {0}
IsLogEvent no_limit (said.Call None None) = Unit {0}
IsLogEvent no_limit (said.Raise None amount) = IsRaiseOf no_limit amount
IsLogEvent no_limit _ = ⊥

abbrev pub IsLogNumbered : Bool → Numbered → Type 0
IsLogNumbered no_limit event = IsLogEvent no_limit event.1

-- ---- the betting

-- a step as the game has it
abbrev IsStepOf : Bool → BettingStep → Type 0
IsStepOf no_limit steps.Fold = Unit {0}
IsStepOf no_limit steps.Call = Unit {0}
IsStepOf no_limit steps.Raise = no_limit ≡ false
IsStepOf no_limit (steps.RaiseTo total) = no_limit ≡ true
IsStepOf no_limit steps.NextRound = Unit {0}

abbrev AreSteps : Bool → Bets → Type 0
AreSteps no_limit bets = AllByRecursion (IsStepOf no_limit) bets.steps

one_step : (no_limit : Bool) (bets : Bets) (at : ℕ) (step : BettingStep) → IsStepOf no_limit step → AreSteps no_limit bets → IfOk (with_move bets at step) (AreSteps no_limit)
unfolding with_move
one_step no_limit bets at step is all =
    ok_either (nat_le MOST_MOVES bets.moves) (wrong (whats.TooMany quantities.Moves) at) _ (AreSteps no_limit) (λ _. tt)
    (λ _. ok_either (nat_le MOST_FILE_MOVES bets.file_moves) (wrong (whats.TooMany quantities.FileMoves) at) _ (AreSteps no_limit) (λ _. tt)
    (λ _. all_push (IsStepOf no_limit) bets.steps step all is))

bare : (no_limit : Bool) (bets : Bets) (at : ℕ) (digits : List ℕ) (step : BettingStep) → IsStepOf no_limit step → AreSteps no_limit bets → IfOk (bare_said bets at digits step) (AreSteps no_limit)
unfolding bare_said
bare no_limit bets at digits step is all = ok_either (eqb (length digits) 0) (with_move bets at step) (wrong whats.BadBetting (at + 1)) (AreSteps no_limit) (λ _. one_step no_limit bets at step is all) (λ _. tt)

raise : (no_limit : Bool) (bets : Bets) (at : ℕ) (digits : List ℕ) → no_limit ≡ true → AreSteps no_limit bets → IfOk (raise_said bets at digits) (AreSteps no_limit)
unfolding raise_said
raise no_limit bets at digits is all =
    ok_either (eqb (length digits) 0) (wrong whats.BadBetting (at + 1)) _ (AreSteps no_limit) (λ _. tt)
    (λ _. ok_where_some (number_of MOST_CHIPS digits) (λ total. with_move bets at (steps.RaiseTo total)) (wrong whats.AmountLimit (at + 1)) (AreSteps no_limit)
    (λ total. one_step no_limit bets at (steps.RaiseTo total) is all) tt)

stroke : (no_limit : Bool) (bets : Bets) (at : ℕ) (digits : List ℕ) → AreSteps no_limit bets → IfOk (stroke_said bets at digits) (AreSteps no_limit)
unfolding stroke_said
stroke no_limit bets at digits all =
    ok_either (nat_le 4 bets.round) (wrong whats.BadBetting at) _ (AreSteps no_limit) (λ _. tt)
    (λ _. ok_either (eqb (length digits) 0) _ (wrong whats.BadBetting (at + 1)) (AreSteps no_limit) (λ _. all_push (IsStepOf no_limit) bets.steps steps.NextRound all tt) (λ _. tt))

one_letter : (no_limit : Bool) (bets : Bets) (at : ℕ) (letter : Letter) → AreSteps no_limit bets → IfOk (letter_said no_limit bets at letter) (AreSteps no_limit)
unfolding letter_said
one_letter no_limit bets at (letter, digits) all =
    ok_either (eqb letter 102) (bare_said bets at digits steps.Fold) _ (AreSteps no_limit) (λ _. bare no_limit bets at digits steps.Fold tt all)
    (λ _. ok_either (eqb letter 99) (bare_said bets at digits steps.Call) _ (AreSteps no_limit) (λ _. bare no_limit bets at digits steps.Call tt all)
    (λ _. ok_either (eqb letter 114) _ _ (AreSteps no_limit)
    (λ _. ok_either no_limit (raise_said bets at digits) (bare_said bets at digits steps.Raise) (AreSteps no_limit) (λ is. raise no_limit bets at digits is all) (λ is. bare no_limit bets at digits steps.Raise is all))
    (λ _. ok_either (eqb letter 47) (stroke_said bets at digits) (wrong whats.BadBetting at) (AreSteps no_limit) (λ _. stroke no_limit bets at digits all) (λ _. tt))))

more_letters : (no_limit : Bool) (bets : Bets) (at : ℕ) (letters : List Letter) → AreSteps no_limit bets → IfOk (bets_after no_limit bets at letters) (AreSteps no_limit)
unfolding bets_after
more_letters no_limit bets at [] all = all
more_letters no_limit bets at (letter ∷ letters) all =
    after (letter_said no_limit bets at letter) (λ more. bets_after no_limit more (at + 1 + length letter.1) letters) (AreSteps no_limit) (AreSteps no_limit)
    (one_letter no_limit bets at letter all) (λ more so_far. more_letters no_limit more (at + 1 + length letter.1) letters so_far)

betting_steps : (no_limit : Bool) (earlier at : ℕ) (text : List ℕ) → IfOk (betting_said no_limit earlier at text) (AreSteps no_limit)
unfolding betting_said
betting_steps no_limit earlier at text =
    ok_either (nat_lt 0 (length (scan text).0)) (wrong whats.BadBetting at) _ (AreSteps no_limit) (λ _. tt)
    (λ _. more_letters no_limit (no_bets earlier) at (scan text).1 tt)

-- ---- the script

known_whole : (found : Option (List Slot)) (cards : List Slot) → option_and_then (only_known 2) found ≡ Some cards → AreWhole cards
known_whole None cards is = absurd (cc)
known_whole (Some all) cards is = by_test (eqb (length all) 2 && not (list_any hides_card all)) refl is
  where
    by_test : (b : Bool) → (eqb (length all) 2 && not (list_any hides_card all)) ≡ b → (if b then Some all else None) ≡ Some cards → AreWhole cards
    by_test false other same = absurd (cc)
    by_test true known same =
        let parts = and_parts (eqb (length all) 2) (not (list_any hides_card all)) known in
        let is_all : all ≡ cards = cc in
        record {
          two = sym (ap (λ (l : List Slot). length l) is_all) ∙ eqb-true (length all) 2 parts.0;
          whole = sym (ap (λ (l : List Slot). list_any hides_card l && list_any (λ slot. not (hides_card slot)) l) is_all)
              ∙ ap (λ b. b && list_any (λ slot. not (hides_card slot)) all) (not-true (list_any hides_card all) parts.1);
        }

hole_whole : (text : List ℕ) (cards : List Slot) → hole_said text ≡ Some cards → AreWhole cards
unfolding hole_said known_said
hole_whole text cards is = by_length (eqb (length text) 0) is
  where
    by_length : (b : Bool) → (if b then Some (slots.Unknown ∷ slots.Unknown ∷ []) else option_and_then (only_known 2) (slots_spelled text)) ≡ Some cards → AreWhole cards
    by_length false same = known_whole (slots_spelled text) cards same
    by_length true same =
        let is_all : (slots.Unknown ∷ slots.Unknown ∷ []) ≡ cards = cc in
        record {
          two = sym (ap (λ (l : List Slot). length l) is_all);
          whole = sym (ap (λ (l : List Slot). list_any hides_card l && list_any (λ slot. not (hides_card slot)) l) is_all);
        }

abbrev pub AreLog : Bool → List Numbered → Type 0
AreLog no_limit events = AllByRecursion (IsLogNumbered no_limit) events

abbrev IsLog : Bool → Written → Type 0
IsLog no_limit so_far = AreLog no_limit so_far.events

holes_log : (no_limit : Bool) (at : ℕ) (events : List Numbered) (seat : ℕ) (parts : List (List ℕ)) → AreLog no_limit events → IfOk (holes_after at events seat parts) (AreLog no_limit)
unfolding holes_after hole_after
holes_log no_limit at events seat [] all = all
holes_log no_limit at events seat (part ∷ parts) all =
    after (hole_after at events seat part) (λ more. holes_after at more (seat + 1) parts) (AreLog no_limit) (AreLog no_limit)
    (ok_where_found (hole_said part) (λ cards. Ok (events ++ (0, said.Hole seat cards) ∷ [])) (bad_cards at) (AreLog no_limit)
    (λ cards is. all_push (IsLogNumbered no_limit) events (0, said.Hole seat cards) all (hole_whole part cards is)) tt)
    (λ more so_far. holes_log no_limit at more (seat + 1) parts so_far)

round_log : (no_limit : Bool) (at : ℕ) (so_far : Written) (boards : List (List ℕ)) → IsLog no_limit so_far → IfOk (next_round at so_far boards) (IsLog no_limit)
unfolding next_round
round_log no_limit at so_far [] all = tt
round_log no_limit at so_far (board ∷ boards) all =
    ok_where_some (board_said so_far.size board) (λ cards. Ok (record { events = so_far.events ++ (0, said.Board cards) ∷ []; number = so_far.number; size = 1; boards = boards })) (bad_cards at) (IsLog no_limit)
    (λ cards. all_push (IsLogNumbered no_limit) so_far.events (0, said.Board cards) all tt) tt

step_log : (no_limit : Bool) (at : ℕ) (so_far : Written) (step : BettingStep) → IsStepOf no_limit step → IsLog no_limit so_far → IfOk (step_after at so_far step) (IsLog no_limit)
unfolding step_after
step_log no_limit at so_far steps.Fold is all = all_push (IsLogNumbered no_limit) so_far.events (_, said.Fold None) all tt
step_log no_limit at so_far steps.Call is all = all_push (IsLogNumbered no_limit) so_far.events (_, said.Call None None) all tt
step_log no_limit at so_far steps.Raise is all = all_push (IsLogNumbered no_limit) so_far.events (_, said.Raise None spelled.Unit) all is
step_log no_limit at so_far (steps.RaiseTo total) is all = all_push (IsLogNumbered no_limit) so_far.events (_, said.Raise None (spelled.HandTotal total)) all is
step_log no_limit at so_far steps.NextRound is all = round_log no_limit at so_far so_far.boards all

steps_log : (no_limit : Bool) (at : ℕ) (so_far : Written) (bets : List BettingStep) → AllByRecursion (IsStepOf no_limit) bets → IsLog no_limit so_far → IfOk (steps_after at so_far bets) (IsLog no_limit)
unfolding steps_after
steps_log no_limit at so_far [] each all = all
steps_log no_limit at so_far (step ∷ rest) each all =
    after (step_after at so_far step) (λ more. steps_after at more rest) (IsLog no_limit) (IsLog no_limit) (step_log no_limit at so_far step each.0 all)
    (λ more one. steps_log no_limit at more rest each.1 one)

ending_log : (no_limit : Bool) (at : ℕ) (written : Written) → IsLog no_limit written → IfOk (without_rest at written) (AreLog no_limit)
ending_log no_limit at written all = ok_either (eqb (length written.boards) 0) (Ok written.events) (bad_cards at) (AreLog no_limit) (λ _. all) (λ _. tt)

all_steps_log : (no_limit : Bool) (at : ℕ) (so_far : Written) (bets : List BettingStep) → AllByRecursion (IsStepOf no_limit) bets → IsLog no_limit so_far → IfOk (steps_said at so_far bets) (AreLog no_limit)
unfolding steps_said
all_steps_log no_limit at so_far bets each all =
    after (steps_after at so_far bets) (without_rest at) (IsLog no_limit) (AreLog no_limit) (steps_log no_limit at so_far bets each all) (λ written one. ending_log no_limit at written one)

script_log : (no_limit : Bool) (players : ℕ) (bets : List BettingStep) (at : ℕ) (parts : List (List ℕ)) → AllByRecursion (IsStepOf no_limit) bets → IfOk (script_said players bets at parts) (AreLog no_limit)
unfolding script_said
script_log no_limit players bets at [] each = tt
script_log no_limit players bets at (holes ∷ boards) each =
    ok_either (eqb (length (parts_of 124 holes)) players) _ (wrong whats.SeatCount at) (AreLog no_limit)
    (λ same. after (holes_after at [] 1 (parts_of 124 holes)) (λ events. steps_said at (dealt events boards) bets) (AreLog no_limit) (AreLog no_limit)
    (holes_log no_limit at [] 1 (parts_of 124 holes) tt) (λ events all. all_steps_log no_limit at (dealt events boards) bets each all))
    (λ _. tt)

-- ---- the hands

abbrev pub IsLogHand : Bool → HandSaid → Type 0
IsLogHand no_limit hand = AreLog no_limit hand.events

abbrev IsLogFound : Bool → HandSaid × ℕ → Type 0
IsLogFound no_limit found = IsLogHand no_limit found.0

hand_log : (game : Game) (place file_moves : ℕ) (fields : FieldsSaid) → IfOk (hand_of game place file_moves fields) (IsLogFound game.no_limit)
unfolding hand_of
hand_log game place file_moves fields =
    let hand_at = behind 1 fields.state in
    let betting_at = behind hand_at fields.hand in
    let cards_at = behind betting_at fields.betting in
    let values_at = behind cards_at fields.cards in
    let names_at = behind values_at fields.values in
    after (hand_said place hand_at fields.hand) _ (λ _. Unit {0}) (IsLogFound game.no_limit) (ok_anyway (hand_said place hand_at fields.hand)) (λ note _.
    after (betting_said game.no_limit file_moves betting_at fields.betting) _ (AreSteps game.no_limit) (IsLogFound game.no_limit) (betting_steps game.no_limit file_moves betting_at fields.betting) (λ bets each.
    after (script_said game.stacks.seats bets.steps cards_at (parts_of 47 fields.cards)) _ (AreLog game.no_limit) (IsLogFound game.no_limit) (script_log game.no_limit game.stacks.seats bets.steps cards_at (parts_of 47 fields.cards) each) (λ events all.
    after (values_said game.stacks.seats values_at fields.values) _ (λ _. Unit {0}) (IsLogFound game.no_limit) (ok_anyway (values_said game.stacks.seats values_at fields.values)) (λ nets _.
    after (names_said game.stacks.seats names_at fields.names) _ (λ _. Unit {0}) (IsLogFound game.no_limit) (ok_anyway (names_said game.stacks.seats names_at fields.names)) (λ called _. all)))))

line_log : (game : Game) (place file_moves : ℕ) (line : List ℕ) → IfOk (line_said game place file_moves line) (IsLogFound game.no_limit)
unfolding line_said
line_log game place file_moves line =
    ok_either (has_front (codes "STATE:") line) _ (wrong whats.LineShape 1) (IsLogFound game.no_limit)
    (λ _. after (six_fields (length line) (parts_of 58 line)) (hand_of game place file_moves) (λ _. Unit {0}) (IsLogFound game.no_limit) (ok_anyway (six_fields (length line) (parts_of 58 line))) (λ fields _. hand_log game place file_moves fields))
    (λ _. tt)

abbrev AreLogHands : Bool → Hands → Type 0
AreLogHands no_limit hands = AllByRecursion (IsLogHand no_limit) hands.0

-- a fault of a line
in_line_too : {A : Type 0} (line : ℕ) (result : Result A LineFault) (P : A → Type 0) → IfOk result P → IfOk (in_line line result) P
in_line_too line (Ok x) P is = is
in_line_too line (Err fault) P is = tt

one_line : (game : Game) (hands : Hands) (line : ℕ) (text : List ℕ) → AreLogHands game.no_limit hands → IfOk (hands_after_line game hands line text) (AreLogHands game.no_limit)
unfolding hands_after_line
one_line game hands line text all =
    ok_either (is_passed_over text) (Ok hands) _ (AreLogHands game.no_limit) (λ _. all)
    (λ _. ok_either (nat_le MOST_HANDS (length hands.0)) (in_line line (wrong (whats.TooMany quantities.Hands) 1)) _ (AreLogHands game.no_limit) (λ _. tt)
    (λ _. after (in_line line (line_said game (length hands.0) hands.1 text)) (λ found. Ok (hands.0 ++ found.0 ∷ [], found.1)) (IsLogFound game.no_limit) (AreLogHands game.no_limit)
    (in_line_too line (line_said game (length hands.0) hands.1 text) (IsLogFound game.no_limit) (line_log game (length hands.0) hands.1 text))
    (λ found is. all_push (IsLogHand game.no_limit) hands.0 found.0 all is)))

all_lines : (game : Game) (hands : Hands) (line : ℕ) (texts : List (List ℕ)) → AreLogHands game.no_limit hands → IfOk (hands_after game hands line texts) (AreLogHands game.no_limit)
unfolding hands_after
all_lines game hands line [] all = all
all_lines game hands line (text ∷ texts) all =
    after (hands_after_line game hands line text) (λ more. hands_after game more (line + 1) texts) (AreLogHands game.no_limit) (AreLogHands game.no_limit)
    (one_line game hands line text all) (λ more so_far. all_lines game more (line + 1) texts so_far)

-- the hands of a log
pub log_hands : (game : Game) (bytes : List ℕ) → IfOk (reading game bytes) (AllByRecursion (IsLogHand game.no_limit))
unfolding reading
log_hands game bytes =
    after (hands_after game ([], 0) 1 (lines_of bytes)) (λ hands. Ok hands.0) (AreLogHands game.no_limit) (AllByRecursion (IsLogHand game.no_limit))
    (all_lines game ([], 0) 1 (lines_of bytes) tt) (λ hands all. all)

-- the events of a script
pub script_events : (no_limit : Bool) (script : List Event) → AllByRecursion (IsLogNumbered no_limit) (map numbered script) → AllByRecursion (IsLogEvent no_limit) (map said_of script)
script_events no_limit [] all = tt
script_events no_limit (event ∷ rest) all = (all.0, script_events no_limit rest all.1)
