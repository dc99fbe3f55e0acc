-- A script has a deal for each seat, an event for each letter, and a deal for each further round.
use Rattle.std.proofs.Common.{◌≡◌, ℕ, ◌+◌, ◌≤◌, Bool, true, false, not, cond, eqb, List, [], ◌∷◌, ◌++◌, length, map, count_by, None, Ok, IfOk, refl, sym, ap, ◌∙◌, arith}
use Rattle.std.proofs.lemmas.Bool.Decides.{nat_tests}
use Rattle.std.proofs.lemmas.Result.{IfOk-at_ok}
use Rattle.card_set.proofs.Counting.{count_by-push, count_by-cons}
use Rattle.card_set.proofs.Options.{along}
use Rattle.play_event.specs.PlayedScript.{is_move_event, IsWithinLimits}
use Rattle.first_fault.specs.declared.limits.TheConstants.{MOST_FILE_MOVES}
use Rattle.play_event.specs.declared.event.Event.{Event}
use Rattle.play_event.specs.declared.event.Spelled.TheVariants as spelled
use Rattle.play_event.specs.Said as said
use Rattle.play_event.specs.Said.{Said, Numbered, numbered, said_of}
use Rattle.acpc_game.specs.declared.fault.LineFaultKind.TheVariants as whats
use Rattle.acpc_game.specs.Faults.{wrong}
use Rattle.acpc_game.specs.Parts.{parts_of}
use Rattle.acpc_reading.specs.declared.step.BettingStep.{BettingStep}
use Rattle.acpc_reading.specs.declared.step.BettingStep.TheVariants as steps
use Rattle.acpc_reading.specs.Betting.{Bets, betting_said}
use Rattle.acpc_reading.specs.Cards.{Written, bad_cards, board_said, dealt, hole_said, hole_after, holes_after, next_round, script_said, step_after, steps_after, steps_said, without_rest}
use Rattle.acpc_reading.proofs.Checked.{after}
use Rattle.acpc_reading.proofs.BettingCounts.{AreCounted, betting_counted, is_letter, is_stroke}
use Rattle.card_set.proofs.Results.{ok_either, ok_where_some}

-- the number of moves among events
abbrev pub moves_in : List Numbered → ℕ
moves_in events = count_by (λ event. is_move_event event.1) events

-- the number of other events
abbrev pub others_in : List Numbered → ℕ
others_in events = count_by (λ event. not (is_move_event event.1)) events

-- this number of moves and other events follow some events
pub record Adds (moves others : ℕ) (before after : List Numbered) : Type 0 where
  pub moves_are : moves_in after ≡ moves_in before + moves
  pub others_are : others_in after ≡ others_in before + others

one_other : (events : List Numbered) (number : ℕ) (event : Said) → is_move_event event ≡ false → Adds 0 1 events (events ++ (number, event) ∷ [])
one_other events number event is =
    let one : ◌≡◌ {A = ℕ} (cond (not (is_move_event event)) 1 0) 1 = rw is refl in
    let none : ◌≡◌ {A = ℕ} (cond (is_move_event event) 1 0) 0 = rw is refl in
    record {
      moves_are = omega (arith, count_by-push (λ event. is_move_event event.1) events (number, event), none);
      others_are = omega (arith, count_by-push (λ event. not (is_move_event event.1)) events (number, event), one);
    }

one_move : (events : List Numbered) (number : ℕ) (event : Said) → is_move_event event ≡ true → Adds 1 0 events (events ++ (number, event) ∷ [])
one_move events number event is =
    let one : ◌≡◌ {A = ℕ} (cond (is_move_event event) 1 0) 1 = rw is refl in
    let none : ◌≡◌ {A = ℕ} (cond (not (is_move_event event)) 1 0) 0 = rw is refl in
    record {
      moves_are = omega (arith, count_by-push (λ event. is_move_event event.1) events (number, event), one);
      others_are = omega (arith, count_by-push (λ event. not (is_move_event event.1)) events (number, event), none);
    }

-- the deals of hole cards
holes_counted : (at : ℕ) (events : List Numbered) (seat : ℕ) (parts : List (List ℕ)) → IfOk (holes_after at events seat parts) (Adds 0 (length parts) events)
unfolding holes_after hole_after
holes_counted at events seat [] = record { moves_are = omega arith; others_are = omega arith }
holes_counted at events seat (part ∷ parts) =
    after (hole_after at events seat part) (λ more. holes_after at more (seat + 1) parts) (Adds 0 1 events) (Adds 0 (length (part ∷ parts)) events)
    (ok_where_some (hole_said part) (λ cards. Ok (events ++ (0, said.Hole seat cards) ∷ [])) (bad_cards at) (Adds 0 1 events) (λ cards. one_other events 0 (said.Hole seat cards) refl) tt)
    (λ more one. along (holes_after at more (seat + 1) parts) (λ all others. record {
      moves_are = omega (arith, one.moves_are, others.moves_are);
      others_are = omega (arith, one.others_are, others.others_are);
    }) (holes_counted at more (seat + 1) parts))

-- what a step adds
abbrev AddsStep : BettingStep → Written → Written → Type 0
AddsStep step before after = Adds (cond (is_letter step) 1 0) (cond (is_stroke step) 1 0) before.events after.events

board_counted : (at : ℕ) (so_far : Written) (boards : List (List ℕ)) → IfOk (next_round at so_far boards) (AddsStep steps.NextRound so_far)
unfolding next_round
board_counted at so_far [] = tt
board_counted at so_far (board ∷ boards) =
    ok_where_some (board_said so_far.size board) (λ cards. Ok (record { events = so_far.events ++ (0, said.Board cards) ∷ []; number = so_far.number; size = 1; boards = boards })) (bad_cards at) (AddsStep steps.NextRound so_far)
    (λ cards. one_other so_far.events 0 (said.Board cards) refl) tt

step_counted : (at : ℕ) (so_far : Written) (step : BettingStep) → IfOk (step_after at so_far step) (AddsStep step so_far)
unfolding step_after
step_counted at so_far steps.Fold = one_move so_far.events _ (said.Fold None) refl
step_counted at so_far steps.Call = one_move so_far.events _ (said.Call None None) refl
step_counted at so_far steps.Raise = one_move so_far.events _ (said.Raise None spelled.Unit) refl
step_counted at so_far (steps.RaiseTo total) = one_move so_far.events _ (said.Raise None (spelled.HandTotal total)) refl
step_counted at so_far steps.NextRound = board_counted at so_far so_far.boards

-- what steps add
abbrev AddsSteps : List BettingStep → Written → Written → Type 0
AddsSteps all before after = Adds (count_by is_letter all) (count_by is_stroke all) before.events after.events

steps_counted : (at : ℕ) (so_far : Written) (all : List BettingStep) → IfOk (steps_after at so_far all) (AddsSteps all so_far)
unfolding steps_after
steps_counted at so_far [] = record { moves_are = omega arith; others_are = omega arith }
steps_counted at so_far (step ∷ rest) =
    after (step_after at so_far step) (λ more. steps_after at more rest) (AddsStep step so_far) (AddsSteps (step ∷ rest) so_far) (step_counted at so_far step)
    (λ more one. along (steps_after at more rest) (λ all others. record {
      moves_are = omega (arith, one.moves_are, others.moves_are, count_by-cons is_letter step rest);
      others_are = omega (arith, one.others_are, others.others_are, count_by-cons is_stroke step rest);
    }) (steps_counted at more rest))

ending : (at : ℕ) (before : List Numbered) (moves others : ℕ) (written : Written) → Adds moves others before written.events → IfOk (without_rest at written) (Adds moves others before)
ending at before moves others written adds = ok_either (eqb (length written.boards) 0) (Ok written.events) (bad_cards at) (Adds moves others before) (λ _. adds) (λ _. tt)

all_steps : (at : ℕ) (so_far : Written) (all : List BettingStep) → IfOk (steps_said at so_far all) (Adds (count_by is_letter all) (count_by is_stroke all) so_far.events)
unfolding steps_said
all_steps at so_far all =
    after (steps_after at so_far all) (without_rest at) (AddsSteps all so_far) _ (steps_counted at so_far all)
    (λ written adds. ending at so_far.events (count_by is_letter all) (count_by is_stroke all) written adds)

-- a script has a move for each letter, and a deal for each of its `players` seats and each further
-- round
script_counted : (players : ℕ) (all : List BettingStep) (at : ℕ) (parts : List (List ℕ)) → IfOk (script_said players all at parts) (Adds (count_by is_letter all) (players + count_by is_stroke all) [])
unfolding script_said
script_counted players all at [] = tt
script_counted players all at (holes ∷ boards) =
    ok_either (eqb (length (parts_of 124 holes)) players) _ (wrong whats.SeatCount at) _
    (λ same. after (holes_after at [] 1 (parts_of 124 holes)) (λ events. steps_said at (dealt events boards) all) (Adds 0 (length (parts_of 124 holes)) []) _
    (holes_counted at [] 1 (parts_of 124 holes))
    (λ events deals. along (steps_said at (dealt events boards) all) (λ script more.
    let as_many : length (parts_of 124 holes) ≡ players = grind (arith, nat_tests, same) in
    record {
      moves_are = omega (arith, deals.moves_are, more.moves_are);
      others_are = omega (arith, deals.others_are, more.others_are, as_many);
    }) (all_steps at (dealt events boards) all)))
    (λ _. tt)

moves_same : (script : List Event) → count_by is_move_event (map said_of script) ≡ moves_in (map numbered script)
moves_same [] = refl
moves_same (event ∷ rest) = count_by-cons is_move_event (said_of event) (map said_of rest) ∙ ap (λ n. cond (is_move_event (said_of event)) 1 0 + n) (moves_same rest) ∙ sym (count_by-cons (λ event. is_move_event event.1) (numbered event) (map numbered rest))

others_same : (script : List Event) → count_by (λ event. not (is_move_event event)) (map said_of script) ≡ others_in (map numbered script)
others_same [] = refl
others_same (event ∷ rest) =
    count_by-cons (λ event. not (is_move_event event)) (said_of event) (map said_of rest)
    ∙ ap (λ n. cond (not (is_move_event (said_of event))) 1 0 + n) (others_same rest)
    ∙ sym (count_by-cons (λ event. not (is_move_event event.1)) (numbered event) (map numbered rest))

module _ (no_limit : Bool) (players earlier betting_at at : ℕ) (text : List ℕ) (bets : Bets) (steps : List BettingStep) (parts : List (List ℕ)) (script : List Event)
    (few : earlier ≤ MOST_FILE_MOVES) (bets_are : betting_said no_limit earlier betting_at text ≡ Ok bets) (same : steps ≡ bets.steps) (script_is : script_said players steps at parts ≡ Ok (map numbered script)) where
  counted : AreCounted earlier bets
  counted = IfOk-at_ok (AreCounted earlier) bets_are (betting_counted no_limit earlier betting_at text few)

  adds : Adds (count_by is_letter steps) (players + count_by is_stroke steps) [] (map numbered script)
  adds = IfOk-at_ok (Adds (count_by is_letter steps) (players + count_by is_stroke steps) []) script_is (script_counted players steps at parts)

  letters_same : count_by is_letter steps ≡ count_by is_letter bets.steps
  letters_same = ap (count_by is_letter) same

  strokes_same : count_by is_stroke steps ≡ count_by is_stroke bets.steps
  strokes_same = ap (count_by is_stroke) same

  -- the script of a hand of at most ten players is within the limits
  pub within_limits : players ≤ 10 → IsWithinLimits (map said_of script)
  within_limits most = record {
    moves = omega (arith, moves_same script, adds.moves_are, letters_same, counted.moves, counted.few_moves);
    others = omega (arith, others_same script, adds.others_are, strokes_same, counted.rounds, counted.few_rounds, most);
  }

  -- the moves of the file after it
  pub file_moves_after : bets.file_moves ≡ earlier + count_by is_move_event (map said_of script)
  file_moves_after = omega (arith, moves_same script, adds.moves_are, letters_same, counted.moves, counted.file_moves)

  -- are within the limit
  pub file_moves_few : bets.file_moves ≤ MOST_FILE_MOVES
  file_moves_few = counted.few_file_moves
