-- The betting of a play as steps: what is written of it is the text of these steps, one after
-- another.
use Rattle.std.proofs.Common.{◌≡◌, ℕ, ◌+◌, ◌≤◌, Bool, true, false, ◌==◌, eqb, if◌then◌else◌, cond, List, [], ◌∷◌, ◌++◌, length, decimal, refl, ap, ap₂, ◌∙◌, arith}
use Rattle.std.specs.List.{flat_map}
use Rattle.std.proofs.lemmas.Bool.Decides.{nat_tests}
use Rattle.std.proofs.lemmas.Grind.{flat_map-append}
use Rattle.std.proofs.lemmas.List.{append-nil}
use Rattle.play_event.specs.Past.{Act, BroughtIn, Called, Folded, Move, Raised}
use Rattle.play_event.specs.Trace.{TracedPlace}
use Rattle.play_event.specs.declared.setup.Setup.{Setup}
use Rattle.acpc_format.specs.Betting.{betting_text, hand_total, letter, letters_on, round_text}
use Rattle.acpc_format.specs.Rounds.{further_streets, has_board}
use Rattle.acpc_reading.specs.declared.step.BettingStep.{BettingStep}
use Rattle.acpc_reading.specs.declared.step.BettingStep.TheVariants as steps

-- the step of a move
abbrev pub step_of : Bool → Act → ℕ → List BettingStep
step_of no_limit Folded total = steps.Fold ∷ []
step_of no_limit Called total = steps.Call ∷ []
step_of no_limit Raised total = (if no_limit then steps.RaiseTo total else steps.Raise) ∷ []
step_of no_limit BroughtIn total = []

abbrev pub step_on : Bool → ℕ → Move → ℕ → List BettingStep
step_on no_limit street move total = if move.street == street then step_of no_limit move.act total else []

-- the steps of a street
unfoldable pub steps_on : Bool → Setup → ℕ → List Move → List BettingStep
steps_on no_limit setup street [] = []
steps_on no_limit setup street (move ∷ before) = steps_on no_limit setup street before ++ step_on no_limit street move (hand_total setup move before)

-- the steps of a further round
abbrev pub round_steps : Bool → Setup → List TracedPlace → List Move → ℕ → List BettingStep
round_steps no_limit setup placed moves street = if has_board placed street then steps.NextRound ∷ steps_on no_limit setup street moves else []

abbrev pub all_steps : Bool → Setup → List TracedPlace → List Move → List BettingStep
all_steps no_limit setup placed moves = steps_on no_limit setup 1 moves ++ flat_map (round_steps no_limit setup placed moves) further_streets

-- the text of a step
abbrev pub step_text : BettingStep → List ℕ
step_text steps.Fold = 102 ∷ []
step_text steps.Call = 99 ∷ []
step_text steps.Raise = 114 ∷ []
step_text (steps.RaiseTo total) = 114 ∷ decimal total
step_text steps.NextRound = 47 ∷ []

act_text : (no_limit : Bool) (act : Act) (total : ℕ) → flat_map step_text (step_of no_limit act total) ≡ letter no_limit act total
act_text no_limit Folded total = refl
act_text no_limit Called total = refl
act_text true Raised total = append-nil (114 ∷ decimal total)
act_text false Raised total = refl
act_text no_limit BroughtIn total = refl

move_text : (no_limit on : Bool) (act : Act) (total : ℕ) → flat_map step_text (if on then step_of no_limit act total else []) ≡ (if on then letter no_limit act total else [])
move_text no_limit true act total = act_text no_limit act total
move_text no_limit false act total = refl

letters_text : (no_limit : Bool) (setup : Setup) (street : ℕ) (moves : List Move) → flat_map step_text (steps_on no_limit setup street moves) ≡ letters_on no_limit setup street moves
unfolding steps_on letters_on
letters_text no_limit setup street [] = refl
letters_text no_limit setup street (move ∷ before) =
    flat_map-append step_text (steps_on no_limit setup street before) (step_on no_limit street move (hand_total setup move before))
    ∙ ap₂ (λ (a b : List ℕ). a ++ b) (letters_text no_limit setup street before) (move_text no_limit (move.street == street) move.act (hand_total setup move before))

dealt_text : (no_limit dealt : Bool) (setup : Setup) (street : ℕ) (moves : List Move) → flat_map step_text (if dealt then steps.NextRound ∷ steps_on no_limit setup street moves else []) ≡ (if dealt then 47 ∷ letters_on no_limit setup street moves else [])
dealt_text no_limit true setup street moves = ap (λ (l : List ℕ). 47 ∷ l) (letters_text no_limit setup street moves)
dealt_text no_limit false setup street moves = refl

rounds_text : (no_limit : Bool) (setup : Setup) (placed : List TracedPlace) (moves : List Move) (streets : List ℕ) → flat_map step_text (flat_map (round_steps no_limit setup placed moves) streets) ≡ flat_map (round_text no_limit setup placed moves) streets
unfolding round_text
rounds_text no_limit setup placed moves [] = refl
rounds_text no_limit setup placed moves (street ∷ streets) =
    flat_map-append step_text (round_steps no_limit setup placed moves street) (flat_map (round_steps no_limit setup placed moves) streets)
    ∙ ap₂ (λ (a b : List ℕ). a ++ b) (dealt_text no_limit (has_board placed street) setup street moves) (rounds_text no_limit setup placed moves streets)

-- the betting is the text of the steps
pub steps_text : (no_limit : Bool) (setup : Setup) (placed : List TracedPlace) (moves : List Move) → flat_map step_text (all_steps no_limit setup placed moves) ≡ betting_text no_limit setup placed moves
unfolding betting_text
steps_text no_limit setup placed moves =
    flat_map-append step_text (steps_on no_limit setup 1 moves) (flat_map (round_steps no_limit setup placed moves) further_streets)
    ∙ ap₂ (λ (a b : List ℕ). a ++ b) (letters_text no_limit setup 1 moves) (rounds_text no_limit setup placed moves further_streets)

-- the number of moves among some steps, and the number of strokes
abbrev pub moves_in : List BettingStep → ℕ
moves_in [] = 0
moves_in (steps.NextRound ∷ rest) = moves_in rest
moves_in (steps.Fold ∷ rest) = 1 + moves_in rest
moves_in (steps.Call ∷ rest) = 1 + moves_in rest
moves_in (steps.Raise ∷ rest) = 1 + moves_in rest
moves_in (steps.RaiseTo total ∷ rest) = 1 + moves_in rest

abbrev pub strokes_in : List BettingStep → ℕ
strokes_in [] = 0
strokes_in (steps.NextRound ∷ rest) = 1 + strokes_in rest
strokes_in (steps.Fold ∷ rest) = strokes_in rest
strokes_in (steps.Call ∷ rest) = strokes_in rest
strokes_in (steps.Raise ∷ rest) = strokes_in rest
strokes_in (steps.RaiseTo total ∷ rest) = strokes_in rest

pub moves_append : (some more : List BettingStep) → moves_in (some ++ more) ≡ moves_in some + moves_in more
moves_append [] more = omega arith
moves_append (steps.NextRound ∷ some) more = omega (arith, moves_append some more)
moves_append (steps.Fold ∷ some) more = omega (arith, moves_append some more)
moves_append (steps.Call ∷ some) more = omega (arith, moves_append some more)
moves_append (steps.Raise ∷ some) more = omega (arith, moves_append some more)
moves_append (steps.RaiseTo total ∷ some) more = omega (arith, moves_append some more)

pub strokes_append : (some more : List BettingStep) → strokes_in (some ++ more) ≡ strokes_in some + strokes_in more
strokes_append [] more = omega arith
strokes_append (steps.NextRound ∷ some) more = omega (arith, strokes_append some more)
strokes_append (steps.Fold ∷ some) more = omega (arith, strokes_append some more)
strokes_append (steps.Call ∷ some) more = omega (arith, strokes_append some more)
strokes_append (steps.Raise ∷ some) more = omega (arith, strokes_append some more)
strokes_append (steps.RaiseTo total ∷ some) more = omega (arith, strokes_append some more)

-- a move is one step, and no stroke
one_step : (no_limit : Bool) (act : Act) (total : ℕ) → (moves_in (step_of no_limit act total) ≤ 1) × (strokes_in (step_of no_limit act total) ≡ 0)
one_step no_limit Folded total = (omega arith, refl)
one_step no_limit Called total = (omega arith, refl)
one_step true Raised total = (omega arith, refl)
one_step false Raised total = (omega arith, refl)
one_step no_limit BroughtIn total = (omega arith, refl)

step_once : (no_limit on : Bool) (act : Act) (total : ℕ) → (moves_in (if on then step_of no_limit act total else []) ≤ cond on 1 0) × (strokes_in (if on then step_of no_limit act total else []) ≡ 0)
step_once no_limit true act total = one_step no_limit act total
step_once no_limit false act total = (omega arith, refl)

pub no_strokes : (no_limit : Bool) (setup : Setup) (street : ℕ) (moves : List Move) → strokes_in (steps_on no_limit setup street moves) ≡ 0
unfolding steps_on
no_strokes no_limit setup street [] = refl
no_strokes no_limit setup street (move ∷ before) =
    strokes_append (steps_on no_limit setup street before) (step_on no_limit street move (hand_total setup move before))
    ∙ omega (arith, no_strokes no_limit setup street before, (step_once no_limit (move.street == street) move.act (hand_total setup move before)).1)

-- one move is on at most one street
one_street : (street : ℕ) → cond (eqb street 1) 1 0 + (cond (eqb street 2) 1 0 + (cond (eqb street 3) 1 0 + cond (eqb street 4) 1 0)) ≤ 1
one_street street = grind (arith, nat_tests)

four_streets : (no_limit : Bool) (setup : Setup) (moves : List Move) → moves_in (steps_on no_limit setup 1 moves) + (moves_in (steps_on no_limit setup 2 moves) + (moves_in (steps_on no_limit setup 3 moves) + moves_in (steps_on no_limit setup 4 moves))) ≤ length moves
unfolding steps_on
four_streets no_limit setup [] = omega arith
four_streets no_limit setup (move ∷ before) =
    let total = hand_total setup move before in
    omega (
      arith,
      four_streets no_limit setup before,
      one_street move.street,
      moves_append (steps_on no_limit setup 1 before) (step_on no_limit 1 move total),
      (step_once no_limit (move.street == 1) move.act total).0,
      moves_append (steps_on no_limit setup 2 before) (step_on no_limit 2 move total),
      (step_once no_limit (move.street == 2) move.act total).0,
      moves_append (steps_on no_limit setup 3 before) (step_on no_limit 3 move total),
      (step_once no_limit (move.street == 3) move.act total).0,
      moves_append (steps_on no_limit setup 4 before) (step_on no_limit 4 move total),
      (step_once no_limit (move.street == 4) move.act total).0,
    )

dealt_steps : (no_limit dealt : Bool) (setup : Setup) (street : ℕ) (moves : List Move) → (moves_in (if dealt then steps.NextRound ∷ steps_on no_limit setup street moves else []) ≤ moves_in (steps_on no_limit setup street moves)) × (strokes_in (if dealt then steps.NextRound ∷ steps_on no_limit setup street moves else []) ≤ 1)
dealt_steps no_limit true setup street moves = (omega arith, omega (arith, no_strokes no_limit setup street moves))
dealt_steps no_limit false setup street moves = (omega arith, omega arith)

-- so a hand has at most as many move steps as moves, and at most three strokes
pub few_steps : (no_limit : Bool) (setup : Setup) (placed : List TracedPlace) (moves : List Move) → (moves_in (all_steps no_limit setup placed moves) ≤ length moves) × (strokes_in (all_steps no_limit setup placed moves) ≤ 3)
few_steps no_limit setup placed moves =
    let s1 = steps_on no_limit setup 1 moves in
    let r2 = round_steps no_limit setup placed moves 2 in
    let r3 = round_steps no_limit setup placed moves 3 in
    let r4 = round_steps no_limit setup placed moves 4 in
    let d2 = dealt_steps no_limit (has_board placed 2) setup 2 moves in
    let d3 = dealt_steps no_limit (has_board placed 3) setup 3 moves in
    let d4 = dealt_steps no_limit (has_board placed 4) setup 4 moves in (
      omega (arith, four_streets no_limit setup moves, d2.0, d3.0, d4.0, moves_append s1 (r2 ++ (r3 ++ (r4 ++ []))), moves_append r2 (r3 ++ (r4 ++ [])), moves_append r3 (r4 ++ []), moves_append r4 []),
      omega (arith, no_strokes no_limit setup 1 moves, d2.1, d3.1, d4.1, strokes_append s1 (r2 ++ (r3 ++ (r4 ++ []))), strokes_append r2 (r3 ++ (r4 ++ [])), strokes_append r3 (r4 ++ []), strokes_append r4 []),
    )
