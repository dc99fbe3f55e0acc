-- The moves and rounds of the betting that is read are counted, and are within their limits.
use Rattle.std.proofs.Common.{◌≡◌, ℕ, ◌+◌, ◌≤◌, Bool, true, false, not, cond, nat_le, nat_lt, eqb, List, [], ◌∷◌, length, count_by, IfOk, refl, arith}
use Rattle.std.proofs.lemmas.Bool.Decides.{nat_tests}
use Rattle.card_set.proofs.Counting.{count_by-push}
use Rattle.chip_ledger.specs.declared.numbers.TheConstants.{MOST_CHIPS}
use Rattle.play_event.specs.declared.hand_limits.TheConstants.{MOST_MOVES}
use Rattle.first_fault.specs.declared.limits.TheConstants.{MOST_FILE_MOVES}
use Rattle.first_fault.specs.declared.limits.Quantity.TheVariants as quantities
use Rattle.first_fault.specs.Digits.{number_of}
use Rattle.acpc_game.specs.declared.fault.LineFaultKind.TheVariants as whats
use Rattle.acpc_game.specs.Faults.{wrong}
use Rattle.acpc_game.specs.Letters.{Letter, scan}
use Rattle.acpc_reading.specs.declared.step.BettingStep.{BettingStep}
use Rattle.acpc_reading.specs.declared.step.BettingStep.TheVariants as steps
use Rattle.acpc_reading.specs.Betting.{Bets, no_bets, with_move, bare_said, raise_said, stroke_said, letter_said, bets_after, betting_said}
use Rattle.acpc_reading.proofs.Checked.{after}
use Rattle.card_set.proofs.Results.{ok_either, ok_where_some}

-- a step is a move
abbrev pub is_letter : BettingStep → Bool
is_letter steps.Fold = true
is_letter steps.Call = true
is_letter steps.Raise = true
is_letter (steps.RaiseTo total) = true
is_letter steps.NextRound = false

-- a step begins a round
abbrev pub is_stroke : BettingStep → Bool
is_stroke step = not (is_letter step)

-- the moves of the hand and the file are counted; the file had `earlier` moves before the hand
pub record AreCounted (earlier : ℕ) (bets : Bets) : Type 0 where
  pub moves : count_by is_letter bets.steps ≡ bets.moves
  pub rounds : count_by is_stroke bets.steps + 1 ≡ bets.round
  pub file_moves : bets.file_moves ≡ earlier + bets.moves
  pub few_moves : bets.moves ≤ MOST_MOVES
  pub few_rounds : bets.round ≤ 4
  pub few_file_moves : bets.file_moves ≤ MOST_FILE_MOVES

module _ (earlier : ℕ) where
  one_move : (bets : Bets) (at : ℕ) (step : BettingStep) → is_letter step ≡ true → AreCounted earlier bets → IfOk (with_move bets at step) (AreCounted earlier)
  unfolding with_move
  one_move bets at step is counted =
      let moves = count_by-push is_letter bets.steps step in
      let strokes = count_by-push is_stroke bets.steps step in
      let one : ◌≡◌ {A = ℕ} (cond (is_letter step) 1 0) 1 = rw is refl in
      let none : ◌≡◌ {A = ℕ} (cond (is_stroke step) 1 0) 0 = rw is refl in
      ok_either (nat_le MOST_MOVES bets.moves) (wrong (whats.TooMany quantities.Moves) at) _ (AreCounted earlier) (λ _. tt)
      (λ room. ok_either (nat_le MOST_FILE_MOVES bets.file_moves) (wrong (whats.TooMany quantities.FileMoves) at) _ (AreCounted earlier) (λ _. tt)
      (λ file_room. record {
        moves = omega (arith, moves, one, counted.moves);
        rounds = omega (arith, strokes, none, counted.rounds);
        file_moves = omega (arith, counted.file_moves);
        few_moves = grind (arith, nat_tests, room);
        few_rounds = counted.few_rounds;
        few_file_moves = grind (arith, nat_tests, file_room);
      }))

  bare : (bets : Bets) (at : ℕ) (digits : List ℕ) (step : BettingStep) → is_letter step ≡ true → AreCounted earlier bets → IfOk (bare_said bets at digits step) (AreCounted earlier)
  unfolding bare_said
  bare bets at digits step is counted = ok_either (eqb (length digits) 0) (with_move bets at step) (wrong whats.BadBetting (at + 1)) (AreCounted earlier) (λ _. one_move bets at step is counted) (λ _. tt)

  raise : (bets : Bets) (at : ℕ) (digits : List ℕ) → AreCounted earlier bets → IfOk (raise_said bets at digits) (AreCounted earlier)
  unfolding raise_said
  raise bets at digits counted =
      ok_either (eqb (length digits) 0) (wrong whats.BadBetting (at + 1)) _ (AreCounted earlier) (λ _. tt)
      (λ _. ok_where_some (number_of MOST_CHIPS digits) (λ total. with_move bets at (steps.RaiseTo total)) (wrong whats.AmountLimit (at + 1)) (AreCounted earlier)
      (λ total. one_move bets at (steps.RaiseTo total) refl counted) tt)

  stroke : (bets : Bets) (at : ℕ) (digits : List ℕ) → AreCounted earlier bets → IfOk (stroke_said bets at digits) (AreCounted earlier)
  unfolding stroke_said
  stroke bets at digits counted =
      let moves = count_by-push is_letter bets.steps steps.NextRound in
      let strokes = count_by-push is_stroke bets.steps steps.NextRound in
      ok_either (nat_le 4 bets.round) (wrong whats.BadBetting at) _ (AreCounted earlier) (λ _. tt)
      (λ room. ok_either (eqb (length digits) 0) _ (wrong whats.BadBetting (at + 1)) (AreCounted earlier)
      (λ _. record {
        moves = omega (arith, moves, counted.moves);
        rounds = omega (arith, strokes, counted.rounds);
        file_moves = counted.file_moves;
        few_moves = counted.few_moves;
        few_rounds = grind (arith, nat_tests, room);
        few_file_moves = counted.few_file_moves;
      })
      (λ _. tt))

  one_letter : (no_limit : Bool) (bets : Bets) (at : ℕ) (letter : Letter) → AreCounted earlier bets → IfOk (letter_said no_limit bets at letter) (AreCounted earlier)
  unfolding letter_said
  one_letter no_limit bets at (letter, digits) counted =
      ok_either (eqb letter 102) (bare_said bets at digits steps.Fold) _ (AreCounted earlier) (λ _. bare bets at digits steps.Fold refl counted)
      (λ _. ok_either (eqb letter 99) (bare_said bets at digits steps.Call) _ (AreCounted earlier) (λ _. bare bets at digits steps.Call refl counted)
      (λ _. ok_either (eqb letter 114) _ _ (AreCounted earlier)
      (λ _. ok_either no_limit (raise_said bets at digits) (bare_said bets at digits steps.Raise) (AreCounted earlier) (λ _. raise bets at digits counted) (λ _. bare bets at digits steps.Raise refl counted))
      (λ _. ok_either (eqb letter 47) (stroke_said bets at digits) (wrong whats.BadBetting at) (AreCounted earlier) (λ _. stroke bets at digits counted) (λ _. tt))))

  more_letters : (no_limit : Bool) (bets : Bets) (at : ℕ) (letters : List Letter) → AreCounted earlier bets → IfOk (bets_after no_limit bets at letters) (AreCounted earlier)
  unfolding bets_after
  more_letters no_limit bets at [] counted = counted
  more_letters no_limit bets at (letter ∷ letters) counted =
      after (letter_said no_limit bets at letter) (λ more. bets_after no_limit more (at + 1 + length letter.1) letters) (AreCounted earlier) (AreCounted earlier)
      (one_letter no_limit bets at letter counted) (λ more so_far. more_letters no_limit more (at + 1 + length letter.1) letters so_far)

-- the betting of a hand is counted
pub betting_counted : (no_limit : Bool) (earlier at : ℕ) (text : List ℕ) → earlier ≤ MOST_FILE_MOVES → IfOk (betting_said no_limit earlier at text) (AreCounted earlier)
unfolding betting_said
betting_counted no_limit earlier at text few =
    ok_either (nat_lt 0 (length (scan text).0)) (wrong whats.BadBetting at) _ (AreCounted earlier) (λ _. tt)
    (λ _. more_letters earlier no_limit (no_bets earlier) at (scan text).1 (record {
      moves = refl;
      rounds = refl;
      file_moves = omega arith;
      few_moves = omega arith;
      few_rounds = omega arith;
      few_file_moves = few;
    }))
