-- Steps that were written as letters read back as the same steps.
use Rattle.std.proofs.Common.{◌≡◌, ℕ, ◌+◌, ◌≤◌, Bool, true, false, eqb, List, [], ◌∷◌, ◌++◌, length, map, decimal, Result, Ok, refl, sym, ap, ◌∙◌, arith, append_assoc, true≢false}
use Rattle.std.specs.List.{flat_map, AllByRecursion}
use Rattle.std.specs.Char.{digit_value}
use Rattle.std.specs.Str.Parse.{AllDigits}
use Rattle.std.proofs.lemmas.Bool.{lt-leb, lt-ltb}
use Rattle.std.proofs.lemmas.Bool.Decides.{nat_tests}
use Rattle.std.proofs.lemmas.Fmt.{decimal_is_IsNumeral}
use Rattle.std.proofs.lemmas.List.{append-nil}
use Rattle.chip_ledger.specs.declared.numbers.TheConstants.{MOST_CHIPS}
use Rattle.play_event.specs.declared.hand_limits.TheConstants.{MOST_MOVES}
use Rattle.first_fault.specs.declared.limits.TheConstants.{MOST_FILE_MOVES}
use Rattle.acpc_game.specs.declared.fault.LineFault.{LineFault}
use Rattle.acpc_game.specs.Letters.{Letter, onto, scan}
use Rattle.acpc_reading.specs.Betting.{Bets, bare_said, bets_after, betting_said, letter_said, no_bets, raise_said, stroke_said, with_move}
use Rattle.acpc_reading.specs.declared.step.BettingStep.{BettingStep}
use Rattle.acpc_reading.specs.declared.step.BettingStep.TheVariants as steps
use Rattle.acpc_format.proofs.NumbersAgain.{decimal_number}
use Rattle.acpc_format.proofs.Steps.{moves_in, step_text, strokes_in}

-- a step has a letter in a limit or no-limit game
abbrev pub HasLetter : Bool → BettingStep → Type 0
HasLetter no_limit steps.Fold = Unit {0}
HasLetter no_limit steps.Call = Unit {0}
HasLetter no_limit steps.Raise = no_limit ≡ false
HasLetter no_limit (steps.RaiseTo total) = (no_limit ≡ true) × (total ≤ MOST_CHIPS)
HasLetter no_limit steps.NextRound = Unit {0}

-- a step as its letter and its digits
abbrev letter_of : BettingStep → Letter
letter_of steps.Fold = (102, [])
letter_of steps.Call = (99, [])
letter_of steps.Raise = (114, [])
letter_of (steps.RaiseTo total) = (114, decimal total)
letter_of steps.NextRound = (47, [])

scan_digits : (digits rest : List ℕ) → AllDigits 10 digits → scan (digits ++ rest) ≡ (digits ++ (scan rest).0, (scan rest).1)
scan_digits [] rest all = refl
scan_digits (digit ∷ digits) rest all = rw (scan_digits digits rest all.1, lt-ltb (digit_value digit) 10 all.0) refl

scan_steps : (no_limit : Bool) (list : List BettingStep) → AllByRecursion (HasLetter no_limit) list → scan (flat_map step_text list) ≡ ([], map letter_of list)
scan_steps no_limit [] each = refl
scan_steps no_limit (steps.Fold ∷ list) each = rw (scan_steps no_limit list each.1) refl
scan_steps no_limit (steps.Call ∷ list) each = rw (scan_steps no_limit list each.1) refl
scan_steps no_limit (steps.Raise ∷ list) each = rw (scan_steps no_limit list each.1) refl
scan_steps no_limit (steps.NextRound ∷ list) each = rw (scan_steps no_limit list each.1) refl
scan_steps no_limit (steps.RaiseTo total ∷ list) each =
    ap (onto 114) (scan_digits (decimal total) (flat_map step_text list) (decimal_is_IsNumeral total (omega (arith, each.0.1))).0.1)
    ∙ rw (scan_steps no_limit list each.1) (ap (λ (digits : List ℕ). ([], (114, digits) ∷ map letter_of list)) (append-nil (decimal total)))

-- a number within the limits of the hand and of the file
record HasRoom (bets : Bets) : Type 0 where
  hand : bets.moves + 1 ≤ MOST_MOVES
  file : bets.file_moves + 1 ≤ MOST_FILE_MOVES

-- the betting with one more move
abbrev moved : Bets → BettingStep → Bets
moved bets step = record { steps = bets.steps ++ step ∷ []; round = bets.round; moves = bets.moves + 1; file_moves = bets.file_moves + 1 }

move_again : (bets : Bets) (at : ℕ) (step : BettingStep) → HasRoom bets → with_move bets at step ≡ Ok (moved bets step)
unfolding with_move
move_again bets at step room = rw (lt-leb MOST_MOVES bets.moves (omega (arith, room.hand)), lt-leb MOST_FILE_MOVES bets.file_moves (omega (arith, room.file))) refl

fold_again : (no_limit : Bool) (bets : Bets) (at : ℕ) → HasRoom bets → letter_said no_limit bets at (102, []) ≡ Ok (moved bets steps.Fold)
unfolding letter_said bare_said
fold_again no_limit bets at room = move_again bets at steps.Fold room

call_again : (no_limit : Bool) (bets : Bets) (at : ℕ) → HasRoom bets → letter_said no_limit bets at (99, []) ≡ Ok (moved bets steps.Call)
unfolding letter_said bare_said
call_again no_limit bets at room = move_again bets at steps.Call room

raise_again : (no_limit : Bool) (bets : Bets) (at : ℕ) → no_limit ≡ false → HasRoom bets → letter_said no_limit bets at (114, []) ≡ Ok (moved bets steps.Raise)
unfolding letter_said bare_said
raise_again true bets at is room = absurd (true≢false is)
raise_again false bets at is room = move_again bets at steps.Raise room

total_again : (no_limit : Bool) (bets : Bets) (at total : ℕ) → no_limit ≡ true → total ≤ MOST_CHIPS → HasRoom bets → letter_said no_limit bets at (114, decimal total) ≡ Ok (moved bets (steps.RaiseTo total))
unfolding letter_said raise_said
total_again false bets at total is few room = absurd (true≢false (sym is))
total_again true bets at total is few room =
    let some : eqb (length (decimal total)) 0 ≡ false = grind (arith, nat_tests, (decimal_is_IsNumeral total (omega (arith, few))).0.0) in
    rw (some, decimal_number MOST_CHIPS total few (omega (arith, few))) (move_again bets at (steps.RaiseTo total) room)

stroke_again : (no_limit : Bool) (bets : Bets) (at : ℕ) → bets.round + 1 ≤ 4 → letter_said no_limit bets at (47, []) ≡ Ok (record { steps = bets.steps ++ steps.NextRound ∷ []; round = bets.round + 1; moves = bets.moves; file_moves = bets.file_moves })
unfolding letter_said stroke_said
stroke_again no_limit bets at few = rw (lt-leb 4 bets.round (omega (arith, few))) refl

-- the betting with more steps
abbrev pub with_steps : Bets → List BettingStep → Bets
with_steps bets list = record {
  steps = bets.steps ++ list;
  round = bets.round + strokes_in list;
  moves = bets.moves + moves_in list;
  file_moves = bets.file_moves + moves_in list;
}

record Fits (bets : Bets) (list : List BettingStep) : Type 0 where
  rounds : bets.round + strokes_in list ≤ 4
  hand : bets.moves + moves_in list ≤ MOST_MOVES
  file : bets.file_moves + moves_in list ≤ MOST_FILE_MOVES

-- the betting as it is read
abbrev said_bets : List BettingStep → ℕ → ℕ → ℕ → Result Bets LineFault
said_bets list round moves file_moves = Ok (record { steps = list; round = round; moves = moves; file_moves = file_moves })

bets_same : (s t : List BettingStep) (a b c d e f : ℕ) → s ≡ t → a ≡ b → c ≡ d → e ≡ f
    → said_bets s a c e ≡ said_bets t b d f
bets_same s t a b c d e f one two three four = rw (one, two, three, four) refl

steps_again : (no_limit : Bool) (bets : Bets) (at : ℕ) (list : List BettingStep) → AllByRecursion (HasLetter no_limit) list → Fits bets list
    → bets_after no_limit bets at (map letter_of list) ≡ Ok (with_steps bets list)
unfolding bets_after
steps_again no_limit bets at [] each fits = bets_same bets.steps (bets.steps ++ []) bets.round (bets.round + 0) bets.moves (bets.moves + 0) bets.file_moves (bets.file_moves + 0) (sym (append-nil bets.steps)) (omega arith) (omega arith) (omega arith)
steps_again no_limit bets at (steps.Fold ∷ list) each fits =
    rw (fold_again no_limit bets at (record { hand = omega (arith, fits.hand); file = omega (arith, fits.file) }))
    (steps_again no_limit (moved bets steps.Fold) (at + 1 + 0) list each.1 (record { rounds = fits.rounds; hand = omega (arith, fits.hand); file = omega (arith, fits.file) })
    ∙ bets_same ((bets.steps ++ steps.Fold ∷ []) ++ list) (bets.steps ++ steps.Fold ∷ list) (bets.round + strokes_in list) (bets.round + strokes_in list) (bets.moves + 1 + moves_in list) (bets.moves + (1 + moves_in list)) (bets.file_moves + 1 + moves_in list) (bets.file_moves + (1 + moves_in list)) (append_assoc bets.steps (steps.Fold ∷ []) list) refl (omega arith) (omega arith))
steps_again no_limit bets at (steps.Call ∷ list) each fits =
    rw (call_again no_limit bets at (record { hand = omega (arith, fits.hand); file = omega (arith, fits.file) }))
    (steps_again no_limit (moved bets steps.Call) (at + 1 + 0) list each.1 (record { rounds = fits.rounds; hand = omega (arith, fits.hand); file = omega (arith, fits.file) })
    ∙ bets_same ((bets.steps ++ steps.Call ∷ []) ++ list) (bets.steps ++ steps.Call ∷ list) (bets.round + strokes_in list) (bets.round + strokes_in list) (bets.moves + 1 + moves_in list) (bets.moves + (1 + moves_in list)) (bets.file_moves + 1 + moves_in list) (bets.file_moves + (1 + moves_in list)) (append_assoc bets.steps (steps.Call ∷ []) list) refl (omega arith) (omega arith))
steps_again no_limit bets at (steps.Raise ∷ list) each fits =
    rw (raise_again no_limit bets at each.0 (record { hand = omega (arith, fits.hand); file = omega (arith, fits.file) }))
    (steps_again no_limit (moved bets steps.Raise) (at + 1 + 0) list each.1 (record { rounds = fits.rounds; hand = omega (arith, fits.hand); file = omega (arith, fits.file) })
    ∙ bets_same ((bets.steps ++ steps.Raise ∷ []) ++ list) (bets.steps ++ steps.Raise ∷ list) (bets.round + strokes_in list) (bets.round + strokes_in list) (bets.moves + 1 + moves_in list) (bets.moves + (1 + moves_in list)) (bets.file_moves + 1 + moves_in list) (bets.file_moves + (1 + moves_in list)) (append_assoc bets.steps (steps.Raise ∷ []) list) refl (omega arith) (omega arith))
steps_again no_limit bets at (steps.RaiseTo total ∷ list) each fits =
    rw (total_again no_limit bets at total each.0.0 each.0.1 (record { hand = omega (arith, fits.hand); file = omega (arith, fits.file) }))
    (steps_again no_limit (moved bets (steps.RaiseTo total)) (at + 1 + length (decimal total)) list each.1 (record { rounds = fits.rounds; hand = omega (arith, fits.hand); file = omega (arith, fits.file) })
    ∙ bets_same ((bets.steps ++ steps.RaiseTo total ∷ []) ++ list) (bets.steps ++ steps.RaiseTo total ∷ list) (bets.round + strokes_in list) (bets.round + strokes_in list) (bets.moves + 1 + moves_in list) (bets.moves + (1 + moves_in list)) (bets.file_moves + 1 + moves_in list) (bets.file_moves + (1 + moves_in list)) (append_assoc bets.steps (steps.RaiseTo total ∷ []) list) refl (omega arith) (omega arith))
steps_again no_limit bets at (steps.NextRound ∷ list) each fits =
    rw (stroke_again no_limit bets at (omega (arith, fits.rounds)))
    (steps_again no_limit (record { steps = bets.steps ++ steps.NextRound ∷ []; round = bets.round + 1; moves = bets.moves; file_moves = bets.file_moves }) (at + 1 + 0) list each.1 (record { rounds = omega (arith, fits.rounds); hand = fits.hand; file = fits.file })
    ∙ bets_same ((bets.steps ++ steps.NextRound ∷ []) ++ list) (bets.steps ++ steps.NextRound ∷ list) (bets.round + 1 + strokes_in list) (bets.round + (1 + strokes_in list)) (bets.moves + moves_in list) (bets.moves + moves_in list) (bets.file_moves + moves_in list) (bets.file_moves + moves_in list) (append_assoc bets.steps (steps.NextRound ∷ []) list) (omega arith) refl refl)

-- the text of steps reads as these steps
pub betting_again : (no_limit : Bool) (file_moves at : ℕ) (list : List BettingStep) → AllByRecursion (HasLetter no_limit) list → strokes_in list ≤ 3 → moves_in list ≤ MOST_MOVES → file_moves + moves_in list ≤ MOST_FILE_MOVES
    → betting_said no_limit file_moves at (flat_map step_text list) ≡ Ok (with_steps (no_bets file_moves) list)
unfolding betting_said
betting_again no_limit file_moves at list each rounds hand file =
    rw (scan_steps no_limit list each)
    (steps_again no_limit (no_bets file_moves) at list each (record { rounds = omega (arith, rounds); hand = omega (arith, hand); file = omega (arith, file) }))
