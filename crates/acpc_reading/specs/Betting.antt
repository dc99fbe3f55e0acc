-- The betting of a hand, letter by letter.
use Rattle.std.specs.Prelude.{ℕ, ◌+◌, ◌==◌, Bool, nat_lt, nat_le, if◌then◌else◌, List, [], ◌∷◌, ◌++◌, length, Result, Ok}
use Rattle.std.specs.Option.{option_map_or}
use Rattle.chip_ledger.specs.declared.numbers.TheConstants.{MOST_CHIPS}
use Rattle.play_event.specs.declared.hand_limits.TheConstants.{MOST_MOVES}
use Rattle.first_fault.specs.declared.limits.TheConstants.{MOST_FILE_MOVES}
use Rattle.first_fault.specs.declared.limits.Quantity.TheVariants as quantities
use Rattle.first_fault.specs.Reading.{◌>>=◌}
use Rattle.first_fault.specs.Digits.{number_of}
use Rattle.acpc_game.specs.declared.fault.LineFault.{LineFault}
use Rattle.acpc_game.specs.declared.fault.LineFaultKind.TheVariants as whats
use Rattle.acpc_game.specs.Faults.{wrong}
use Rattle.acpc_game.specs.Letters.{Letter, scan}
use Rattle.acpc_reading.specs.declared.step.BettingStep.{BettingStep}
use Rattle.acpc_reading.specs.declared.step.BettingStep.TheVariants as steps

-- the betting so far: its steps, the round that the next letter belongs to (from 1), and the
-- numbers of moves of the hand and of the file
pub record Bets : Type 0 where
  pub steps : List BettingStep
  pub round : ℕ
  pub moves : ℕ
  pub file_moves : ℕ

-- no betting yet, in a file that has this number of moves so far
abbrev pub no_bets : ℕ → Bets
no_bets file_moves = record { steps = []; round = 1; moves = 0; file_moves = file_moves }

-- one more move, if the hand and the file may have it
unfoldable pub with_move : Bets → ℕ → BettingStep → Result Bets LineFault
with_move bets at step =
    if nat_le MOST_MOVES bets.moves then wrong (whats.TooMany quantities.Moves) at
    else if nat_le MOST_FILE_MOVES bets.file_moves
    then wrong (whats.TooMany quantities.FileMoves) at
    else Ok
    (record {
      steps = bets.steps ++ step ∷ [];
      round = bets.round;
      moves = bets.moves + 1;
      file_moves = bets.file_moves + 1;
    })

-- a letter that no digits follow
unfoldable pub bare_said : Bets → ℕ → List ℕ → BettingStep → Result Bets LineFault
bare_said bets at digits step =
    if length digits == 0 then with_move bets at step else wrong whats.BadBetting (at + 1)

-- a raise to the total that its digits say
unfoldable pub raise_said : Bets → ℕ → List ℕ → Result Bets LineFault
raise_said bets at digits =
    if length digits == 0 then wrong whats.BadBetting (at + 1)
    else option_map_or (λ total. with_move bets at (steps.RaiseTo total))
    (number_of MOST_CHIPS digits) (wrong whats.AmountLimit (at + 1))

-- a stroke (/), which begins the next of at most four rounds
unfoldable pub stroke_said : Bets → ℕ → List ℕ → Result Bets LineFault
stroke_said bets at digits =
    if nat_le 4 bets.round then wrong whats.BadBetting at
    else if length digits == 0
    then Ok
    (record {
      steps = bets.steps ++ steps.NextRound ∷ [];
      round = bets.round + 1;
      moves = bets.moves;
      file_moves = bets.file_moves;
    })
    else wrong whats.BadBetting (at + 1)

-- a letter and its digits, at this byte: f, c, r or a stroke; in a no-limit game digits follow r
unfoldable pub letter_said : Bool → Bets → ℕ → Letter → Result Bets LineFault
letter_said no_limit bets at (letter, digits) =
    if letter == 102 then bare_said bets at digits steps.Fold
    else if letter == 99 then bare_said bets at digits steps.Call
    else if letter == 114
    then (if no_limit then raise_said bets at digits else bare_said bets at digits steps.Raise)
    else if letter == 47 then stroke_said bets at digits
    else wrong whats.BadBetting at

-- the betting after more letters, the first of which is at this byte
unfoldable pub bets_after : Bool → Bets → ℕ → List Letter → Result Bets LineFault
bets_after no_limit bets at [] = Ok bets
bets_after no_limit bets at (letter ∷ letters) =
    letter_said no_limit bets at letter
    >>= λ more. bets_after no_limit more (at + 1 + length letter.1) letters

-- the betting field, which begins at this byte
unfoldable pub betting_said : Bool → ℕ → ℕ → List ℕ → Result Bets LineFault
betting_said no_limit file_moves at text =
    if nat_lt 0 (length (scan text).0)
    then wrong whats.BadBetting at
    else bets_after no_limit (no_bets file_moves) at (scan text).1
