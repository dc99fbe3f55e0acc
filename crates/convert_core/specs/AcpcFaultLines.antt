-- The first fault of a log is never that memory ran out: it names a line.
-- This is a proof: no reader needs it.
use Rattle.std.proofs.Common.{◌≡◌, ◌+◌, ℕ, Bool, true, false, cond, nat_le, List, [], ◌∷◌, length, Result, Ok, Err, IfErr, refl, subst}
use Rattle.acpc_game.specs.declared.game.Game.{Game}
use Rattle.acpc_reading.specs.Logs.{HandSaid, Hands, hands_after, hands_after_line, is_passed_over, line_said, reading, with_hand}
use Rattle.acpc_game.specs.Faults.{fault_of, in_line, wrong}
use Rattle.acpc_game.specs.Parts.{lines_of}
use Rattle.acpc_game.specs.declared.fault.AcpcFault.{AcpcFault}
use Rattle.acpc_game.specs.declared.fault.LineFault.{LineFault}
use Rattle.acpc_game.specs.declared.fault.LineFaultKind.{LineFaultKind}
use Rattle.acpc_game.specs.declared.fault.LineFaultKind.TheVariants as whats
use Rattle.convert_core.specs.Faults.{is_out_of_memory_in_acpc}
use Rattle.first_fault.specs.Numbers.{saturated}
use Rattle.first_fault.specs.Reading.{◌>>=◌}
use Rattle.first_fault.specs.declared.limits.Quantity.TheVariants as quantities
use Rattle.first_fault.specs.declared.limits.TheConstants.{MOST_HANDS}

-- the fault, if there is one, is not that memory ran out
abbrev AtLine : {A : Type 0} → Result A AcpcFault → Type 0
AtLine result = IfErr result (λ fault. is_out_of_memory_in_acpc fault ≡ false)

at_line : (what : LineFaultKind) (line byte : ℕ)
    → is_out_of_memory_in_acpc (fault_of what line byte) ≡ false
at_line whats.LineShape line byte = refl
at_line whats.BadBetting line byte = refl
at_line whats.BadCards line byte = refl
at_line whats.BadValue line byte = refl
at_line whats.SeatCount line byte = refl
at_line whats.GameShape line byte = refl
at_line whats.UnsupportedGame line byte = refl
at_line whats.AmountLimit line byte = refl
at_line (whats.TooMany quantity) line byte = refl

in_one_line : {A : Type 0} (line : ℕ) (found : Result A LineFault) → AtLine (in_line line found)
in_one_line line (Ok said) = tt
in_one_line line (Err fault) = at_line fault.what (saturated line) (saturated fault.byte)

then_line : {A B : Type 0} (first : Result A AcpcFault) (next : A → Result B AcpcFault)
    → AtLine first → ((a : A) → AtLine (next a)) → AtLine (first >>= next)
then_line (Ok a) next told each = each a
then_line (Err fault) next told each = told

if_line : {A : Type 0} (test : Bool) (this other : Result A AcpcFault) → AtLine this → AtLine other
    → AtLine (cond test this other)
if_line true this other told others = told
if_line false this other told others = others

one_line : (game : Game) (hands : Hands) (line : ℕ) (text : List ℕ)
    → AtLine (hands_after_line game hands line text)
unfolding hands_after_line
one_line game hands line text =
    let past = nat_le MOST_HANDS (length hands.0) in
    let found = line_said game (length hands.0) hands.1 text in
    let more : Result Hands AcpcFault = with_hand hands.0 (in_line line found) in
    let many : Result Hands AcpcFault =
    in_line {A = Hands} line (wrong (whats.TooMany quantities.Hands) 1) in
    if_line (is_passed_over text) (Ok hands) (cond past many more) tt
    (if_line past many more
    (in_one_line {A = Hands} line (wrong (whats.TooMany quantities.Hands) 1))
    (then_line (in_line line found) _ (in_one_line line found) (λ hand. tt)))

all_lines : (game : Game) (hands : Hands) (line : ℕ) (texts : List (List ℕ))
    → AtLine (hands_after game hands line texts)
unfolding hands_after
all_lines game hands line [] = tt
all_lines game hands line (text ∷ texts) =
    then_line (hands_after_line game hands line text)
    (λ more. hands_after game more (line + 1) texts)
    (one_line game hands line text) (λ more. all_lines game more (line + 1) texts)

-- a log that has a fault has one other than that memory ran out
pub reading_line : (game : Game) (bytes : List ℕ) (fault : AcpcFault)
    → reading game bytes ≡ Err fault → is_out_of_memory_in_acpc fault ≡ false
unfolding reading
reading_line game bytes fault read =
    let lines = hands_after game ([], 0) 1 (lines_of bytes) in
    let all : AtLine (reading game bytes) =
    then_line lines (λ hands. Ok hands.0) (all_lines game ([], 0) 1 (lines_of bytes))
    (λ hands. tt) in
    subst (λ (found : Result (List HandSaid) AcpcFault). AtLine found) read all
