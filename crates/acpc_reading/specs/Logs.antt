-- The hands that a log says, line by line.
use Rattle.std.specs.Prelude.{ℕ, ◌+◌, ◌==◌, ◌||◌, Bool, nat_le, if◌then◌else◌, List, [], ◌∷◌, ◌++◌, length, slice_index, codes, ℤ, Option, Result, Ok}
use Rattle.play_event.specs.Said.{Numbered}
use Rattle.first_fault.specs.declared.limits.TheConstants.{MOST_HANDS}
use Rattle.first_fault.specs.declared.limits.Quantity.TheVariants as quantities
use Rattle.first_fault.specs.Reading.{◌>>=◌}
use Rattle.acpc_game.specs.declared.fault.AcpcFault.{AcpcFault}
use Rattle.acpc_game.specs.declared.fault.LineFault.{LineFault}
use Rattle.acpc_game.specs.declared.fault.LineFaultKind.TheVariants as whats
use Rattle.acpc_game.specs.Faults.{wrong, in_line}
use Rattle.acpc_game.specs.Parts.{parts_of, lines_of, has_front}
use Rattle.acpc_game.specs.declared.game.Game.{Game}
use Rattle.acpc_reading.specs.Betting.{betting_said}
use Rattle.acpc_reading.specs.Cards.{script_said}
use Rattle.acpc_reading.specs.Values.{values_said}
use Rattle.acpc_reading.specs.Names.{names_said, hand_said}

-- what a line says of a hand: its events with the numbers of their letters, its stated values, and
-- its notes
pub record HandSaid : Type 0 where
  pub events : List Numbered
  pub values : List ℤ
  pub names : List (Option (List ℕ))
  pub hand : Option (List ℕ)

-- the byte after a field and its colon
abbrev pub behind : ℕ → List ℕ → ℕ
behind at field = at + length field + 1

-- the fields of a line: STATE, the number of the hand, the betting, the cards, the values and the
-- names
pub record FieldsSaid : Type 0 where
  pub state : List ℕ
  pub hand : List ℕ
  pub betting : List ℕ
  pub cards : List ℕ
  pub values : List ℕ
  pub names : List ℕ

-- the six fields of a line of `len` bytes; if there are more, the sixth colon is at fault, and if
-- there are fewer, the end of the line
unfoldable pub six_fields : ℕ → List (List ℕ) → Result FieldsSaid LineFault
six_fields len (state ∷ hand ∷ betting ∷ cards ∷ values ∷ names ∷ []) =
    Ok
    (record {
      state = state;
      hand = hand;
      betting = betting;
      cards = cards;
      values = values;
      names = names;
    })
six_fields len (a ∷ b ∷ c ∷ d ∷ e ∷ f ∷ more) =
    wrong whats.LineShape (behind (behind (behind (behind (behind 1 a) b) c) d) e + length f)
six_fields len parts = wrong whats.LineShape (len + 1)

-- The hand of some fields, at a place of its file and after `file_moves` moves of the file; and the
-- number of moves of the file with this hand.
unfoldable pub hand_of : Game → ℕ → ℕ → FieldsSaid → Result (HandSaid × ℕ) LineFault
hand_of game place file_moves fields =
    let hand_at = behind 1 fields.state in
    let betting_at = behind hand_at fields.hand in
    let cards_at = behind betting_at fields.betting in
    let values_at = behind cards_at fields.cards in
    let names_at = behind values_at fields.values in
    hand_said place hand_at fields.hand
    >>= λ note. betting_said game.no_limit file_moves betting_at fields.betting
    >>= λ bets. script_said game.stacks.seats bets.steps cards_at (parts_of 47 fields.cards)
    >>= λ events. values_said game.stacks.seats values_at fields.values
    >>= λ nets. names_said game.stacks.seats names_at fields.names
    >>= λ called.
    Ok (record { events = events; values = nets; names = called; hand = note }, bets.file_moves)

-- a line is ignored: it is empty, or begins with # or SCORE:
abbrev pub is_passed_over : List ℕ → Bool
is_passed_over line =
    length line == 0 || (slice_index line 0 == 35 || has_front (codes "SCORE:") line)

-- a line of a hand
unfoldable pub line_said : Game → ℕ → ℕ → List ℕ → Result (HandSaid × ℕ) LineFault
line_said game place file_moves line =
    if has_front (codes "STATE:") line
    then (six_fields (length line) (parts_of 58 line) >>= hand_of game place file_moves)
    else wrong whats.LineShape 1

-- the hands so far, and their number of moves
abbrev pub Hands : Type 0
Hands = List HandSaid × ℕ

-- the hands followed by one more if that was read, and their number of moves
abbrev pub with_hand : {Fault : Type 0} → List HandSaid → Result (HandSaid × ℕ) Fault
    → Result Hands Fault
with_hand hands found = found >>= λ hand. Ok (hands ++ hand.0 ∷ [], hand.1)

-- the hands after one more line
unfoldable pub hands_after_line : Game → Hands → ℕ → List ℕ → Result Hands AcpcFault
hands_after_line game hands line text =
    if is_passed_over text then Ok hands
    else if nat_le MOST_HANDS (length hands.0)
    then in_line line (wrong (whats.TooMany quantities.Hands) 1)
    else with_hand hands.0 (in_line line (line_said game (length hands.0) hands.1 text))

-- the hands after more lines, the first of which has this number
unfoldable pub hands_after : Game → Hands → ℕ → List (List ℕ) → Result Hands AcpcFault
hands_after game hands line [] = Ok hands
hands_after game hands line (text ∷ texts) =
    hands_after_line game hands line text >>= λ more. hands_after game more (line + 1) texts

-- what a log says under a game: its hands in order, or the first fault
unfoldable pub reading : Game → List ℕ → Result (List HandSaid) AcpcFault
reading game bytes = hands_after game ([], 0) 1 (lines_of bytes) >>= λ hands. Ok hands.0
