-- The sums of hands for the line of a game, and for the line of all hands.
use Rattle.std.specs.Prelude.{◌≤◌, ◌==◌, ℕ, ◌+◌, ◌*◌, ◌^◌, Bool, true, List, [], ◌∷◌, ◌++◌, length, map, filter, sum_by, codes, Option, None, Some, bytes_eq, if◌then◌else◌}
use Rattle.std.specs.Fmt.{decimal}
use Rattle.std.specs.Option.{option_map_or}
use Rattle.play_event.specs.Code.{code_text}
use Rattle.play_event.specs.declared.code.Code.{Code}
use Rattle.play_event.specs.Games.{all_games}
use Rattle.printed_hands.specs.Report.{Hand}
use Rattle.printed_hands.specs.declared.games.Sums.{Sums}
use Rattle.printed_hands.specs.Columns.{left_in, right_in}

-- a hand counts: it is of the game, or all games are wanted
abbrev pub is_counted : Option Code → Hand → Bool
is_counted wanted hand = option_map_or (λ code. bytes_eq (code_text code) hand.game) wanted true

-- more than all pots of a hand can have together: eleven numbers of 64 bits
abbrev pub MOST_POTS : ℕ
MOST_POTS = 11 * 2 ^ 64

-- one line per game, and after them one for all hands
abbrev pub all_wanted : List (Option Code)
all_wanted = map Some all_games ++ None ∷ []

-- the number of hands that count, and the chips of their pots together
abbrev pub sums_of : List Hand → Option Code → Sums
sums_of hands wanted =
    record {
      wanted = wanted;
      hands = length (filter (is_counted wanted) hands);
      pots = sum_by (λ hand. hand.pots) (filter (is_counted wanted) hands);
    }

-- sums with one more hand, if it counts
abbrev pub with_hand : Hand → Sums → Sums
with_hand hand sums =
    record {
      wanted = sums.wanted;
      hands = if is_counted sums.wanted hand then sums.hands + 1 else sums.hands;
      pots = if is_counted sums.wanted hand then sums.pots + hand.pots else sums.pots;
    }

-- the sums are of at most this many hands
pub record AreFewSums (count : ℕ) (sums : Sums) : Type 0 where
  pub hands : sums.hands ≤ count
  pub pots : sums.pots ≤ count * MOST_POTS

-- a line: its title, the number of hands, and their pots together
abbrev pub line_of : List ℕ → ℕ → ℕ → List ℕ
line_of title hands pots =
    left_in 6 title ++ (right_in 8 (decimal hands) ++ (right_in 20 (decimal pots) ++ codes "\n"))

-- the line of a game that was played, or of all hands
abbrev pub line_for : Option Code → ℕ → ℕ → List ℕ
line_for (Some code) hands pots = if hands == 0 then [] else line_of (code_text code) hands pots
line_for None hands pots = line_of (codes "total") hands pots

-- the line of some sums
abbrev pub sums_line : Sums → List ℕ
sums_line sums = line_for sums.wanted sums.hands sums.pots
