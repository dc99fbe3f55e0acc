-- The text of a report: one line per game that was played, one for all hands, and one per name.
use Rattle.std.specs.Prelude.{ℕ, ℤ, pos, ◌-ℤ◌, List, [], ◌∷◌, ◌++◌, length, map, filter, fold, flat_map, sum_by, count_by, codes, bytes_eq}
use Rattle.std.specs.Fmt.{decimal, signed_decimal}
use Rattle.std.specs.List.{list_any}
use Rattle.chip_ledger.specs.SeatRow.{amount_of}
use Rattle.hand_canon.specs.Agreement.{pot_total_of}
use Rattle.hand_canon.specs.AllowedNotes.{name_written}
use Rattle.hand_canon.specs.declared.trace.Play.{Play}
use Rattle.printed_hands.specs.Names.{with_name}
use Rattle.play_event.specs.Code.{code_text}
use Rattle.play_event.specs.Seats.{all_seats}
use Rattle.play_event.specs.Games.{all_games}
use Rattle.printed_hands.specs.Columns.{left_in, right_in}

-- a seat of a hand: the name of its player, and the chips that it started and finished with
pub record Seated : Type 0 where
  pub name : List ℕ
  pub started : ℕ
  pub finished : ℕ

-- what a report uses of a hand: the code of its game, the chips of its pots together, and its seats
-- from p1 upward
pub record Hand : Type 0 where
  pub game : List ℕ
  pub pots : ℕ
  pub seats : List Seated

-- a seat of a play
abbrev pub seated_in : Play → ℕ → Seated
seated_in play seat =
    record {
      name = name_written play.hand.notes seat;
      started = amount_of play.trace.setup.stacks seat;
      finished = amount_of play.trace.finish seat;
    }

-- what a report uses of a play; its pots are those before rakes
abbrev pub hand_of : Play → Hand
hand_of play =
    record {
      game = code_text play.trace.setup.code;
      pots = pot_total_of play.trace;
      seats = map (seated_in play) (all_seats play.trace.setup);
    }

-- the line of some hands: its title, their number, and their pots together
abbrev pub hands_line : List ℕ → List Hand → List ℕ
hands_line title hands =
    left_in 6 title
    ++ (right_in 8 (decimal (length hands))
    ++ (right_in 20 (decimal (sum_by (λ hand. hand.pots) hands)) ++ codes "\n"))

-- the line of some hands, if there are any
abbrev pub line_if_any : List ℕ → List Hand → List ℕ
line_if_any title [] = []
line_if_any title (hand ∷ hands) = hands_line title (hand ∷ hands)

-- the line of a game, if it was played
abbrev pub game_line : List Hand → List ℕ → List ℕ
game_line hands game = line_if_any game (filter (λ hand. bytes_eq game hand.game) hands)

-- the codes of the eleven games, in the order of their table
abbrev pub game_codes : List (List ℕ)
game_codes = map code_text all_games

-- the seats of all hands, from the first hand on and from p1 upward
abbrev pub seats_of_all : List Hand → List Seated
seats_of_all hands = flat_map (λ hand. hand.seats) hands

-- the names of all seats in the order in which they are first seen, each once
abbrev pub names_of : List Hand → List (List ℕ)
names_of hands = fold with_name [] (map (λ seat. seat.name) (seats_of_all hands))

-- the seats of all hands that have this name
abbrev pub seats_named : List Hand → List ℕ → List Seated
seats_named hands name = filter (λ seat. bytes_eq name seat.name) (seats_of_all hands)

-- the net chips of a name: what its seats finished with together, minus what they started with
abbrev pub net_of : List Hand → List ℕ → ℤ
net_of hands name =
    pos (sum_by (λ seat. seat.finished) (seats_named hands name))
    -ℤ pos (sum_by (λ seat. seat.started) (seats_named hands name))

-- the number of hands with a seat of this name
abbrev pub hands_with : List Hand → List ℕ → ℕ
hands_with hands name =
    count_by (λ hand. list_any (λ seat. bytes_eq name seat.name) hand.seats) hands

-- the line of a name with these net chips and this number of hands
abbrev pub name_line : ℤ → ℕ → List ℕ → List ℕ
name_line net hands name =
    right_in 20 (signed_decimal net)
    ++ (right_in 8 (decimal hands) ++ (codes "  " ++ (name ++ codes "\n")))

-- the report on hands
abbrev pub report_on : List Hand → List ℕ
report_on hands =
    flat_map (game_line hands) game_codes
    ++ (hands_line (codes "total") hands
    ++ flat_map (λ name. name_line (net_of hands name) (hands_with hands name) name)
    (names_of hands))

-- the report on plays
abbrev pub report_said : List Play → List ℕ
report_said plays = report_on (map hand_of plays)
