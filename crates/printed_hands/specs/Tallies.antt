-- What is tallied for each name, hand after hand and seat after seat.
use Rattle.std.specs.Prelude.{◌≡◌, ℕ, ◌+◌, ◌*◌, ◌≤◌, ◌==◌, List, [], ◌∷◌, fold, map, bytes_eq, nat_eq, unwrap_or, if◌then◌else◌, pos, ◌-ℤ◌}
use Rattle.std.specs.Map.{lookup}
use Rattle.std.specs.Option.{option_map_or}
use Rattle.indexmap.specs.IndexMap.{insert_entry}
use Rattle.chip_ledger.specs.declared.seat_row.TheConstants.{MOST_AMOUNT}
use Rattle.printed_hands.specs.Indexed.{AreIndexed}
use Rattle.printed_hands.specs.declared.index.NameIndex.{NameIndex}
use Rattle.printed_hands.specs.declared.tally.NamedTally.{NamedTally}
use Rattle.printed_hands.specs.declared.tally.Tally.{Tally}
use Rattle.printed_hands.specs.Report.{Hand, Seated, name_line}

-- the tally of a name that was not seen yet
abbrev pub no_tally : Tally
no_tally = record { started = 0; finished = 0; hands = 0; last = 0 }

-- a tally with one more seat, in the hand with this number
abbrev pub with_seat : ℕ → Tally → Seated → Tally
with_seat number tally seat =
    record {
      started = tally.started + seat.started;
      finished = tally.finished + seat.finished;
      hands = if tally.last == number then tally.hands else tally.hands + 1;
      last = number;
    }

-- the names of a map's entries, each with its tally
abbrev pub named_tallies : List (ℕ × NamedTally) → List (List ℕ × Tally)
named_tallies entries = map (λ entry. (entry.1.name, entry.1.tally)) entries

-- the entries have consecutive numbers as keys, from this one on
abbrev pub AreNumbered : ℕ → List (ℕ × NamedTally) → Type 0
AreNumbered first [] = Unit {0}
AreNumbered first (entry ∷ rest) = (entry.0 ≡ first) × AreNumbered (first + 1) rest

-- the names of rows
abbrev pub tally_names : List (List ℕ × Tally) → List (List ℕ)
tally_names rows = map (λ row. row.0) rows

-- an index finds the names of the rows of some entries, and each entry has the place of its name as
-- its key
pub record AreTallied (index : NameIndex) (entries : List (ℕ × NamedTally)) : Type 0 where
  pub names : AreIndexed index (tally_names (named_tallies entries))
  pub places : AreNumbered 0 entries

-- the tally at a place, or an empty one if there is none
abbrev pub tally_under : List (ℕ × NamedTally) → ℕ → Tally
tally_under entries place =
    option_map_or (λ named. named.tally) (lookup (nat_eq place) entries) no_tally

-- the tally of a name
abbrev pub tally_at : List (List ℕ × Tally) → List ℕ → Tally
tally_at rows name = unwrap_or (lookup (bytes_eq name) rows) no_tally

-- rows with one more seat
abbrev pub with_play : ℕ → List (List ℕ × Tally) → Seated → List (List ℕ × Tally)
with_play number rows seat =
    insert_entry bytes_eq rows seat.name (with_seat number (tally_at rows seat.name) seat)

-- rows with the seats of one more hand
abbrev pub with_seats : ℕ → List (List ℕ × Tally) → List Seated → List (List ℕ × Tally)
with_seats number rows seats = fold (with_play number) rows seats

-- rows with the seats of more hands; the first has this number
abbrev pub with_hands : ℕ → List (List ℕ × Tally) → List Hand → List (List ℕ × Tally)
with_hands number rows [] = rows
with_hands number rows (hand ∷ hands) =
    with_hands (number + 1) (with_seats number rows hand.seats) hands

-- the most seats of all hands: ten in each of 65,536 hands
abbrev pub MOST_SEATS : ℕ
MOST_SEATS = 655360

-- a tally is of at most this many seats
pub record IsWithin (seats : ℕ) (tally : Tally) : Type 0 where
  pub started : tally.started ≤ seats * MOST_AMOUNT
  pub finished : tally.finished ≤ seats * MOST_AMOUNT
  pub hands : tally.hands ≤ seats

-- all tallies are
abbrev pub AreWithin : ℕ → List (List ℕ × Tally) → Type 0
AreWithin seats rows = (name : List ℕ) → IsWithin seats (tally_at rows name)

-- the tally of a row is of no more seats than all hands have
abbrev pub IsRowWithin : (List ℕ × Tally) → Type 0
IsRowWithin row = IsWithin MOST_SEATS row.1

-- the line of a row
abbrev pub named_tally_line : (List ℕ × Tally) → List ℕ
named_tally_line row = name_line (pos row.1.finished -ℤ pos row.1.started) row.1.hands row.0

-- the line of a name
abbrev pub tally_line : List (List ℕ × Tally) → List ℕ → List ℕ
tally_line rows name = named_tally_line (name, tally_at rows name)
