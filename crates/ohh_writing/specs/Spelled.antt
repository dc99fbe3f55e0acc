-- Which facts of a play the format can write, in the order in which they are checked, and the first
-- play with one that it cannot.
use Rattle.std.specs.Prelude.{ℕ, ◌*◌, ◌-◌, ◌==◌, ◌&&◌, ◌||◌, Bool, min, nat_lt, nat_le, not, if◌then◌else◌, List, [], ◌∷◌, map, Option, Some, None, is_some, is_none}
use Rattle.std.specs.List.{list_all, list_any}
use Rattle.chip_ledger.specs.Greatest.{greatest}
use Rattle.chip_ledger.specs.SeatRow.{amount_of}
use Rattle.play_event.specs.declared.setup.Setup.{Setup}
use Rattle.play_event.specs.Seats.{all_seats}
use Rattle.play_event.specs.Streets.{limit_of}
use Rattle.play_event.specs.ValidSetup.{is_fixed_limit}
use Rattle.hand_canon.specs.declared.notes.NoteName.TheVariants as names
use Rattle.hand_canon.specs.declared.notes.Notes.{Notes}
use Rattle.hand_canon.specs.declared.trace.Play.{Play}
use Rattle.hand_canon.specs.declared.trace.Trace.{Trace}
use Rattle.hand_canon.specs.declared.writing.Keep.{Keep}
use Rattle.hand_canon.specs.declared.writing.Keep.TheVariants as keeps
use Rattle.hand_canon.specs.declared.writing.Unspelled.{Unspelled}
use Rattle.hand_canon.specs.declared.writing.Unspelled.TheVariants as facts
use Rattle.ohh_writing.specs.Actions.{seat_of_big_blind}
use Rattle.ohh_writing.specs.Games.{is_spelled_game}
use Rattle.ohh_writing.specs.Moment.{moment_of}
use Rattle.ohh_writing.specs.Seating.{numbers_spelled}
use Rattle.hand_canon.specs.WriteRefusals.{or_behind}

-- ---- the setup

-- the big blind, as it is named
abbrev pub big_blind : Setup → ℕ
big_blind setup = amount_of setup.blinds (seat_of_big_blind setup)

-- in fixed limit the bets are the big blind and twice the big blind, and in the other limits the
-- least bet is the big blind
abbrev pub has_spelled_sizes : Setup → Bool
has_spelled_sizes setup =
    if is_fixed_limit (limit_of setup.code)
    then (setup.small_bet == big_blind setup) && (setup.big_bet == 2 * big_blind setup)
    else setup.min_bet == big_blind setup

-- the greatest ante
abbrev pub greatest_ante : Setup → ℕ
greatest_ante setup = greatest (map (amount_of setup.antes) (all_seats setup))

-- a seat posts the greatest ante, or its whole stack if that is less
abbrev pub is_whole_ante : Setup → ℕ → Bool
is_whole_ante setup seat =
    amount_of setup.antes seat == min (amount_of setup.stacks seat) (greatest_ante setup)

-- a seat posts no ante
abbrev pub has_no_ante : Setup → ℕ → Bool
has_no_ante setup seat = amount_of setup.antes seat == 0

-- Antes that are not dead are those of all seats: each posts the greatest ante, or all of a smaller
-- stack; if there are none, the greatest is 0. Dead antes are not those of all: some seat posts
-- none.
abbrev pub has_spelled_antes : Setup → Bool
has_spelled_antes setup =
    if setup.dead_antes
    then list_any (has_no_ante setup) (all_seats setup)
    else list_all (is_whole_ante setup) (all_seats setup)

-- a straddle is no more than the stack without the ante
abbrev pub is_covered_straddle : Setup → ℕ → Bool
is_covered_straddle setup seat =
    nat_le seat 2
    || nat_le (amount_of setup.blinds seat)
    (amount_of setup.stacks seat - amount_of setup.antes seat)

-- with three or more seats, the first has no more than the big blind, and the straddles of the
-- seats after the second are within their stacks
abbrev pub has_spelled_straddles : Setup → Bool
has_spelled_straddles setup =
    nat_le (amount_of setup.blinds 1) (amount_of setup.blinds 2)
    && list_all (is_covered_straddle setup) (all_seats setup)

-- the first two seats have blinds
abbrev pub has_two_blinds : Setup → Bool
has_two_blinds setup = nat_lt 0 (amount_of setup.blinds 1) && nat_lt 0 (amount_of setup.blinds 2)

-- the blinds can be written
abbrev pub has_spelled_blinds : Setup → Bool
has_spelled_blinds setup =
    has_two_blinds setup && (setup.stacks.seats == 2 || has_spelled_straddles setup)

-- ---- facts in order

-- facts, each with whether it can be written
abbrev pub Tried : Type 0
Tried = List (Bool × Unspelled)

-- the first of them that cannot be written
abbrev pub first_unspelled : Tried → Option Unspelled
first_unspelled [] = None
first_unspelled (fact ∷ rest) = if fact.0 then first_unspelled rest else Some fact.1

-- some raise needs rules under which every raise reopens the betting
abbrev pub has_closed : Trace → Bool
has_closed trace = list_any (λ move. move.closed) trace.moves

-- the facts of a trace
abbrev pub trace_facts : Trace → Tried
trace_facts trace =
    (is_spelled_game trace.setup.code, facts.Variant)
    ∷ (has_spelled_sizes trace.setup, facts.BetSizes)
    ∷ (has_spelled_antes trace.setup, facts.Antes)
    ∷ (has_spelled_blinds trace.setup, facts.Blinds)
    ∷ (not (has_closed trace), facts.ReopenedShort)
    ∷ []

-- a note of the date can be written: it is missing, or the whole moment can be written
abbrev pub is_spelled_date : {A : Type 0} → Notes → Option A → Bool
is_spelled_date notes said = is_none said || is_some (moment_of notes)

-- the numbers of the seats can be written: they are missing, or go round
abbrev pub has_spelled_numbers : ℕ → Notes → Bool
has_spelled_numbers count notes = is_none notes.seats || is_some (numbers_spelled count notes.seats)

-- the notes of a hand with this many seats that cannot always be written; names, texts and the
-- number of seats always can
abbrev pub note_facts : ℕ → Notes → Tried
note_facts count notes =
    (has_spelled_numbers count notes, facts.Note names.Seats)
    ∷ (is_spelled_date notes notes.zone, facts.Note names.TimeZone)
    ∷ (is_spelled_date notes notes.year, facts.Note names.Year)
    ∷ (is_spelled_date notes notes.month, facts.Note names.Month)
    ∷ (is_spelled_date notes notes.day, facts.Note names.Day)
    ∷ (is_spelled_date notes notes.time, facts.Note names.Time)
    ∷ []

-- the notes that are to be kept if all of them are; if only those that can be written are kept,
-- none of them fails
abbrev pub kept_facts : Keep → Play → Tried
kept_facts keeps.All play = note_facts play.trace.setup.stacks.seats play.hand.notes
kept_facts keeps.Spelled play = []

-- the first fact of a play that cannot be written: one of the trace, or else one of the notes that
-- are to be kept
unfoldable pub unspelled : Keep → Play → Option Unspelled
unspelled keep play =
    or_behind (first_unspelled (trace_facts play.trace)) (first_unspelled (kept_facts keep play))

-- ---- plays in order
