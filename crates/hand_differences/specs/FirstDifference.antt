-- The first difference of two plays: in their setups, then in their moves, their cards, who was
-- shown, and their notes.
use Rattle.std.specs.Prelude.{ℕ, Bool, not, ◌&&◌, ◌==◌, if◌then◌else◌, List, [], ◌∷◌, bytes_eq, find, Option, Some, None, option_and_then, option_map}
use Rattle.std.specs.Option.{option_or}
use Rattle.chip_ledger.specs.LiveRow.{flag_of}
use Rattle.chip_ledger.specs.Seat.{seats_of}
use Rattle.chip_ledger.specs.SeatRow.{amounts_in}
use Rattle.chip_ledger.specs.declared.live_row.LiveRow.{LiveRow}
use Rattle.hand_canon.specs.NoteTable.{note_names, text_named}
use Rattle.hand_canon.specs.SaidNotes.{SaidNotes, notes_of}
use Rattle.hand_canon.specs.declared.notes.NoteName.{NoteName}
use Rattle.hand_canon.specs.declared.notes.NoteName.TheVariants as names
use Rattle.hand_canon.specs.declared.trace.Play.{Play}
use Rattle.play_event.specs.Code.{code_text}
use Rattle.play_event.specs.declared.played.Move as moves
use Rattle.play_event.specs.declared.played.Place as places
use Rattle.play_event.specs.declared.setup.Setup.{Setup}
use Rattle.hand_differences.specs.FirstNumbers.{first_other_number, entry_at}
use Rattle.hand_differences.specs.SameParts.{is_same_test, is_same_option, are_same_entries, is_same_number, is_same_text, is_same_clock, is_same_move, is_same_place, owner_of}
use Rattle.hand_differences.specs.declared.difference.Difference as rows
use Rattle.hand_differences.specs.declared.difference.Difference.TheVariants as differences

-- The first difference, with plain numbers for seats. Moves, cards, streets and seats are counted
-- from 1; a card of the board has no owner.
pub data PlainDifference : Type 0 where
  Variant : PlainDifference
  SeatCount : PlainDifference
  Stacks : PlainDifference
  BetSizes : PlainDifference
  Antes : PlainDifference
  Blinds : PlainDifference
  Rake : PlainDifference
  Move : (number street seat : ℕ) → PlainDifference
  Card : (number street : ℕ) → (owner : Option ℕ) → PlainDifference
  Shown : (seat : ℕ) → PlainDifference
  Note : NoteName → PlainDifference

-- what a difference says
abbrev pub difference_said : rows.Difference → PlainDifference
difference_said differences.Variant = Variant
difference_said differences.SeatCount = SeatCount
difference_said differences.Stacks = Stacks
difference_said differences.BetSizes = BetSizes
difference_said differences.Antes = Antes
difference_said differences.Blinds = Blinds
difference_said differences.Rake = Rake
difference_said (differences.Move number street seat) = Move number street seat.number
difference_said (differences.Card number street owner) =
    Card number street (option_map (λ seat. seat.number) owner)
difference_said (differences.Shown seat) = Shown seat.number
difference_said (differences.Note name) = Note name

-- one of the bet sizes differs: the bring-in, the small bet, the big bet or the minimum bet
abbrev pub has_other_sizes : Setup → Setup → Bool
has_other_sizes setup other =
    not ((setup.bring_in == other.bring_in) && (setup.small_bet == other.small_bet)
    && (setup.big_bet == other.big_bet) && (setup.min_bet == other.min_bet))

-- the antes differ: one of the amounts, or whether they are dead
abbrev pub has_other_antes : Setup → Setup → Bool
has_other_antes setup other =
    not (bytes_eq (amounts_in setup.antes) (amounts_in other.antes)
    && is_same_test setup.dead_antes other.dead_antes)

-- what may differ in two setups, in the order in which it is reported
abbrev pub setup_rows : Setup → Setup → List (Bool × PlainDifference)
setup_rows setup other =
    (not (bytes_eq (code_text setup.code) (code_text other.code)), Variant)
    ∷ (not (setup.stacks.seats == other.stacks.seats), SeatCount)
    ∷ (not (bytes_eq (amounts_in setup.stacks) (amounts_in other.stacks)), Stacks)
    ∷ (has_other_sizes setup other, BetSizes)
    ∷ (has_other_antes setup other, Antes)
    ∷ (not (bytes_eq (amounts_in setup.blinds) (amounts_in other.blinds)), Blinds)
    ∷ (not (bytes_eq setup.rakes.rakes other.rakes.rakes), Rake)
    ∷ []

-- the first row that holds, if one does
abbrev pub first_holding : List (Bool × PlainDifference) → Option PlainDifference
first_holding [] = None
first_holding (row ∷ rest) = if row.0 then Some row.1 else first_holding rest

-- what is reported of the move with this number, from 1
abbrev pub move_reported : ℕ → moves.Move → PlainDifference
move_reported number move = Move number move.street move.seat.number

-- the first move that differs
abbrev pub move_difference : List moves.Move → List moves.Move → Option PlainDifference
move_difference played others =
    option_and_then
    (λ number. option_map (move_reported number) (entry_at played others number))
    (first_other_number is_same_move played others)

-- what is reported of the dealt card with this number, from 1
abbrev pub card_reported : ℕ → places.Place → PlainDifference
card_reported number place = Card number place.street (owner_of place)

-- the first dealt card that differs
abbrev pub card_difference : List places.Place → List places.Place → Option PlainDifference
card_difference dealt others =
    option_and_then
    (λ number. option_map (card_reported number) (entry_at dealt others number))
    (first_other_number is_same_place dealt others)

-- the lowest seat that is shown in only one of two hands
abbrev pub shown_difference : LiveRow → LiveRow → Option PlainDifference
shown_difference shown others =
    option_map Shown
    (find (λ seat. not (is_same_test (flag_of shown seat) (flag_of others seat)))
    (seats_of shown.seats))

-- a note is the same in both; one that equals its default counts as missing
abbrev pub agree_on_note : SaidNotes → SaidNotes → NoteName → Bool
agree_on_note notes other names.Players = are_same_entries is_same_text notes.names other.names
agree_on_note notes other names.Seats = is_same_text notes.seats other.seats
agree_on_note notes other names.SeatCount = is_same_number notes.seat_count other.seat_count
agree_on_note notes other names.Hand = is_same_text notes.hand other.hand
agree_on_note notes other names.TimeZone = is_same_text notes.zone other.zone
agree_on_note notes other names.Year = is_same_number notes.year other.year
agree_on_note notes other names.Month = is_same_number notes.month other.month
agree_on_note notes other names.Day = is_same_number notes.day other.day
agree_on_note notes other names.Time = is_same_option is_same_clock notes.time other.time
agree_on_note notes other name =
    is_same_text (text_named notes.texts name) (text_named other.texts name)

-- the first note that differs
abbrev pub note_difference : SaidNotes → SaidNotes → Option PlainDifference
note_difference notes other =
    option_map Note (find (λ name. not (agree_on_note notes other name)) note_names)

-- what differs in two hands, leaving their notes aside
abbrev pub play_difference : Play → Play → Option PlainDifference
play_difference play other =
    option_or (first_holding (setup_rows play.trace.setup other.trace.setup))
    (option_or (move_difference play.trace.moves other.trace.moves)
    (option_or (card_difference play.trace.places other.trace.places)
    (shown_difference play.trace.shown other.trace.shown)))

-- The first difference of two plays, each at this place of its file, from 0. Notes are compared
-- only if `notes` is set.
unfoldable pub reported_difference : (notes : Bool) → ℕ → Play → Play → Option PlainDifference
reported_difference notes place play other =
    option_or (play_difference play other)
    (if notes then note_difference (notes_of place play) (notes_of place other) else None)
