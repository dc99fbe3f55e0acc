-- The fields of a hand that is written, each with its key, in the order in which they are read.
use Rattle.std.specs.Prelude.{ℕ, Bool, ◌&&◌, ◌||◌, ◌==◌, not, nat_lt, min, max, bytes_eq, if◌then◌else◌, pos, List, [], ◌∷◌, ◌++◌, length, map, take, codes, slice_index, Option, Some, None, option_map, unwrap_or, is_some}
use Rattle.std.specs.Fmt.{decimal}
use Rattle.std.specs.List.{list_any, range_with_len}
use Rattle.toml.specs.Data.{Data, string, integer, boolean, datetime, array}
use Rattle.toml.specs.View.{items_of}
use Rattle.chip_ledger.specs.declared.rakes.RakeRow.{RakeRow}
use Rattle.first_fault.specs.Digits.{are_digits, number_of}
use Rattle.play_event.specs.Code.{code_text}
use Rattle.play_event.specs.Said.{Said}
use Rattle.play_event.specs.Streets.{limit_of, is_stud_game}
use Rattle.play_event.specs.ValidSetup.{is_fixed_limit}
use Rattle.play_event.specs.declared.setup.Setup.{Setup}
use Rattle.hand_canon.specs.declared.notes.Clock.{Clock}
use Rattle.hand_canon.specs.declared.notes.Notes.{Notes}
use Rattle.hand_canon.specs.declared.trace.Play.{Play}
use Rattle.hand_canon.specs.declared.trace.Trace.{Trace}
use Rattle.hand_canon.specs.AllowedNotes.{name_written}
use Rattle.play_event.specs.CanonScript.{canonical_script}
use Rattle.hand_canon.specs.TraceRows.{core_said}
use Rattle.phh_actions.specs.Written.{event_text}
use Rattle.phh_format.specs.Members.{Field}
use Rattle.chip_ledger.specs.SeatRow.{amounts_in}

-- whole numbers as a list of a document
abbrev pub numbers : List ℕ → Data
numbers all = array (items_of (map (λ number. integer (pos number)) all))

-- texts as a list of a document
abbrev pub texts : List (List ℕ) → Data
texts all = array (items_of (map string all))

-- with two blinds the smaller is written first
abbrev pub blinds_written : List ℕ → List ℕ
blinds_written (first ∷ second ∷ []) = min first second ∷ max first second ∷ []
blinds_written blinds = blinds

-- the blinds, in a game that has blinds
abbrev pub blinds_field : Setup → Option Data
blinds_field setup =
    if is_stud_game setup.code
    then None
    else Some (numbers (blinds_written (amounts_in setup.blinds)))

-- a bet size, if the game uses it
abbrev pub size_field : Bool → ℕ → Option Data
size_field used size = if used then Some (integer (pos size)) else None

-- the setup: stud has a bring-in, fixed limit two bets, and the other limits a least bet
abbrev pub setup_fields : Setup → List Field
setup_fields setup =
    (codes "variant", Some (string (code_text setup.code)))
    ∷ (codes "ante_trimming_status", Some (boolean (not setup.dead_antes)))
    ∷ (codes "antes", Some (numbers (amounts_in setup.antes)))
    ∷ (codes "blinds_or_straddles", blinds_field setup)
    ∷ (codes "bring_in", size_field (is_stud_game setup.code) setup.bring_in)
    ∷ (codes "small_bet", size_field (is_fixed_limit (limit_of setup.code)) setup.small_bet)
    ∷ (codes "big_bet", size_field (is_fixed_limit (limit_of setup.code)) setup.big_bet)
    ∷ (codes "min_bet", size_field (not (is_fixed_limit (limit_of setup.code))) setup.min_bet)
    ∷ (codes "starting_stacks", Some (numbers (amounts_in setup.stacks)))
    ∷ []

-- the canonical script of a trace
abbrev pub script_of : Trace → List Said
script_of trace = canonical_script trace.setup (core_said trace)

-- the rakes of this many pots, if one of them is above 0
abbrev pub rakes_field : ℕ → RakeRow → Option Data
rakes_field pots row =
    if list_any (nat_lt 0) (take pots row.rakes) then Some (numbers (take pots row.rakes)) else None

-- what was played, and its result
abbrev pub trace_fields : Trace → List Field
trace_fields trace =
    (codes "actions", Some (texts (map event_text (script_of trace))))
    ∷ (codes "finishing_stacks", Some (numbers (amounts_in trace.finish)))
    ∷ (codes "_rakes", rakes_field trace.pots.count trace.setup.rakes)
    ∷ []

-- the names of this many players, if one is noted
abbrev pub names_field : ℕ → Notes → Option Data
names_field count notes =
    if list_any is_some (take count notes.names)
    then Some (texts (map (name_written notes) (range_with_len 1 count)))
    else None

-- the number that a text is: a decimal number without leading zeros, of at most eighteen digits
unfoldable pub number_written : List ℕ → Option ℕ
number_written text =
    if are_digits text && (not (slice_index text 0 == 48) || (length text == 1))
    then number_of 999999999999999999 text
    else None

-- a text that is a number is written as that number
abbrev pub label : List ℕ → Data
label text =
    unwrap_or (option_map (λ number. integer (pos number)) (number_written text)) (string text)

-- the name of a hand at this place of its file, from 0; its default is that place
abbrev pub hand_field : ℕ → Option (List ℕ) → Option Data
hand_field place None = None
hand_field place (Some name) = if bytes_eq name (decimal place) then None else Some (label name)

-- the fraction of a second, if it is not 0
abbrev pub fraction : ℕ → Option ℕ
fraction nano = if nano == 0 then None else Some nano

-- a time of a day
abbrev pub local_time : Clock → Data
local_time clock =
    datetime (record {
      date = None;
      time =
          Some
          (record {
            hour = clock.hour;
            minute = clock.minute;
            second = Some clock.second;
            nanosecond = fraction clock.nano;
          });
      offset = None;
    })

-- a number, if it is noted
abbrev pub number_field : Option ℕ → Option Data
number_field said = option_map (λ number. integer (pos number)) said

-- the notes of a hand with this number of seats, at a place of the file
abbrev pub note_fields : ℕ → ℕ → Notes → List Field
note_fields place count notes =
    (codes "players", names_field count notes)
    ∷ (codes "seats", option_map (λ said. numbers (take count said)) notes.seats)
    ∷ (codes "seat_count", number_field notes.seat_count)
    ∷ (codes "hand", hand_field place notes.hand)
    ∷ (codes "table", option_map label notes.table)
    ∷ (codes "venue", option_map string notes.venue)
    ∷ (codes "currency", option_map string notes.currency)
    ∷ (codes "year", number_field notes.year)
    ∷ (codes "month", number_field notes.month)
    ∷ (codes "day", number_field notes.day)
    ∷ (codes "time", option_map local_time notes.time)
    ∷ (codes "time_zone", option_map string notes.zone)
    ∷ []

-- the fields of the hand at this place of its file, from 0
abbrev pub hand_fields : ℕ → Play → List Field
hand_fields place play =
    setup_fields play.trace.setup
    ++ (trace_fields play.trace
    ++ note_fields place play.trace.setup.stacks.seats play.hand.notes)
