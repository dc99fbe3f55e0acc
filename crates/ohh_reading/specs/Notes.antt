-- The notes of a hand, read in this order. A note that equals its default counts as none.
use Rattle.std.specs.Prelude.{ℕ, ◌+◌, ◌==◌, if◌then◌else◌, List, [], ◌∷◌, codes, length, map, Option, Some, None, option_map, option_and_then, Result, Ok}
use Rattle.std.specs.Fmt.{decimal, signed_decimal}
use Rattle.serde_json.specs.Data.{Data, string}
use Rattle.first_fault.specs.declared.limits.Quantity.TheVariants as quantities
use Rattle.hand_canon.specs.AllowedNotes.{noted, noted_or, non_default_seats}
use Rattle.hand_canon.specs.SaidNotes.{SaidNotes}
use Rattle.first_fault.specs.Reading.{◌>>=◌, read_if, or_none}
use Rattle.ohh_members.specs.declared.fault.MemberFaultKind.TheVariants as whats
use Rattle.ohh_members.specs.declared.fault.Path.{Path}
use Rattle.ohh_members.specs.declared.fault.Path.TheVariants as paths
use Rattle.ohh_members.specs.declared.fault.MemberFault.{MemberFault}
use Rattle.ohh_reading.specs.declared.labels.Labels.{Labels}
use Rattle.ohh_reading.specs.Moments.{moment_said}
use Rattle.ohh_members.specs.Players.{PlainPlayer}
use Rattle.ohh_members.specs.Values.{integer_said, member_at, number_said, text_said}
use Rattle.chip_ledger.specs.SeatsSaid.{default_name}

-- the text of a note with this default; it is of at most 255 bytes
unfoldable pub note_said : List ℕ → Path → List ℕ → Result (Option (List ℕ)) MemberFault
note_said default path text =
    noted_or (record { what = whats.TooMany quantities.TextBytes; path = path }) default text

-- a text with this default
unfoldable pub text_note_said : List ℕ → Path → Data → Result (Option (List ℕ)) MemberFault
text_note_said default path value = text_said path value >>= note_said default path

-- a text with this default; a whole number counts as its decimal text
unfoldable pub label_said : List ℕ → Path → Data → Result (Option (List ℕ)) MemberFault
label_said default path (string text) = note_said default path text
label_said default path value =
    integer_said path value >>= λ number. note_said default path (signed_decimal number)

-- the number of seats of the table of a hand with this number of seats
unfoldable pub seat_count_said : ℕ → Data → Result (Option ℕ) MemberFault
seat_count_said count value =
    number_said 1 255 paths.TableSize value
    >>= λ number. Ok (if number == count then None else Some number)

-- the labels of a hand with this number of seats, at this place of its file, from 0
unfoldable pub labels_said : ℕ → ℕ → Data → Result Labels MemberFault
labels_said place count ohh = do
  hand ← or_none (label_said (decimal place) paths.GameNumber) (member_at paths.GameNumber ohh)
  table ← or_none (text_note_said [] paths.TableName) (member_at paths.TableName ohh)
  seat_count ← or_none (seat_count_said count) (member_at paths.TableSize ohh)
  moment ← read_if moment_said (member_at paths.StartDate ohh)
  currency ← or_none (text_note_said [] paths.Currency) (member_at paths.Currency ohh)
  venue ← or_none (text_note_said [] paths.SiteName) (member_at paths.SiteName ohh)
  Ok
      (record {
        hand = hand;
        texts = record { table = table; venue = venue; currency = currency };
        seat_count = seat_count;
        moment = moment;
      })

-- the names of players; the first of them has this seat in the hand
abbrev pub names_from : ℕ → List PlainPlayer → List (Option (List ℕ))
names_from seat [] = []
names_from seat (player ∷ rest) =
    option_and_then (noted (default_name seat)) player.name ∷ names_from (seat + 1) rest

-- the notes made of players and labels; a moment is in universal time
abbrev pub notes_of : List PlainPlayer → Labels → SaidNotes
notes_of players labels =
    record {
      names = names_from 1 players;
      seats = non_default_seats (length players) (map (λ player. player.seat) players);
      seat_count = labels.seat_count;
      hand = labels.hand;
      texts = labels.texts;
      year = option_map (λ moment. moment.day.year) labels.moment;
      month = option_map (λ moment. moment.day.month) labels.moment;
      day = option_map (λ moment. moment.day.day) labels.moment;
      time = option_map (λ moment. moment.time) labels.moment;
      zone = option_map (λ moment. codes "UTC") labels.moment;
    }

-- the notes
unfoldable pub notes_said : ℕ → List PlainPlayer → Data → Result SaidNotes MemberFault
notes_said place players ohh =
    labels_said place (length players) ohh >>= λ labels. Ok (notes_of players labels)
