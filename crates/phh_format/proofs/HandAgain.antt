-- A hand that was written reads back as that hand.
use Rattle.std.proofs.Common.{◌≡◌, ℕ, ◌+◌, ◌-◌, ◌≤◌, ◌<◌, Bool, true, false, nat_lt, cond, List, length, map, take, replicate, get_or, pos, Option, Some, None, option_map, Result, Ok, refl, sym, ap, subst, ◌∙◌, arith, inl, inr}
use Rattle.std.specs.List.{list_any}
use Rattle.std.proofs.lemmas.Bool.{cases_lt, le-leb}
use Rattle.std.proofs.lemmas.List.{length-map, length-take-le}
use Rattle.toml.specs.Data.{Data, string, integer, Members}
use Rattle.chip_ledger.specs.declared.seat_row.TheConstants.{MOST_AMOUNT}
use Rattle.play_event.specs.declared.setup.Setup.{Setup}
use Rattle.first_fault.specs.Reading.{◌>>=◌, read_if}
use Rattle.hand_canon.specs.declared.trace.Play.{Play}
use Rattle.phh_actions.specs.Written.{event_text}
use Rattle.phh_reading.specs.declared.field_fault.FieldFault.{FieldFault}
use Rattle.phh_reading.specs.declared.field_fault.FieldKey.{FieldKey}
use Rattle.phh_reading.specs.declared.field_fault.FieldKey.TheVariants as keys
use Rattle.phh_reading.specs.Fields.{field_value, key_place, key_text, list_said, required_value}
use Rattle.phh_reading.specs.Rows.{rakes_from, rakes_said, row_said}
use Rattle.phh_reading.specs.NoteFields.{PlainSeating, day_said, labels_said, notes_said, seating_said}
use Rattle.phh_reading.specs.Events.{counts_after}
use Rattle.phh_reading.specs.Hand.{hand_said, rakes_at}
use Rattle.phh_format.specs.Document.{hand_table}
use Rattle.phh_format.specs.HandFields.{hand_field, hand_fields, label, local_time, names_field, number_field, numbers, rakes_field, script_of}
use Rattle.phh_format.proofs.Puts.{field_at}
use Rattle.phh_reading.proofs.Zeros.{with_zeros}
use Rattle.phh_format.proofs.Readable.{IsReadable}
use Rattle.phh_format.specs.Again.{hand_again}
use Rattle.phh_format.proofs.RowsAgain.{amount_count, amounts_again, each_amount, list_again, listed_again, number_data, row_again}
use Rattle.phh_format.proofs.SetupAgain.{at, field_alone, setup_again}
use Rattle.phh_format.proofs.NotesAgain.{calendar_again, name_again, said_again, table_again, text_note_again, time_again}
use Rattle.phh_format.proofs.SeatingAgain.{names_again, seat_count_again, seats_again}
use Rattle.phh_format.proofs.EventsAgain.{HaveRoom, counts_with, events_again}
use Rattle.card_set.proofs.Entries.{cut_zeros, each_taken}
use Rattle.card_set.proofs.Any.{zero_from_none_taken}
use Rattle.chip_ledger.specs.SeatRow.{amounts_in}
use Rattle.hand_canon.specs.NoteTable.{texts_of}
use Rattle.hand_canon.specs.SaidNotes.{SaidNotes, hand_name_noted, said_notes}
use Rattle.hand_canon.specs.AllowedNotes.{IsWithin}

all_zero : (all : List ℕ) → length all ≡ 11 → ((k : ℕ) → get_or all k 0 ≡ 0) → all ≡ replicate 11 0
all_zero all eleven none =
    let left : length all - 0 ≡ 11 = omega (arith, eleven) in
    cut_zeros all 0 (omega arith) (λ k _. none k) ∙ ap (λ (n : ℕ). replicate n 0) left

-- who sits where, according to the notes
abbrev seating_of : SaidNotes → PlainSeating
seating_of notes = record { names = notes.names; seats = notes.seats; seat_count = notes.seat_count }

-- the rakes that are given, or none
abbrev rakes_found : Option Data → Result (List ℕ) FieldFault
rakes_found (Some value) = rakes_said value
rakes_found None = Ok (replicate 11 0)

module _ (place : ℕ) (play : Play) (is : IsReadable play) where
  abbrev setup : Setup
  setup = play.trace.setup

  abbrev seats : ℕ
  seats = setup.stacks.seats

  abbrev members : Members
  members = hand_table place play

  here : (key : FieldKey) → field_value key members ≡ field_at (key_text key) (hand_fields place play)
  here key = at place play is.valid key

  few : seats ≤ 10
  few = setup.stacks.greatest

  actions_again : (required_value keys.Actions members >>= list_said (key_place keys.Actions)) ≡ Ok (map string (map event_text (script_of play.trace)))
  unfolding required_value list_said
  actions_again = rw (here keys.Actions) (ap (λ items. Ok items) (listed_again (map string (map event_text (script_of play.trace)))))

  finish_again : read_if (row_said seats MOST_AMOUNT keys.FinishingStacks) (field_value keys.FinishingStacks members) ≡ Ok (Some (amounts_in play.trace.finish))
  finish_again =
      rw (
        here keys.FinishingStacks,
        row_again seats MOST_AMOUNT keys.FinishingStacks (amounts_in play.trace.finish) (amount_count play.trace.finish ∙ is.finish)
            (each_amount (IsWithin 0 MOST_AMOUNT) play.trace.finish (λ seat _ _. (omega arith, play.trace.finish.bounded (seat - 1)))),
      ) refl

  day_again : day_said members ≡ Ok (record { year = play.hand.notes.year; month = play.hand.notes.month; day = play.hand.notes.day })
  unfolding day_said
  day_again =
      let notes = play.hand.notes in
      rw (
        here keys.Year,
        field_alone (number_field notes.year),
        said_again 1 9999 (key_place keys.Year) notes.year is.notes.year,
        here keys.Month,
        field_alone (number_field notes.month),
        said_again 1 12 (key_place keys.Month) notes.month is.notes.month,
        here keys.Day,
        field_alone (number_field notes.day),
        said_again 1 31 (key_place keys.Day) notes.day is.notes.day,
        calendar_again notes.year notes.month notes.day is.notes.date,
      ) refl

  labels_again : labels_said place members ≡ Ok (record { hand = hand_name_noted place play.hand.notes.hand; texts = texts_of play.hand.notes })
  unfolding labels_said
  labels_again =
      let notes = play.hand.notes in
      rw (
        here keys.Hand,
        field_alone (hand_field place notes.hand),
        name_again place (key_place keys.Hand) notes.hand is.notes.hand,
        here keys.Table,
        field_alone (option_map label notes.table),
        table_again (key_place keys.Table) notes.table is.notes.texts.0,
        here keys.Venue,
        field_alone (option_map string notes.venue),
        text_note_again (key_place keys.Venue) notes.venue is.notes.texts.1.0,
        here keys.Currency,
        field_alone (option_map string notes.currency),
        text_note_again (key_place keys.Currency) notes.currency is.notes.texts.1.1.0,
      ) refl

  seating_again : seating_said seats members ≡ Ok (seating_of (said_notes place seats play.hand.notes))
  unfolding seating_said
  seating_again =
      let notes = play.hand.notes in
      rw (
        here keys.Players,
        field_alone (names_field seats notes),
        names_again notes seats few is.notes.names,
        here keys.Seats,
        field_alone (option_map (λ said. numbers (take seats said)) notes.seats),
        seats_again seats notes.seats (omega (arith, setup.stacks.least)) is.notes.seats,
        here keys.SeatCount,
        field_alone (number_field notes.seat_count),
        seat_count_again seats notes.seat_count is.notes.seat_count,
      ) refl

  notes_read : notes_said place seats members ≡ Ok (said_notes place seats play.hand.notes)
  unfolding notes_said
  notes_read =
      let notes = play.hand.notes in
      rw (
        seating_again,
        labels_again,
        day_again,
        here keys.Time,
        field_alone (option_map local_time notes.time),
        time_again notes.time is.notes.time,
        here keys.TimeZone,
        field_alone (option_map string notes.zone),
        text_note_again (key_place keys.TimeZone) notes.zone is.notes.zone,
      ) refl

  none_behind : (k : ℕ) → play.trace.pots.count ≤ k → get_or setup.rakes.rakes k 0 ≡ 0
  none_behind k late = subst (λ (n : ℕ). get_or setup.rakes.rakes n 0 ≡ 0) (omega arith) (is.no_more_rakes (k + 1) (omega (arith, late)))

  rake_few : (k : ℕ) → k < play.trace.pots.count → IsWithin 0 MOST_AMOUNT (get_or setup.rakes.rakes k 0)
  rake_few k within = (omega arith, subst (λ (n : ℕ). get_or setup.rakes.rakes n 0 ≤ MOST_AMOUNT) (omega arith) (is.valid.rakes (k + 1)))

  rakes_by : (some : Bool) → list_any (nat_lt 0) (take play.trace.pots.count setup.rakes.rakes) ≡ some
      → rakes_found (cond some (Some (numbers (take play.trace.pots.count setup.rakes.rakes))) None) ≡ Ok setup.rakes.rakes
  unfolding rakes_said rakes_from
  rakes_by true found =
      let taken = take play.trace.pots.count setup.rakes.rakes in
      let count : length (number_data taken) ≡ length taken = length-map taken (λ number. integer (pos number)) in
      let short : length taken ≤ 11 = omega (arith, length-take-le play.trace.pots.count setup.rakes.rakes (omega (arith, setup.rakes.full, play.trace.pots.most)), play.trace.pots.most) in
      rw (
        list_again (key_place keys.Rakes) taken,
        le-leb (length (number_data taken)) 11 (omega (arith, count, short)),
        amounts_again 0 MOST_AMOUNT keys.Rakes taken (each_taken (IsWithin 0 MOST_AMOUNT) play.trace.pots.count setup.rakes.rakes (omega (arith, setup.rakes.full, play.trace.pots.most)) rake_few),
      )
      (ap (λ rakes. Ok rakes) (with_zeros setup.rakes.rakes play.trace.pots.count setup.rakes.full play.trace.pots.most none_behind))
  rakes_by false found = ap (λ rakes. Ok rakes) (sym (all_zero setup.rakes.rakes setup.rakes.full every))
    where
      every : (k : ℕ) → get_or setup.rakes.rakes k 0 ≡ 0
      every k = elim (cases_lt k play.trace.pots.count) [
        | inl within ↦ zero_from_none_taken play.trace.pots.count setup.rakes.rakes found k within
        | inr late ↦ none_behind k late
      ]

  rakes_read : rakes_at members ≡ Ok setup.rakes.rakes
  unfolding rakes_at
  rakes_read =
      ap rakes_found (here keys.Rakes ∙ field_alone (rakes_field play.trace.pots.count setup.rakes))
      ∙ rakes_by (list_any (nat_lt 0) (take play.trace.pots.count setup.rakes.rakes)) refl

  count_is : length (amounts_in setup.stacks) ≡ seats
  count_is = amount_count setup.stacks

  -- a hand that was written
  pub hand_read : (file_moves : ℕ) → HaveRoom (counts_after file_moves) (script_of play.trace)
      → hand_said file_moves place members ≡ Ok (hand_again place play, (counts_with (counts_after file_moves) (script_of play.trace)).file_moves)
  unfolding hand_said
  hand_read file_moves room =
      rw (setup_again place play is.valid, actions_again, count_is, events_again seats few 1 (counts_after file_moves) (script_of play.trace) is.events room, finish_again, rakes_read, notes_read) refl
