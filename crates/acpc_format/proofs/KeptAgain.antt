-- The notes that are read again are those that a line can write.
use Rattle.std.proofs.Common.{◌≡◌, ℕ, take, Bool, true, false, cond, bytes_eq, decimal, List, [], ◌∷◌, map, Option, Some, None, option_and_then, refl, sym, ap, ◌∙◌}
use Rattle.acpc_format.specs.Again.{kept_hand, kept_name, name_again}
use Rattle.acpc_format.specs.Names.{is_spelled_hand}
use Rattle.acpc_reading.specs.RecordView.{NotesNames}
use Rattle.chip_ledger.specs.Seat.{seats_of}
use Rattle.hand_canon.specs.SaidNotes.{KeepsNotes, hand_name_noted, name_said, numbers_said, said_notes}
use Rattle.hand_canon.specs.declared.notes.Notes.{Notes}
use Rattle.acpc_format.specs.KeptNotes.{kept_in_acpc, number_spelled}
use Rattle.hand_canon.proofs.NoteLaws.{names_along, notes_same}

-- what a line says again of the notes of `count` seats, at a place of its file
pub record AreNamesAgain (place count : ℕ) (notes again : Notes) : Type 0 where
  pub names : take count again.names ≡ map (name_again notes) (seats_of count)
  pub hand : again.hand ≡ kept_hand place notes.hand
  pub others : NotesNames again

-- the kept names of seats
pub kept_names : (notes : Notes) (seats : List ℕ) → map kept_name (map (name_said notes.names) seats) ≡ map (name_again notes) seats
kept_names notes [] = refl
kept_names notes (seat ∷ seats) = ap (λ (rest : List (Option (List ℕ))). name_again notes seat ∷ rest) (kept_names notes seats)

-- the kept number of a hand
pub hand_kept : (place : ℕ) (said : Option (List ℕ)) → option_and_then number_spelled (hand_name_noted place said) ≡ kept_hand place said
hand_kept place None = refl
hand_kept place (Some text) = by_tests (bytes_eq text (decimal place)) (is_spelled_hand text) refl
  where
    by_tests : (same spelled : Bool) → is_spelled_hand text ≡ spelled → option_and_then number_spelled (cond same None (Some text)) ≡ cond spelled (cond same None (Some text)) None
    by_tests true true is = refl
    by_tests true false is = refl
    by_tests false true is = ap (λ (b : Bool). cond b (Some text) None) is
    by_tests false false is = ap (λ (b : Bool). cond b (Some text) None) is

hand_label : (place : ℕ) (said : Option (List ℕ)) → hand_name_noted place (kept_hand place said) ≡ kept_hand place said
hand_label place None = refl
hand_label place (Some text) = by_tests (is_spelled_hand text) (bytes_eq text (decimal place)) refl
  where
    by_tests : (spelled same : Bool) → bytes_eq text (decimal place) ≡ same → hand_name_noted place (cond spelled (cond same None (Some text)) None) ≡ cond spelled (cond same None (Some text)) None
    by_tests true true is = refl
    by_tests true false is = ap (λ (b : Bool). cond b None (Some text)) is
    by_tests false same is = refl

-- the notes that are read again are those that a line can write
pub keeps_said : (place count : ℕ) (notes again : Notes) → AreNamesAgain place count notes again → KeepsNotes kept_in_acpc place count notes again
keeps_said place count notes again same =
    notes_same (said_notes place count again) (kept_in_acpc (said_notes place count notes)) (record {
      names = names_along count again.names (name_again notes) same.names ∙ sym (kept_names notes (seats_of count));
      seats = ap (numbers_said count) same.others.seats;
      seat_count = same.others.seat_count;
      hand = ap (hand_name_noted place) same.hand ∙ hand_label place notes.hand ∙ sym (hand_kept place notes.hand);
      texts = same.others.texts;
      year = same.others.year;
      month = same.others.month;
      day = same.others.day;
      time = same.others.time;
      zone = same.others.zone;
    })
