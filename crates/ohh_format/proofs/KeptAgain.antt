-- What is read back from notes is what can be written.
use Rattle.std.proofs.Common.{◌≡◌, ℕ, Bool, true, false, cond, bytes_eq, List, take, Option, Some, None, option_and_then, refl, sym, ap, ◌∙◌}
use Rattle.std.specs.List.{range_with_len}
use Rattle.hand_canon.specs.declared.notes.Notes.{Notes}
use Rattle.ohh_format.specs.Again.{notes_again}
use Rattle.ohh_writing.specs.Seating.{is_circular, numbers_spelled}
use Rattle.hand_canon.proofs.NoteLaws.{label_twice, names_along, notes_same, numbers_again}
use Rattle.ohh_format.specs.KeptNotes.{kept_in_ohh, numbers_round}
use Rattle.hand_canon.specs.SaidNotes.{KeepsNotes, SaidNotes, hand_name_noted, name_said, numbers_said, plain_notes, said_notes}

-- numbers that are written, and are noted
numbers_kept : (count : ℕ) (said : Option (List ℕ)) → numbers_said count (numbers_spelled count said) ≡ option_and_then numbers_round (numbers_said count said)
numbers_kept count None = refl
numbers_kept count (Some numbers) = by_tests (bytes_eq (take count numbers) (range_with_len 1 count)) (is_circular (take count numbers)) refl refl
  where
    by_tests : (usual round : Bool) → bytes_eq (take count numbers) (range_with_len 1 count) ≡ usual → is_circular (take count numbers) ≡ round
        → numbers_said count (cond round (Some numbers) None) ≡ option_and_then numbers_round (cond usual None (Some (take count numbers)))
    by_tests true true is goes = ap (λ (b : Bool). cond b None (Some (take count numbers))) is
    by_tests true false is goes = refl
    by_tests false true is goes = ap (λ (b : Bool). cond b None (Some (take count numbers))) is ∙ sym (ap (λ (b : Bool). cond b (Some (take count numbers)) None) goes)
    by_tests false false is goes = sym (ap (λ (b : Bool). cond b (Some (take count numbers)) None) goes)

-- what is read back are the kept notes
pub read_kept : (place count : ℕ) (notes : Notes) → notes_again place count notes ≡ kept_in_ohh (said_notes place count notes)
read_kept place count notes =
    notes_same (notes_again place count notes) (kept_in_ohh (said_notes place count notes)) (record {
      names = refl;
      seats = numbers_kept count notes.seats;
      seat_count = refl;
      hand = refl;
      texts = refl;
      year = refl;
      month = refl;
      day = refl;
      time = refl;
      zone = refl;
    })

-- notes that are read back are those that can be written
pub keeps_said : (place count : ℕ) (notes again : Notes) → plain_notes count again ≡ notes_again place count notes
    → KeepsNotes kept_in_ohh place count notes again
keeps_said place count notes again same =
    notes_same (said_notes place count again) (notes_again place count notes) (record {
      names = names_along count again.names (name_said notes.names) (ap (λ (n : SaidNotes). n.names) same);
      seats = numbers_again count again.seats (numbers_spelled count notes.seats) (ap (λ (n : SaidNotes). n.seats) same);
      seat_count = ap (λ (n : SaidNotes). n.seat_count) same;
      hand = ap (λ (n : SaidNotes). hand_name_noted place n.hand) same ∙ label_twice place notes.hand;
      texts = ap (λ (n : SaidNotes). n.texts) same;
      year = ap (λ (n : SaidNotes). n.year) same;
      month = ap (λ (n : SaidNotes). n.month) same;
      day = ap (λ (n : SaidNotes). n.day) same;
      time = ap (λ (n : SaidNotes). n.time) same;
      zone = ap (λ (n : SaidNotes). n.zone) same;
    })
    ∙ read_kept place count notes
