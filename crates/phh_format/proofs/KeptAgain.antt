-- All notes are read back.
use Rattle.std.proofs.Common.{◌≡◌, ℕ, ap, ◌∙◌}
use Rattle.hand_canon.specs.declared.notes.Notes.{Notes}
use Rattle.hand_canon.proofs.NoteLaws.{label_twice, names_along, notes_same, numbers_again}
use Rattle.phh_format.specs.KeptNotes.{kept_in_phh}
use Rattle.hand_canon.specs.SaidNotes.{KeepsNotes, SaidNotes, hand_name_noted, name_said, plain_notes, said_notes}

-- notes that are read back are those that were written
pub keeps_said : (place count : ℕ) (notes again : Notes) → plain_notes count again ≡ said_notes place count notes
    → KeepsNotes kept_in_phh place count notes again
keeps_said place count notes again same =
    notes_same (said_notes place count again) (said_notes place count notes) (record {
      names = names_along count again.names (name_said notes.names) (ap (λ (n : SaidNotes). n.names) same);
      seats = numbers_again count again.seats notes.seats (ap (λ (n : SaidNotes). n.seats) same);
      seat_count = ap (λ (n : SaidNotes). n.seat_count) same;
      hand = ap (λ (n : SaidNotes). hand_name_noted place n.hand) same ∙ label_twice place notes.hand;
      texts = ap (λ (n : SaidNotes). n.texts) same;
      year = ap (λ (n : SaidNotes). n.year) same;
      month = ap (λ (n : SaidNotes). n.month) same;
      day = ap (λ (n : SaidNotes). n.day) same;
      time = ap (λ (n : SaidNotes). n.time) same;
      zone = ap (λ (n : SaidNotes). n.zone) same;
    })
