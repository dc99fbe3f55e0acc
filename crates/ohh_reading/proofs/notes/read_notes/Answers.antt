use Rattle.std.proofs.Common.{subst, sym}
use Rattle.hand_canon.specs.AllowedNotes.{AreNoteTexts}
use Rattle.hand_canon.specs.NoteTable.{texts_of}
use Rattle.hand_canon.specs.declared.notes.Notes.{Notes}
use Rattle.ohh_reading.proofs.Dated.{year_within, month_within, day_within, date_within, time_within}
use Rattle.ohh_reading.proofs.notes.read_notes.Goals as goal

pub returns-clause-allowed : goal.returns-clause-allowed
returns-clause-allowed c =
    let fit = c.in_ok-labels.ensures.fit in
    let moment = c.in_ok-labels.labels.moment in
    record {
      names = c.in_ok-names.ensures.each;
      no_more_names = c.in_ok-names.ensures.no_more;
      seats = c.unusual_seats.ensures.allowed;
      seat_count = fit.seat_count;
      hand = fit.hand;
      texts = subst (λ (notes : Notes). AreNoteTexts (texts_of notes)) (sym c.with_texts.ensures) fit.texts;
      year = rw c.year_of.ensures (year_within moment fit.moment);
      month = rw c.month_of.ensures (month_within moment fit.moment);
      day = rw c.day_of.ensures (day_within moment fit.moment);
      date = rw (c.year_of.ensures, c.month_of.ensures, c.day_of.ensures) (date_within moment fit.moment);
      time = rw c.time_of.ensures (time_within moment fit.moment);
      zone = c.in_ok-zone.ensures.allowed;
    }
