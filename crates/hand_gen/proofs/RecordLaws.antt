-- A record that states and notes nothing is sound.
use Rattle.std.proofs.Common.{◌≡◌, ℕ, ◌-◌, ◌≤◌, List, ◌++◌, find, slice_index_or, None, ap, ◌∙◌}
use Rattle.card_set.specs.declared.card.Card.{Card}
use Rattle.chip_ledger.specs.declared.seat_row.TheConstants.{MOST_AMOUNT}
use Rattle.chip_ledger.specs.Fillers.{index-replicate}
use Rattle.hand_canon.specs.AllowedNotes.{AreNoNotes, AreAllowed}
use Rattle.hand_canon.specs.NoteTable.{texts_of}
use Rattle.hand_canon.specs.SoundRecord.{IsStatedFor}
use Rattle.hand_canon.proofs.NoteTexts as note_texts
use Rattle.hand_canon.specs.declared.notes.Notes.{Notes}
use Rattle.hand_canon.specs.declared.record.Stated.{Stated}
use Rattle.hand_canon.specs.declared.trace.Play.{Play}
use Rattle.hand_canon.specs.declared.trace.Trace.{Trace}
use Rattle.hand_canon.specs.Agreement.{finish_compared, first_difference, is_different, seats_compared, total_compared, value_compared, win_compared}
use Rattle.hand_canon.specs.Sound.{IsSound}
use Rattle.hand_canon.specs.StatedFacts.{IsNothingStated}
use Rattle.hand_gen.specs.Sound.{IsSoundHand}
use Rattle.hand_gen.specs.HandSource.{HandSource}
use Rattle.card_set.proofs.Options.{for_none, if_none}

-- if nothing is stated, it fits
pub nothing_fits : (seats : ℕ) (stated : Stated) → IsNothingStated stated → IsStatedFor seats stated
nothing_fits seats stated is =
    record {
      finish = for_none (λ row. row.seats ≡ seats) stated.finish is.finish;
      wins = for_none (λ row. row.seats ≡ seats) stated.wins is.wins;
      pot_total = for_none (λ total. total ≤ MOST_AMOUNT) stated.pot_total is.pot_total;
      values = for_none (λ row. row.seats ≡ seats) stated.values is.values;
    }

-- a record without notes is allowed
pub none_allowed : (seats : ℕ) (notes : Notes) → AreNoNotes notes → AreAllowed seats notes
none_allowed seats notes none =
    record {
      names = λ seat first last. if_none _ _ (ap (λ l. slice_index_or l (seat - 1) None) none.names ∙ index-replicate 10 None (seat - 1));
      no_more_names = λ index past. ap (λ l. slice_index_or l index None) none.names ∙ index-replicate 10 None index;
      seats = if_none _ _ none.seats;
      seat_count = if_none _ _ none.seat_count;
      hand = if_none _ _ none.hand;
      texts = note_texts.none_allowed (texts_of notes) none.texts;
      year = if_none _ _ none.year;
      month = if_none _ _ none.month;
      day = if_none _ _ none.day;
      date = if_none _ _ none.year;
      time = if_none _ _ none.time;
      zone = if_none _ _ none.zone;
    }

-- a stock is its number and its deck
pub same_source : (stock : HandSource) (number : ℕ) (deck : List Card) → stock.number ≡ number → stock.deck ≡ deck → stock ≡ record { number = number; deck = deck }
same_source stock number deck number_is deck_is =
    ap (λ n. record { number = n; deck = stock.deck }) number_is ∙ ap (λ d. record { number = number; deck = d }) deck_is

-- if nothing is stated, nothing differs
nothing_differs : (trace : Trace) (stated : Stated) → IsNothingStated stated → first_difference trace stated ≡ None
nothing_differs trace stated is =
    ap (find is_different)
    (ap (λ o. seats_compared trace finish_compared o ++ (seats_compared trace win_compared stated.wins ++ (total_compared trace stated.pot_total ++ seats_compared trace value_compared stated.values))) is.finish
    ∙ ap (λ o. seats_compared trace win_compared o ++ (total_compared trace stated.pot_total ++ seats_compared trace value_compared stated.values)) is.wins
    ∙ ap (λ o. total_compared trace o ++ seats_compared trace value_compared stated.values) is.pot_total
    ∙ ap (seats_compared trace value_compared) is.values)

-- the record of a sound play that states nothing is sound
pub sound_hand : (play : Play) → IsSound play → IsNothingStated play.hand.stated → IsSoundHand play.hand
sound_hand play is nothing =
    record {
      sound = record { valid = is.valid; within = is.within; stated = nothing_fits play.hand.setup.stacks.seats play.hand.stated nothing; notes = is.notes };
      legal = is.legal;
      agrees = λ trace. nothing_differs trace play.hand.stated nothing;
    }
