-- A record with the setup of a game, a script within the limits, values and allowed names is sound; records are counted.
use Rattle.std.proofs.Common.{◌≡◌, ℕ, ◌+◌, ◌-◌, ◌<◌, ◌≤◌, List, [], ◌∷◌, ◌++◌, length, Some, None, IfSome, slice_index_or, ap, sym, subst, arith, length-append}
use Rattle.std.proofs.lemmas.List.Sums.{sum_by_push}
use Rattle.card_set.proofs.Entries.{all_push}
use Rattle.play_event.specs.PlayedScript.{IsWithinLimits}
use Rattle.first_fault.specs.declared.limits.TheConstants.{MOST_FILE_MOVES, MOST_HANDS}
use Rattle.hand_canon.specs.declared.notes.Notes.{Notes}
use Rattle.hand_canon.specs.declared.record.Record.{Record}
use Rattle.hand_canon.specs.declared.record.NetRow.{NetRow}
use Rattle.hand_canon.specs.AllowedNotes.{AreAllowed, IsName, IsNoteText}
use Rattle.hand_canon.specs.NoteTable.{texts_of}
use Rattle.hand_canon.proofs.NoteTexts.{none_allowed}
use Rattle.hand_canon.specs.SoundRecord.{script_said, IsSoundRecord}
use Rattle.acpc_game.specs.declared.game.Game.{Game}
use Rattle.acpc_reading.specs.RecordView.{AreOfGame, IsOfGame, IsSetupOf, NotesNames, StatesValues}
use Rattle.acpc_reading.proofs.MatchSetups.{setup_valid}
use Rattle.hand_canon.specs.Moves.{moves_of}

-- names and a number that are allowed as notes
notes_allowed : (players : ℕ) (notes : Notes) → NotesNames notes
    → ((seat : ℕ) → 1 ≤ seat → seat ≤ players → IfSome (slice_index_or notes.names (seat - 1) None) (IsName seat))
    → ((index : ℕ) → players ≤ index → slice_index_or notes.names index None ≡ None)
    → IfSome notes.hand IsNoteText → AreAllowed players notes
notes_allowed players notes alone each no_more hand = record {
  names = each;
  no_more_names = no_more;
  seats = rw alone.seats tt;
  seat_count = rw alone.seat_count tt;
  hand = hand;
  texts = none_allowed (texts_of notes) alone.texts;
  year = rw alone.year tt;
  month = rw alone.month tt;
  day = rw alone.day tt;
  date = rw alone.year tt;
  time = rw alone.time tt;
  zone = rw alone.zone tt;
}

pub sound_record : (game : Game) (hand : Record) (values : NetRow) → IsSetupOf game hand.setup → IsWithinLimits (script_said hand)
    → hand.stated.values ≡ Some values → values.seats ≡ game.stacks.seats → StatesValues hand.stated → NotesNames hand.notes
    → ((seat : ℕ) → 1 ≤ seat → seat ≤ game.stacks.seats → IfSome (slice_index_or hand.notes.names (seat - 1) None) (IsName seat))
    → ((index : ℕ) → game.stacks.seats ≤ index → slice_index_or hand.notes.names index None ≡ None)
    → IfSome hand.notes.hand IsNoteText → IsSoundRecord hand
sound_record game hand values setup within stated seats states alone each no_more number =
    let players : hand.setup.stacks.seats ≡ game.stacks.seats = ap (λ row. row.seats) setup.stacks in
    record {
      valid = setup_valid game hand.setup setup;
      within = within;
      stated = record {
        finish = λ row is. absurd (cc (is, states.finish));
        wins = λ row is. absurd (cc (is, states.wins));
        pot_total = λ total is. absurd (cc (is, states.pot_total));
        values = rw stated (λ row is. cc (is, seats, players));
      };
      notes = rw players (notes_allowed game.stacks.seats hand.notes alone each no_more number);
    }

-- one more hand of the file
pub one_more_hand : (game : Game) (hands more : List Record) (hand : Record) (before after : ℕ) → more ≡ hands ++ hand ∷ [] → length hands < MOST_HANDS
    → AreOfGame game hands before → IsOfGame game hand → after ≡ before + moves_of hand → after ≤ MOST_FILE_MOVES → AreOfGame game more after
one_more_hand game hands more hand before after pushed room kept one moves few =
    subst (λ (records : List Record). AreOfGame game records after) (sym pushed) (record {
      each = all_push (IsOfGame game) hands hand kept.each one;
      few = omega (arith, room, length-append hands (hand ∷ []));
      moves = omega (arith, sum_by_push moves_of hands hand, kept.moves, moves);
      few_moves = few;
    })
