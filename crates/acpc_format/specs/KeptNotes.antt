-- Which notes a log keeps: player names and hand numbers that a line can write.
use Rattle.std.specs.Prelude.{ℕ, List, map, Option, Some, None, if◌then◌else◌, option_and_then}
use Rattle.acpc_format.specs.Again.{kept_name}
use Rattle.acpc_format.specs.Names.{is_spelled_hand}
use Rattle.hand_canon.specs.NoteTable.{no_texts}
use Rattle.hand_canon.specs.SaidNotes.{SaidNotes}

-- the hand number if a line can write it, else none
abbrev pub number_spelled : List ℕ → Option (List ℕ)
number_spelled text = if is_spelled_hand text then Some text else None

-- the notes that a log keeps: names and the hand number, if a line can write them
abbrev pub kept_in_acpc : SaidNotes → SaidNotes
kept_in_acpc notes =
    record {
      names = map kept_name notes.names;
      seats = None;
      seat_count = None;
      hand = option_and_then number_spelled notes.hand;
      texts = no_texts;
      year = None;
      month = None;
      day = None;
      time = None;
      zone = None;
    }
