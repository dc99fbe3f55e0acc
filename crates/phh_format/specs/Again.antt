-- The hands that are read back from plays that were written: the same setups, rakes and finishing
-- stacks, the canonical scripts, and the notes.
use Rattle.std.specs.Prelude.{ℕ, ◌+◌, List, [], ◌∷◌, Some}
use Rattle.play_event.specs.HistoryRules.{history_rules}
use Rattle.play_event.specs.Said.{Numbered, Said}
use Rattle.hand_canon.specs.declared.trace.Play.{Play}
use Rattle.phh_reading.specs.Hand.{finish_stated}
use Rattle.phh_format.specs.HandFields.{script_of}
use Rattle.chip_ledger.specs.SeatRow.{amounts_in}
use Rattle.first_fault.specs.Numbers.{saturated}
use Rattle.hand_canon.specs.PlainHands.{PlainHand, plain_setup}
use Rattle.hand_canon.specs.SaidNotes.{notes_of}

-- events with the numbers of their actions; the first has this number
abbrev pub numbered_from : ℕ → List Said → List Numbered
numbered_from n [] = []
numbered_from n (event ∷ rest) = (saturated n, event) ∷ numbered_from (n + 1) rest

-- the hand that is read back from the play at this place of its file, from 0
abbrev pub hand_again : ℕ → Play → PlainHand
hand_again place play =
    record {
      setup = plain_setup play.trace.setup;
      rakes = play.trace.setup.rakes.rakes;
      rules = history_rules;
      script = numbered_from 1 (script_of play.trace);
      stated = finish_stated (Some (amounts_in play.trace.finish));
      notes = notes_of place play;
    }

-- the hands that are read back from plays; the first is at this place
abbrev pub hands_again : ℕ → List Play → List PlainHand
hands_again place [] = []
hands_again place (play ∷ rest) = hand_again place play ∷ hands_again (place + 1) rest
