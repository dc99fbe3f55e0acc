-- Setups and traces that differ from those of the worked plays.
use Rattle.std.proofs.Common.{refl}
use Rattle.std.specs.Prelude.{ℕ, true, List, [], ◌∷◌, ◌++◌, codes, Option, Some}
use Rattle.hand_differences.specs.FirstDifference.{PlainDifference, play_difference}
use Rattle.hand_canon.specs.declared.notes.Notes.{Notes}
use Rattle.hand_canon.specs.declared.record.Record.{Record}
use Rattle.hand_canon.specs.declared.trace.Trace.{Trace}
use Rattle.hand_canon.specs.SaidNotes.{SaidNotes, said_notes}
use Rattle.play_event.specs.declared.code.Code.TheVariants as games
use Rattle.play_event.specs.declared.setup.Setup.{Setup}
use Rattle.play_event.specs.Rows.{row_of}
use Rattle.worked_hands.specs.Setups.{no_limit}
use Rattle.worked_hands.specs.Plays.{play_of}
use Rattle.worked_hands.specs.Traces.{dealt_to, on_board, p1, p2, p3, placed, steal_trace}
use Rattle.worked_hands.specs.WrittenNotes.{no_notes}

-- the first difference of two traces, whatever the record is
abbrev pub between : Record → Trace → Trace → Option PlainDifference
between hand trace other = play_difference (play_of hand trace) (play_of hand other)

-- the hand in which p3 steals the blinds, under another setup
abbrev pub under : Setup → Trace
under setup = record steal_trace { setup = setup }

-- p3 has one chip more
abbrev pub more_chips : Setup
more_chips = record no_limit { stacks = row_of (100 ∷ 100 ∷ 101 ∷ []) refl }

-- the least bet is greater
abbrev pub greater_least_bet : Setup
greater_least_bet = record no_limit { min_bet = 4 }

-- each seat posts an ante
abbrev pub with_antes : Setup
with_antes = record no_limit { antes = row_of (1 ∷ 1 ∷ 1 ∷ []) refl }

-- the same, but the antes are dead
abbrev pub with_dead_antes : Setup
with_dead_antes = record with_antes { dead_antes = true }

-- the second blind is greater
abbrev pub greater_blind : Setup
greater_blind = record no_limit { blinds = row_of (1 ∷ 4 ∷ 0 ∷ []) refl }

-- a short deck, with antes
abbrev pub short_deck_antes : Setup
short_deck_antes = record with_antes { code = games.NS }

-- the last card of p3 is another
abbrev pub other_card : Trace
other_card = record steal_trace {
  places = dealt_to p1 (codes "????") ++ (dealt_to p2 (codes "Ks7d") ++ dealt_to p3 (codes "AcAs"));
}

-- a flop after the cards of the seats
abbrev pub with_flop : List ℕ → Trace
with_flop cards = record steal_trace { places = steal_trace.places ++ on_board 2 cards }

-- the last card of p3 was discarded in the draw of the second street
abbrev pub one_discard : Trace
one_discard = record steal_trace {
  places =
      dealt_to p1 (codes "????")
      ++ (dealt_to p2 (codes "Ks7d")
      ++ (dealt_to p3 (codes "Ac") ++ placed (Some p3) 1 (codes "Ad") 2));
}

-- the notes of three seats
abbrev pub three_noted : ℕ → Notes → SaidNotes
three_noted place notes = said_notes place 3 notes

-- the name of a hand
abbrev pub hand_named : List ℕ → Notes
hand_named text = record no_notes { hand = Some text }
