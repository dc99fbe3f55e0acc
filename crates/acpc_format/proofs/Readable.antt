-- Plays that read back once they are written.
use Rattle.std.proofs.Common.{◌≡◌, ℕ, ◌≤◌, true, false, List, [], length, Some, None}
use Rattle.std.specs.List.{list_any}
use Rattle.card_set.specs.Known.{hides_card}
use Rattle.chip_ledger.specs.declared.numbers.TheConstants.{MOST_CHIPS}
use Rattle.play_event.specs.CanonScript.{dealt_slots, plain_moves}
use Rattle.play_event.specs.declared.hand_limits.TheConstants.{MOST_MOVES}
use Rattle.play_event.specs.Chips.{chips_put}
use Rattle.play_event.specs.Past.{Move, moves_on}
use Rattle.play_event.specs.Trace.{TracedPlace}
use Rattle.play_event.specs.declared.setup.Setup.{Setup}
use Rattle.hand_canon.specs.AllowedNotes.{AreAllowed}
use Rattle.hand_canon.specs.TraceRows.{core_said}
use Rattle.hand_canon.specs.declared.trace.Play.{Play}
use Rattle.acpc_game.specs.declared.game.Game.{Game}
use Rattle.acpc_format.specs.PlayFacts.{is_part_known}
use Rattle.acpc_format.specs.Rounds.{has_board}
use Rattle.acpc_format.specs.Texts.{HasTexts}

-- each of `count` seats is dealt two hole cards before the first round and none later, and both are
-- known or both are not
pub record HasHoles (count : ℕ) (placed : List TracedPlace) : Type 0 where
  pub two : (seat : ℕ) → 1 ≤ seat → seat ≤ count → length (dealt_slots placed (Some seat) 1) ≡ 2
  pub whole : (seat : ℕ) → 1 ≤ seat → seat ≤ count → is_part_known placed seat ≡ false
  pub no_more : (seat street : ℕ) → 1 ≤ seat → seat ≤ count → 2 ≤ street → street ≤ 4
      → dealt_slots placed (Some seat) street ≡ []

-- the board is dealt three, one and one known cards before the second, third and fourth round, for
-- the rounds that are dealt
pub record HasBoards (placed : List TracedPlace) : Type 0 where
  pub none : dealt_slots placed None 1 ≡ []
  pub flop : has_board placed 2 ≡ true → length (dealt_slots placed None 2) ≡ 3
  pub turn : has_board placed 3 ≡ true → length (dealt_slots placed None 3) ≡ 1
  pub river : has_board placed 4 ≡ true → length (dealt_slots placed None 4) ≡ 1
  pub turn_follows : has_board placed 3 ≡ true → has_board placed 2 ≡ true
  pub river_follows : has_board placed 4 ≡ true → has_board placed 3 ≡ true
  pub known : (street : ℕ) → list_any hides_card (dealt_slots placed None street) ≡ false

-- the moves are within the limit, each is on a round that was dealt, and no seat puts more than may
-- be stated
pub record HasLetters (setup : Setup) (placed : List TracedPlace) (moves : List Move) : Type 0 where
  pub few : length moves ≤ MOST_MOVES
  pub dealt : (street : ℕ) → 2 ≤ street → street ≤ 4 → has_board placed street ≡ false → moves_on street moves ≡ []
  pub put : (seat : ℕ) → chips_put setup moves seat ≤ MOST_CHIPS

-- a play reads back under a game once it is written
pub record IsReadable (game : Game) (play : Play) : Type 0 where
  pub seats : play.trace.setup.stacks.seats ≡ game.stacks.seats
  pub holes : HasHoles play.trace.setup.stacks.seats (core_said play.trace).places
  pub boards : HasBoards (core_said play.trace).places
  pub letters : HasLetters play.trace.setup (core_said play.trace).places (plain_moves (core_said play.trace).moves)
  pub notes : AreAllowed play.trace.setup.stacks.seats play.hand.notes
  pub texts : HasTexts play
