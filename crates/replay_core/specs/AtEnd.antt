-- A script was played to its end, and rows hold the state at that point.
use Rattle.std.specs.Prelude.{◌≡◌, ◌≢◌, ℕ, ◌≤◌, false, List, [], map, filter, reverse}
use Rattle.betting_numbers.specs.declared.betting_state.BettingState.{BettingState}
use Rattle.card_places.specs.declared.card_state.CardState.{CardState}
use Rattle.chip_ledger.specs.LiveRow.{flagged}
use Rattle.chip_ledger.specs.SeatRow.{amount_of}
use Rattle.hand_canon.specs.LegalHand.{showdown_in}
use Rattle.play_event.specs.TraceCore.{core_of}
use Rattle.hand_canon.specs.TraceRows.{place_said}
use Rattle.card_set.specs.declared.pick.Pick.{Pick}
use Rattle.play_event.specs.declared.setup.Rules.{Rules}
use Rattle.play_event.specs.declared.setup.Setup.{Setup}
use Rattle.play_event.specs.Chips.{chips_left}
use Rattle.play_event.specs.Due.{is_unfinished, turn}
use Rattle.play_event.specs.Games.{game_of}
use Rattle.play_event.specs.Laws.{AreLegal}
use Rattle.play_event.specs.Past.{Past, moves_of}
use Rattle.play_event.specs.Said.{Said}
use Rattle.play_event.specs.Scripts.{past_at_end}
use Rattle.play_event.specs.Seats.{all_seats}
use Rattle.play_event.specs.Trace.{is_mucked, is_shown, traced_places}
use Rattle.showdown_split.specs.Hands.{showdown_of}
use Rattle.showdown_split.specs.Playable.{ArePlayable}
use Rattle.variant_table.specs.Variants.{IsUsable}
use Rattle.replay_core.specs.declared.ending.HandAtEnd.{HandAtEnd}
use Rattle.replay_core.specs.EndRows.{AreRowsOf}
use Rattle.replay_core.specs.Events.{AreMovesOf}
use Rattle.replay_core.specs.Showdowns.{ShowTheSame}
use Rattle.replay_core.specs.Together.{StandTogether}

-- betting and cards describe the end of a script: its events are legal, and nothing but shows is
-- due
pub record StandAtEnd (setup : Setup) (rules : Rules) (script : List Said) (b : BettingState)
    (t : CardState) : Type 0 where
  pub same_setup : b.setup ≡ setup
  pub legal : AreLegal setup rules (reverse script)
  pub stands : StandTogether b t (past_at_end setup script)
  pub finished : is_unfinished (turn setup (past_at_end setup script)).1 ≡ false

-- the rows of a hand are of its seats
pub record HasSeatRows (seats : ℕ) (hand : HandAtEnd) : Type 0 where
  pub live : hand.live.seats ≡ seats
  pub puts : hand.puts.seats ≡ seats
  pub left : hand.left.seats ≡ seats
  pub shown : hand.shown.seats ≡ seats
  pub mucked : hand.mucked.seats ≡ seats
  pub hands : hand.hands.seats ≡ seats

-- rows hold the state at the end of a past
pub record IsAtEnd (setup : Setup) (past : Past) (hand : HandAtEnd) : Type 0 where
  pub seats : HasSeatRows setup.stacks.seats hand
  -- some seat is live
  pub someone : flagged hand.live ≢ []
  -- the seats that are live, and the chips that each seat put in
  pub stakes : AreRowsOf setup (moves_of past) hand.puts hand.live
  -- the chips that each seat has left
  pub left : (seat : ℕ) → 1 ≤ seat → seat ≤ setup.stacks.seats
      → amount_of hand.left seat ≡ chips_left setup (moves_of past) seat
  -- who is shown, and who mucks
  pub shown : flagged hand.shown ≡ filter (is_shown setup past) (all_seats setup)
  pub mucked : flagged hand.mucked ≡ filter (is_mucked setup past) (all_seats setup)
  -- hands and board are those of the trace, and can be compared if the game's pick works on them
  pub shows :
      ShowTheSame (showdown_of hand.hands hand.board hand.shown)
      (showdown_in setup (core_of setup past))
  pub playable : (held : ℕ) (pick : Pick) → IsUsable (game_of setup.code) held pick
      → ArePlayable held pick hand.hands hand.board hand.shown
  -- the cards and the moves of the trace
  pub places : map place_said hand.places ≡ traced_places setup past
  pub moves : AreMovesOf setup past hand.moves
