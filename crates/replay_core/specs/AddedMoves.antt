-- What one more event adds to the moves of the trace.
use Rattle.std.specs.Prelude.{◌≡◌, ℕ, List, [], ◌∷◌, ◌++◌, Option, Some, None}
use Rattle.betting_numbers.specs.declared.betting_state.BettingState.{BettingState}
use Rattle.betting_numbers.specs.LegalMoves.{past_with}
use Rattle.card_places.specs.declared.card_state.CardState.{CardState}
use Rattle.replay_core.specs.Together.{StandTogether}
use Rattle.play_event.specs.declared.played.Move as rows
use Rattle.play_event.specs.Past.{Past, moves_of}
use Rattle.play_event.specs.Played.{move_said}
use Rattle.play_event.specs.Said.{Said}
use Rattle.play_event.specs.Trace.{TracedMove, traced_moves}
use Rattle.chip_ledger.specs.Seat.{IsSeatOf}

-- after each past that both betting and cards describe
abbrev pub WhereTogether : BettingState → CardState → (Past → Type 0) → Type 0
WhereTogether b t P = (past : Past) → StandTogether b t past → P past

-- a row of this many seats has those of the hand, and this holds for each of them after each past
-- that both describe
pub record HoldsForSeats (count : ℕ) (b : BettingState) (t : CardState) (P : Past → ℕ → Type 0)
    : Type 0 where
  pub seats : count ≡ b.setup.stacks.seats
  pub each : WhereTogether b t (λ past.
      (seat : ℕ) → IsSeatOf b.setup.stacks.seats seat → P past seat)

-- the move that is returned, if one is
abbrev pub moves_added : Option rows.Move → List TracedMove
moves_added None = []
moves_added (Some move) = move_said move ∷ []

-- the moves of the trace after an event are those before it and the one that is returned; for an
-- event of cards none is returned
abbrev pub AddsMove : BettingState → Said → Past → Option rows.Move → Type 0
AddsMove b event past added =
    traced_moves b.setup (moves_of (past_with b past event))
    ≡ traced_moves b.setup (moves_of past) ++ moves_added added
