-- What `views` answers: the lines that a seat received of the hands of a log.
use Rattle.std.specs.Prelude.{Bool, List, [], codes, false, length, true, ℕ, ◌++◌, ◌+◌, ◌<◌, ◌∷◌, ◌≡◌, ◌≤◌, ◌⊎◌}
use Rattle.acpc_game.specs.declared.game.Game.{Game}
use Rattle.acpc_view.specs.View.{views_text}
use Rattle.chip_ledger.specs.declared.numbers.Seat.{Seat}
use Rattle.convert_core.specs.Judged.{ArePlaysOf}
use Rattle.hand_canon.specs.declared.record.Record.{Record}
use Rattle.hand_canon.specs.declared.trace.Play.{Play}
use Rattle.poker_cli.specs.AnswerParts.{Answer, done, of_text, refusal}
use Rattle.poker_cli.specs.Limits.{excess_line}
use Rattle.poker_cli.specs.declared.status.Status.TheVariants as statuses
use Rattle.convert_core.specs.declared.format.Format.{Format}
use Rattle.convert_core.specs.declared.format.Format.TheVariants as readers

-- the game has no seat with this number, only this many
abbrev pub no_seat : ℕ → ℕ → Answer
no_seat number seats = refusal statuses.NoSuch (codes "no such seat: " ++ of_text number seats)

-- the lines that a seat saw of plays; the first is at this place of its file, from 0
unfoldable pub each_view : Game → Seat → ℕ → List Play → List ℕ
each_view game seat place [] = []
each_view game seat place (play ∷ others) =
    views_text game.no_limit seat.number place play ++ each_view game seat (place + 1) others

-- the most bytes of views
abbrev pub most_view_bytes : ℕ
most_view_bytes = 268435456

-- What a seat saw of the hands of a log under its game.
pub data AreViews (game : Game) (seat : Seat) (plays : List Play) : Answer → Type 0 where
  -- the game has no such seat
  NoSeat : game.stacks.seats < seat.number
      → AreViews game seat plays (no_seat seat.number game.stacks.seats)
  -- its lines are over the limit of bytes
  TooMany : seat.number ≤ game.stacks.seats → most_view_bytes < length (each_view game seat 0 plays)
      → AreViews game seat plays
      (refusal statuses.Limit (excess_line (codes "view bytes") most_view_bytes))
  -- these are its lines
  Seen : seat.number ≤ game.stacks.seats → length (each_view game seat 0 plays) ≤ most_view_bytes
      → AreViews game seat plays (done (each_view game seat 0 plays))

-- The lines of plays are kept and within the limit of bytes; or they are not kept, because the game
-- has no such seat or they are over the limit.
pub record AreSeen (game : Game) (seat : Seat) (kept : Bool) (lines : List ℕ) (plays : List Play) :
    Type 0 where
  pub all : kept ≡ true → lines ≡ each_view game seat 0 plays
  pub few : kept ≡ true → length (each_view game seat 0 plays) ≤ most_view_bytes
  pub not_kept : kept ≡ false → (game.stacks.seats < seat.number)
      ⊎ (most_view_bytes < length (each_view game seat 0 plays))

-- All records have plays, and this is the answer with what a seat saw of them.
pub record AreViewsOf (game : Game) (seat : Seat) (records : List Record) (answer : Answer) : Type 0
  where
    pub plays : List Play
    pub are : ArePlaysOf records plays
    pub said : AreViews game seat plays answer

-- what a seat received of the hands: the lines of a log under its game; hands in other notations
-- have no messages
abbrev pub AreMessages : (reader : Format) → Seat → List Play → Answer → Type 0
AreMessages (readers.Acpc game) seat plays answer = AreViews game seat plays answer
AreMessages reader seat plays answer = answer ≡ done []
