-- Hands that are read back from what was written of plays.
use Rattle.std.specs.Prelude.{◌≡◌, ℕ, ◌+◌, List, [], ◌∷◌}
use Rattle.hand_canon.specs.declared.notes.Notes.{Notes}
use Rattle.hand_canon.specs.declared.record.Record.{Record}
use Rattle.hand_canon.specs.declared.trace.Play.{Play}
use Rattle.hand_canon.specs.LegalPlay.{IsLegalPlay}

-- a hand is that of a play read back: it is legal under its own rules and has the whole trace of
-- the play, what it states agrees, its setup is that of the play, and its notes are the kept ones
pub record IsAgain (keeps : Notes → Notes → Type 0) (play : Play) (hand : Record) : Type 0 where
  pub judged : IsLegalPlay (record { hand = hand; trace = play.trace })
  pub same_setup : hand.setup ≡ play.trace.setup
  pub notes : keeps play.hand.notes hand.notes

-- Hands are those of plays read back: the same number, one by one; the first is at this place of
-- its file, from 0. Which notes are kept depends on the place and on the number of seats.
unfoldable pub AreAgain : (ℕ → ℕ → Notes → Notes → Type 0) → ℕ → List Play → List Record → Type 0
AreAgain keeps place [] [] = Unit {0}
AreAgain keeps place [] (hand ∷ hands) = ⊥
AreAgain keeps place (play ∷ plays) [] = ⊥
AreAgain keeps place (play ∷ plays) (hand ∷ hands) =
    IsAgain (keeps place play.trace.setup.stacks.seats) play hand
    × AreAgain keeps (place + 1) plays hands
