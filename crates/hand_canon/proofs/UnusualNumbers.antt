-- The seat numbers of a sound play are not the default ones.
use Rattle.std.proofs.Common.{ℕ, List, Option, Some, None, IfSome, subst, sym}
use Rattle.hand_canon.specs.Sound.{IsSound}
use Rattle.hand_canon.specs.AllowedNotes.{AreSeatNumbers}
use Rattle.hand_canon.specs.declared.trace.Play.{Play}
use Rattle.play_event.specs.declared.setup.Setup.{Setup}
use Rattle.hand_canon.proofs.NoteLaws.{AreUnusual}

allowed_unusual : (count : ℕ) (numbers : Option (List ℕ)) → IfSome numbers (AreSeatNumbers count) → AreUnusual count numbers
allowed_unusual count None are = tt
allowed_unusual count (Some numbers) are = are.said

pub unusual : (play : Play) → IsSound play → AreUnusual play.trace.setup.stacks.seats play.hand.notes.seats
unusual play sound =
    subst (λ (setup : Setup). AreUnusual setup.stacks.seats play.hand.notes.seats) (sym sound.trace.same_setup)
    (allowed_unusual play.hand.setup.stacks.seats play.hand.notes.seats sound.notes.seats)
