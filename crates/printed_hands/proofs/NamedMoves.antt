-- There are words for a move that names its player.
use Rattle.std.proofs.Common.{ℕ, IsTrue, refl}
use Rattle.play_event.specs.CanonScript.{act_named, move_named, plain_move}
use Rattle.phh_actions.specs.Written.{has_words}
use Rattle.play_event.specs.Past.{Act, Folded, Called, Raised, BroughtIn}
use Rattle.play_event.specs.Trace.{TracedMove}

act_has_words : (act : Act) (seat to : ℕ) → IsTrue (has_words (act_named act seat to))
act_has_words Folded seat to = refl
act_has_words Called seat to = refl
act_has_words Raised seat to = refl
act_has_words BroughtIn seat to = refl

pub move_has_words : (move : TracedMove) → IsTrue (has_words (move_named (plain_move move)))
move_has_words move = act_has_words move.act move.seat move.to
