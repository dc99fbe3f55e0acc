-- A trace has as many moves as were made.
use Rattle.std.proofs.Common.{◌≡◌, List, [], ◌∷◌, length, length-append, refl, arith}
use Rattle.play_event.specs.declared.setup.Setup.{Setup}
use Rattle.play_event.specs.Past.{Move}
use Rattle.play_event.specs.Trace.{traced_move, traced_moves}

pub as_many : (setup : Setup) (moves : List Move) → length (traced_moves setup moves) ≡ length moves
as_many setup [] = refl
as_many setup (move ∷ before) = omega (arith, length-append (traced_moves setup before) (traced_move setup move before ∷ []), as_many setup before)
