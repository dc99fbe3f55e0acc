-- Each clause is computed, or breaks one condition.
use Rattle.std.specs.Prelude.{◌≤◌, codes, None, Some, replicate}
use Rattle.std.proofs.Common.{arith, lit≤}
use Rattle.worked_hands.proofs.BlankNotes.{allowed_with}
use Rattle.worked_hands.proofs.notes.texts.Goals as goal

pub returns-clause-nothing : goal.returns-clause-nothing
returns-clause-nothing c = allowed_with None None None None None None None tt tt tt tt tt tt tt tt

pub returns-clause-a_byte : goal.returns-clause-a_byte
returns-clause-a_byte c = allowed_with None None (Some (codes "7")) None None None None tt tt (lit≤ tt, lit≤ tt) tt tt tt tt tt

pub returns-clause-bytes_255 : goal.returns-clause-bytes_255
returns-clause-bytes_255 c = allowed_with None None (Some (replicate 255 65)) None None None None tt tt (lit≤ tt, lit≤ tt) tt tt tt tt tt

pub returns-clause-no_byte : goal.returns-clause-no_byte
returns-clause-no_byte c = λ allowed. let within : 1 ≤ 0 = allowed.texts.0.0 in omega (arith, within)

pub returns-clause-bytes_256 : goal.returns-clause-bytes_256
returns-clause-bytes_256 c = λ allowed. let within : 256 ≤ 255 = allowed.texts.0.1 in omega (arith, within)
