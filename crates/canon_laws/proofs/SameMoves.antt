-- A canonical script has as many moves as its script, and so is within the limits of a hand if the
-- script is.
use Rattle.std.proofs.Common.{◌≡◌, ◌≤◌, List, length, count_by, reverse, sym, ap, ◌∙◌, arith}
use Rattle.card_set.proofs.Reversed.{count_reversed}
use Rattle.play_event.specs.Past.{moves_of}
use Rattle.play_event.specs.Said.{Said}
use Rattle.play_event.specs.Scripts.{past_at_end}
use Rattle.play_event.specs.declared.setup.Rules.{Rules}
use Rattle.play_event.specs.declared.setup.Setup.{Setup}
use Rattle.play_event.specs.CanonScript.{canon_of}
use Rattle.play_event.specs.PlayedScript.{IsPlayed, IsWithinLimits, is_move_event}
use Rattle.play_event.specs.TraceCore.{core_after}
use Rattle.play_event.specs.declared.hand_limits.TheConstants.{MOST_MOVES}
use Rattle.canon_laws.proofs.Confluent.{confluent}
use Rattle.canon_laws.proofs.MoveCounts.{move_count}
use Rattle.canon_laws.proofs.OtherCounts.{few_others}
use Rattle.play_event.proofs.TracedMoves.{as_many}

-- the moves of a trace are as many as its script's
traced_count : (setup : Setup) (script : List Said) → length (core_after setup script).moves ≡ count_by is_move_event script
traced_count setup script =
    as_many setup (moves_of (past_at_end setup script)) ∙ (move_count setup (reverse script) ∙ count_reversed is_move_event script)

-- the canonical script has as many moves as the script
pub same_moves : (setup : Setup) (rules : Rules) (script : List Said) → IsPlayed setup rules script → count_by is_move_event (canon_of setup script) ≡ count_by is_move_event script
same_moves setup rules script played =
    sym (traced_count setup (canon_of setup script))
    ∙ (ap (λ core. length core.moves) (confluent setup rules script played).same ∙ traced_count setup script)

-- and is within the limits if the moves of the script are
pub canon_within : (setup : Setup) (rules : Rules) (script : List Said) → IsPlayed setup rules script → count_by is_move_event script ≤ MOST_MOVES → IsWithinLimits (canon_of setup script)
canon_within setup rules script played few =
    record { moves = omega (arith, few, same_moves setup rules script played); others = few_others setup (core_after setup script) }
