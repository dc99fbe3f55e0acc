-- The hand is legal and has the trace.
use Rattle.std.specs.Prelude.{codes, None, Some}
use Rattle.std.proofs.Common.{lit≤, refl}
use Rattle.play_event.specs.HistoryRules.{history_rules}
use Rattle.worked_hands.specs.Setups.{no_limit}
use Rattle.worked_hands.proofs.ValidBy.{valid_by}
use Rattle.worked_hands.specs.Traces.{steal, steal_trace}
use Rattle.worked_hands.specs.WrittenNotes.{at_table, no_notes}
use Rattle.worked_hands.proofs.BlankNotes.{allowed_with}
use Rattle.worked_hands.proofs.SaidPlays.{sound_by}
use Rattle.worked_hands.proofs.Steal.{steal_is, steal_legal}
use Rattle.worked_hands.proofs.sound.sound_plays.Goals as goal

pub returns-clause-without_notes : goal.returns-clause-without_notes
returns-clause-without_notes c = λ hand says.
    sound_by no_limit history_rules steal no_notes hand steal_trace says
    (valid_by no_limit refl refl refl refl) (record { moves = lit≤ tt; others = lit≤ tt }) steal_legal steal_is
    (allowed_with None None None None None None None tt tt tt tt tt tt tt tt)

pub returns-clause-with_a_table : goal.returns-clause-with_a_table
returns-clause-with_a_table c = λ hand says.
    sound_by no_limit history_rules steal (at_table (codes "7")) hand steal_trace says
    (valid_by no_limit refl refl refl refl) (record { moves = lit≤ tt; others = lit≤ tt }) steal_legal steal_is
    (allowed_with None None (Some (codes "7")) None None None None tt tt (lit≤ tt, lit≤ tt) tt tt tt tt tt)
