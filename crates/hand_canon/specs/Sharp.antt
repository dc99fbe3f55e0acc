-- The facts of a play that no bytes can say, whoever wrote them, and hands that do not have the
-- trace of a play.
use Rattle.std.specs.Prelude.{Bool, false, true}
use Rattle.hand_canon.specs.LegalPlay.{IsTraceOfLegal}
use Rattle.hand_canon.specs.declared.record.Record.{Record}
use Rattle.hand_canon.specs.declared.trace.Play.{Play}
use Rattle.hand_canon.specs.declared.writing.Unspelled.{Unspelled}
use Rattle.hand_canon.specs.declared.writing.Unspelled.TheVariants as facts

-- a hand is not that of a play: it is not legal with the trace of the play
abbrev pub IsOther : Play → Record → Type 0
IsOther play hand = IsTraceOfLegal hand play.trace → ⊥

-- A fact that cannot be expressed is sharp if no bytes say a legal hand that has it. A hand that is
-- read may have the trace of a play with an odd chip, or with a note that is not written again; it
-- has no other such fact.
abbrev pub is_sharp : Unspelled → Bool
is_sharp facts.OddChip = false
is_sharp (facts.Note name) = false
is_sharp _ = true
