-- The facts of a play that no bytes can express, whoever wrote them, and hands that do not have the
-- trace of a play.
use Rattle.std.specs.Prelude.{Bool, true, false}
use Rattle.hand_canon.specs.declared.writing.Unspelled.{Unspelled}
use Rattle.hand_canon.specs.declared.writing.Unspelled.TheVariants as facts

-- A fact that cannot be written is sharp if no bytes hold a legal hand with it. If a note is not
-- written again, a hand with the trace of its play may still be read; notes are the only facts of
-- this kind.
abbrev pub is_sharp : Unspelled → Bool
is_sharp (facts.Note name) = false
is_sharp _ = true
