-- The confluence of scripts: the canonical script of the trace of a legal and complete script is
-- legal and complete, and has the same trace.
use Rattle.std.proofs.Common.{ℕ, List, filter, reverse, sym, ◌∙◌, ap, subst}
use Rattle.play_event.specs.declared.setup.Setup.{Setup}
use Rattle.play_event.specs.declared.setup.Rules.{Rules}
use Rattle.play_event.specs.Said.{Said}
use Rattle.play_event.specs.Past.{Past, Move, moves_of}
use Rattle.play_event.specs.Seats.{all_seats}
use Rattle.play_event.specs.Due.{turn, is_unfinished}
use Rattle.play_event.specs.Trace.{traced_places, is_shown}
use Rattle.play_event.specs.Scripts.{past_of}
use Rattle.play_event.specs.TraceCore.{core_of}
use Rattle.play_event.specs.CanonScript.{script_of, canonical_script}
use Rattle.play_event.specs.PlayedScript.{IsPlayed}
use Rattle.canon_laws.specs.Confluence.{HasTraceOf, IsConfluent}
use Rattle.canon_laws.proofs.Runs.{run_of_script}
use Rattle.canon_laws.proofs.LastPast.{IsLast, last_past}
use Rattle.canon_laws.proofs.SameCore.{plain_again, same_core}
use Rattle.play_event.proofs.ScriptLaws.{at_end}

words_confluent : (setup : Setup) (rules : Rules) (script words : List Said) → IsPlayed setup rules script → IsLast setup rules (past_of setup (reverse script)) words → HasTraceOf setup rules script words
words_confluent setup rules script words played it =
    let run = run_of_script setup rules words it.after it.run in
    record {
      played = record {
        legal = run.legal;
        complete = ap (λ p. is_unfinished (turn setup p).1) (at_end setup words ∙ run.past) ∙ it.ends;
      };
      same = ap (core_of setup) run.past ∙ same_core setup rules (reverse script) words played.legal it;
    }

-- if a script is played to its end, so is its canonical script, with the same trace
pub confluent : (setup : Setup) (rules : Rules) (script : List Said) → IsPlayed setup rules script → IsConfluent setup rules script
unfolding canonical_script
confluent setup rules script played =
    let past : Past = past_of setup (reverse script) in
    let tp = traced_places setup past in
    let shown : List ℕ = filter (is_shown setup past) (all_seats setup) in
    let P : List Move → Type 0 = λ l. HasTraceOf setup rules script (script_of setup tp l shown) in
    subst P (sym (plain_again setup (moves_of past)))
    (words_confluent setup rules script (script_of setup tp (moves_of past) shown) played
    (last_past setup rules (reverse script) played.legal (sym (ap (λ p. is_unfinished (turn setup p).1) (at_end setup script)) ∙ played.complete)))
