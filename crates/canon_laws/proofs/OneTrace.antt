-- Scripts that are played to their ends have the same trace if and only if they have the same
-- canonical script.
use Rattle.std.proofs.Common.{◌≡◌, ◌↔◌, List, ap, sym, ◌∙◌}
use Rattle.play_event.specs.Said.{Said}
use Rattle.play_event.specs.declared.setup.Rules.{Rules}
use Rattle.play_event.specs.declared.setup.Setup.{Setup}
use Rattle.play_event.specs.CanonScript.{canonical_script, canon_of}
use Rattle.play_event.specs.TraceCore.{core_after}
use Rattle.play_event.specs.PlayedScript.{IsPlayed}
use Rattle.canon_laws.proofs.Confluent.{confluent}

-- one trace has one canonical script; and each script has the trace of its canonical script
pub one_trace : (setup : Setup) (rules others : Rules) (script other : List Said) → IsPlayed setup rules script → IsPlayed setup others other → (core_after setup script ≡ core_after setup other) ↔ (canon_of setup script ≡ canon_of setup other)
one_trace setup rules others script other played also = (
  (λ same. ap (canonical_script setup) same),
  (λ same. sym (confluent setup rules script played).same ∙ (ap (core_after setup) same ∙ (confluent setup others other also).same)),
)

-- the canonical script of a canonical script is itself
pub its_own : (setup : Setup) (rules : Rules) (script : List Said) → IsPlayed setup rules script → canon_of setup (canon_of setup script) ≡ canon_of setup script
its_own setup rules script played = ap (canonical_script setup) (confluent setup rules script played).same
