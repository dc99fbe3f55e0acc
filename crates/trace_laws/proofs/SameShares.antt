-- What is read from the end of a trace is the same if the trace is.
use Rattle.std.proofs.Common.{◌≡◌, ◌↔◌, ℕ, List, subst, sym}
use Rattle.play_event.specs.Said.{Said}
use Rattle.play_event.specs.declared.setup.Rules.{Rules}
use Rattle.play_event.specs.declared.setup.Setup.{Setup}
use Rattle.play_event.specs.TraceCore.{TraceCore, core_after}
use Rattle.play_event.specs.CanonScript.{canon_of}
use Rattle.canon_laws.proofs.Confluent.{confluent}
use Rattle.play_event.specs.PlayedScript.{IsPlayed}
use Rattle.hand_canon.specs.LegalHand.{IsLegalHand, IsShareable}
use Rattle.hand_canon.specs.WholeTrace.{HasShares}

-- the canonical script leads to the trace of the script
pub same_trace : (setup : Setup) (rules : Rules) (script : List Said) → IsPlayed setup rules script → core_after setup (canon_of setup script) ≡ core_after setup script
same_trace setup rules script played = (confluent setup rules script played).same

-- so it is a legal hand if the script is
pub legal_hand : (setup : Setup) (rules : Rules) (script : List Said) → IsLegalHand setup rules script → IsLegalHand setup rules (canon_of setup script)
legal_hand setup rules script legal =
    record {
      played = (confluent setup rules script legal.played).played;
      shareable = let P : TraceCore → Type 0 = IsShareable setup in subst P (sym (same_trace setup rules script legal.played)) legal.shareable;
    }

-- and has its shares
pub same_shares : (setup : Setup) (rules : Rules) (script : List Said) (shares : List (ℕ → ℕ)) (finish : ℕ → ℕ) → IsPlayed setup rules script → HasShares setup (core_after setup script) shares finish ↔ HasShares setup (core_after setup (canon_of setup script)) shares finish
same_shares setup rules script shares finish played =
    let P : TraceCore → Type 0 = λ trace. HasShares setup trace shares finish in
    ((λ has. subst P (sym (same_trace setup rules script played)) has), (λ has. subst P (same_trace setup rules script played) has))
