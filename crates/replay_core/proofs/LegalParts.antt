-- A legal script is its own longest legal beginning, and a part of a hand is one of an equal hand.
use Rattle.std.proofs.Common.{◌≡◌, ℕ, ◌<◌, ◌≤◌, List, length, map, reverse, sym, subst, arith}
use Rattle.std.proofs.lemmas.List.{length-map}
use Rattle.play_event.proofs.SaidSoFar.{all_played}
use Rattle.play_event.specs.Laws.{AreLegal}
use Rattle.play_event.specs.Said.{Said, said_of}
use Rattle.play_event.specs.Scripts.{past_at_end, past_of}
use Rattle.play_event.specs.declared.event.Event.{Event}
use Rattle.play_event.specs.declared.played.Move as rows
use Rattle.play_event.specs.declared.setup.Rules.{Rules}
use Rattle.play_event.specs.declared.setup.Setup.{Setup}
use Rattle.play_laws.proofs.LegalScripts.{legal_script}
use Rattle.replay_core.specs.Events.{AreMovesOf, said_by}
use Rattle.replay_core.specs.LegalPart.{IsLegalPart}

pub whole_part : (setup : Setup) (rules : Rules) (script : List Event) (events : ℕ) (moves : List rows.Move) → events ≡ length script → AreLegal setup rules (reverse (said_by script))
    → AreMovesOf setup (past_at_end setup (said_by script)) moves → IsLegalPart setup rules (said_by script) events moves
whole_part setup rules script events moves all legal are =
    let long = length-map script said_of in
    let played = all_played script events (omega (arith, all)) in
    record {
      beginning = record {
        within = omega (arith, all, long);
        legal = λ index below. (legal_script setup rules (said_by script)).1 legal index (omega (arith, below, all, long));
        longest = λ there. absurd (omega (arith, there, all, long));
      };
      legal = subst (λ (so_far : List Said). AreLegal setup rules so_far) (sym played) legal;
      are = subst (λ (so_far : List Said). AreMovesOf setup (past_of setup so_far) moves) (sym played) are;
    }

pub part_under : (setup other : Setup) (rules others : Rules) (script : List Said) (events : ℕ) (moves : List rows.Move) → other ≡ setup → others ≡ rules
    → IsLegalPart other others script events moves → IsLegalPart setup rules script events moves
part_under setup other rules others script events moves same_setup same_rules part =
    subst (λ (r : Rules). IsLegalPart setup r script events moves) same_rules
    (subst (λ (s : Setup). IsLegalPart s others script events moves) same_setup part)
