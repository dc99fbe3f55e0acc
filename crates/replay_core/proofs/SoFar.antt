-- The state of the play of a script after some events, and after one more.
use Rattle.std.proofs.Common.{◌≡◌, ℕ, ◌+◌, ◌-◌, ◌<◌, inl, inr, Option, Some, None, List, slice_get, option_and_then, sym, subst, ◌∙◌, ap, arith}
use Rattle.std.specs.Option.{option_map}
use Rattle.std.proofs.lemmas.Bool.{cases_lt}
use Rattle.std.proofs.lemmas.List.{length-map}
use Rattle.betting_numbers.specs.declared.betting_state.BettingState.{BettingState}
use Rattle.card_places.specs.declared.card_state.CardState.{CardState}
use Rattle.replay_core.specs.Together.{StandTogether}
use Rattle.play_event.specs.declared.event.Event.{Event}
use Rattle.play_event.specs.declared.played.Move as rows
use Rattle.play_event.specs.declared.reason.Illegal.{Illegal}
use Rattle.play_event.specs.declared.setup.Rules.{Rules}
use Rattle.play_event.specs.declared.setup.Setup.{Setup}
use Rattle.play_event.specs.Laws.{AreLegal}
use Rattle.play_event.specs.Reasons.{why}
use Rattle.play_event.specs.Said.{Said, said_of}
use Rattle.play_event.specs.Scripts.{IsFirstIllegal, past_of, past_after, with_event, why_at}
use Rattle.replay_core.specs.declared.fault.ReplayFault.{ReplayFault}
use Rattle.replay_core.specs.declared.fault.ReplayFault.TheVariants as faults
use Rattle.replay_core.specs.Events.{AreMovesOf, AreRefused, IsRefusedEvent, said_by}
use Rattle.replay_core.specs.LegalPart.{ArePlayedBefore, IsLegalPart}
use Rattle.play_event.proofs.SaidSoFar.{IsNext, said_next, so_far}

-- the state of the play of a script after this many events
pub record IsPlayedTo (setup : Setup) (rules : Rules) (script : List Event) (count : ℕ) (b : BettingState) (t : CardState) (added : List rows.Move) : Type 0 where
  pub earlier : (index : ℕ) → index < count → why_at setup rules (said_by script) index ≡ None
  pub legal : AreLegal setup rules (so_far script count)
  pub stands : StandTogether b t (past_of setup (so_far script count))
  pub moves : AreMovesOf setup (past_of setup (so_far script count)) added

why_next : (setup : Setup) (rules : Rules) (script : List Event) (count : ℕ) (event : Event) (found : Option Illegal) → slice_get script count ≡ Some event → why setup rules (past_of setup (so_far script count)) (said_of event) ≡ found → why_at setup rules (said_by script) count ≡ found
why_next setup rules script count event found at is = ap (option_and_then (why setup rules (past_after setup (said_by script) count))) (said_next script count event at) ∙ is

-- and after one more
pub one_more : (setup : Setup) (rules : Rules) (script : List Event) (count : ℕ) (event : Event) (more : List Event) (b next : BettingState) (t after : CardState) (moves longer : List rows.Move)
    → IsNext script count event more → IsPlayedTo setup rules script count b t moves
    → why setup rules (past_of setup (so_far script count)) (said_of event) ≡ None
    → StandTogether next after (with_event setup (said_of event) (past_of setup (so_far script count)))
    → AreMovesOf setup (with_event setup (said_of event) (past_of setup (so_far script count))) longer
    → IsPlayedTo setup rules script (count + 1) next after longer
one_more setup rules script count event more b next t after moves longer is played legal stands added =
    let P : List Said → Type 0 = λ events. StandTogether next after (past_of setup events) in
    let Q : List Said → Type 0 = λ events. AreMovesOf setup (past_of setup events) longer in
    let R : List Said → Type 0 = AreLegal setup rules in
    record {
      earlier = λ index below. elim (cases_lt index count) [
        | inl before ↦ played.earlier index before
        | inr now ↦ let same : index ≡ count = omega (arith, now, below) in ap (why_at setup rules (said_by script)) same ∙ why_next setup rules script count event None is.here legal
      ];
      legal = subst R (sym is.longer) (legal, played.legal);
      stands = subst P (sym is.longer) stands;
      moves = subst Q (sym is.longer) added;
    }

-- the first illegal event
pub refused_at : (setup : Setup) (rules : Rules) (script : List Event) (count : ℕ) (event : Event) (more : List Event) (b : BettingState) (t : CardState) (moves : List rows.Move) (fault : ReplayFault)
    → IsNext script count event more → IsPlayedTo setup rules script count b t moves → b.setup ≡ setup → b.rules ≡ rules → IsRefusedEvent b event (count + 1) (past_of setup (so_far script count)) fault → AreRefused setup rules script fault
refused_at setup rules script count event more b t moves (faults.Illegal added at reason) is played same_setup same_rules refused =
    let index : added - 1 ≡ count = omega (arith, refused.0) in
    let legal : why setup rules (past_of setup (so_far script count)) (said_of event) ≡ Some reason =
    sym (ap (λ s. why s b.rules (past_of setup (so_far script count)) (said_of event)) same_setup ∙ ap (λ r. why setup r (past_of setup (so_far script count)) (said_of event)) same_rules) ∙ refused.2 in
    let P : ℕ → Type 0 = λ n. IsFirstIllegal setup rules (said_by script) n reason in
    record {
      counted = omega (arith, refused.0);
      first = subst P (sym index) (record { legal_before = played.earlier; illegal = why_next setup rules script count event (Some reason) is.here legal });
      action = ap (λ n. option_map (λ (e : Event). e.at) (slice_get script n)) index ∙ (ap (option_map (λ (e : Event). e.at)) is.here ∙ ap Some (sym refused.1));
    }
refused_at setup rules script count event more b t moves (faults.EndsEarly events) is played same_setup same_rules refused = refused
refused_at setup rules script count event more b t moves (faults.RakeTooBig pot) is played same_setup same_rules refused = refused
refused_at setup rules script count event more b t moves (faults.NoShownHand pot) is played same_setup same_rules refused = refused
refused_at setup rules script count event more b t moves (faults.Memory memory) is played same_setup same_rules refused = tt

-- the moves before it
pub moves_before : (setup : Setup) (rules : Rules) (script : List Event) (count : ℕ) (event : Event) (more : List Event) (b : BettingState) (t : CardState) (moves new : List rows.Move) (fault : ReplayFault)
    → IsNext script count event more → IsPlayedTo setup rules script count b t moves → new ≡ moves → AreRefused setup rules script fault → IsRefusedEvent b event (count + 1) (past_of setup (so_far script count)) fault
    → ArePlayedBefore setup rules (said_by script) new fault
moves_before setup rules script count event more b t moves new (faults.Illegal added at reason) is played same first refused =
    let index : added - 1 ≡ count = omega (arith, refused.0) in
    let P : ℕ → Type 0 = λ n. IsLegalPart setup rules (said_by script) n new in
    subst P (sym index)
    (record {
      beginning = record {
        within = omega (arith, is.within, length-map script said_of);
        legal = played.earlier;
        longest = λ there. (reason, subst (λ n. why_at setup rules (said_by script) n ≡ Some reason) index first.first.illegal);
      };
      legal = played.legal;
      are = subst (λ (list : List rows.Move). AreMovesOf setup (past_of setup (so_far script count)) list) (sym same) played.moves;
    })
moves_before setup rules script count event more b t moves new (faults.EndsEarly events) is played same first refused = tt
moves_before setup rules script count event more b t moves new (faults.RakeTooBig pot) is played same first refused = tt
moves_before setup rules script count event more b t moves new (faults.NoShownHand pot) is played same first refused = tt
moves_before setup rules script count event more b t moves new (faults.Memory memory) is played same first refused = tt
