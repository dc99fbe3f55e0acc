-- The hand is made, and it is sound and legal.
use Rattle.std.proofs.Common.{◌≡◌, map, refl, sym, subst, ◌∙◌}
use Rattle.hand_canon.specs.LegalHand.{IsLegalHand}
use Rattle.play_event.specs.declared.setup.Rules.{Rules}
use Rattle.play_event.specs.Said.{said_of}
use Rattle.card_set.specs.declared.memory.Memory.{Memory}
use Rattle.replay_core.proofs.OneFault.{no_fault}
use Rattle.replay_core.specs.declared.fault.ReplayFault.{ReplayFault}
use Rattle.replay_core.specs.declared.fault.ReplayFault.TheVariants as faults
use Rattle.replay_core.specs.Faults.{IsOutOfMemory}
use Rattle.hand_gen.specs.Made.{IsMadeScript, source_of}
use Rattle.hand_gen.specs.HandSource.{HandSource, full_deck}
use Rattle.hand_gen.specs.Setups.{number_behind_setup}
use Rattle.hand_gen.proofs.RecordLaws.{none_allowed, same_source}
use Rattle.hand_gen.proofs.SetupLaws.{made_small, made_valid}
use Rattle.hand_gen.proofs.making.make_play.Goals as goal

-- a fault that is not out of memory
not_memory : (fault : ReplayFault) → ((memory : Memory) → fault ≡ faults.Memory memory → ⊥) → ¬ IsOutOfMemory fault
not_memory (faults.Illegal event at reason) other is = is
not_memory (faults.EndsEarly events) other is = is
not_memory (faults.RakeTooBig pot) other is = is
not_memory (faults.NoShownHand pot) other is = is
not_memory (faults.Memory memory) other is = other memory refl

pub script_by_code-requires : goal.script_by_code-requires
script_by_code-requires c = record {
  small = made_small c.args.place c.args.number c.setup_at-setup.result c.setup_at-setup.ensures;
  deck = c.in_ok-stock.ensures.deck;
}

pub unreachable-requires : goal.unreachable-requires
unreachable-requires c =
    let setup = c.setup_at-setup.result in
    let script = c.in_ok-script.script in
    let legal = subst (λ (r : Rules). IsLegalHand setup r (map said_of script)) (sym c.history_rules-rules.ensures) c.in_ok-script.ensures.legal in
    no_fault setup c.history_rules-rules.result script c.in-Err.fault (not_memory c.in-Err.fault c.in_default.not-Memory) legal c.in-Err.ensures.fault

pub replay-requires-clause-valid : goal.replay-requires-clause-valid
replay-requires-clause-valid c = made_valid c.args.place c.args.number c.setup_at-setup.result c.setup_at-setup.ensures

pub returns-clause-made : goal.returns-clause-made
returns-clause-made c =
    let setup = c.setup_at-setup.result in
    let start : c.in_ok-stock.stock ≡ source_of c.args.number setup =
    same_source c.in_ok-stock.stock (number_behind_setup c.args.number setup) (full_deck setup.code) (c.in_ok-stock.ensures.number ∙ c.advance_past_setup-start.ensures) c.in_ok-stock.ensures.deck in
    record {
      setup = c.setup_at-setup.ensures;
      rules = c.history_rules-rules.ensures;
      script = subst (λ (s : HandSource). IsMadeScript setup s c.in_ok-script.script) start c.in_ok-script.ensures.made;
      stated = c.nothing.ensures;
      notes = c.none.ensures;
    }

pub returns-clause-sound : goal.returns-clause-sound
returns-clause-sound c =
    let setup = c.setup_at-setup.result in
    record {
      valid = made_valid c.args.place c.args.number setup c.setup_at-setup.ensures;
      within = c.in_ok-script.ensures.within;
      legal = c.in-Ok.ensures.legal;
      trace = c.in-Ok.ensures.trace;
      notes = none_allowed setup.stacks.seats c.none.result c.none.ensures;
    }
