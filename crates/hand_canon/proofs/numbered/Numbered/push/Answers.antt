use Rattle.std.proofs.Common.{◌∙◌, ◌+◌, ap}
use Rattle.hand_canon.proofs.WrittenWords.{numbered_after}
use Rattle.hand_canon.proofs.numbered.Numbered.push.Goals as goal
use Rattle.first_fault.specs.Numbers.{saturated}

pub invariant_of-self : goal.invariant_of-self
invariant_of-self c = record {
  numbered = numbered_after c.push.result c.args.self.now.script c.push.new.self _ c.args.self.now.numbered (c.number_after-at.ensures ∙ ap (λ n. saturated (n + 1)) c.len.ensures) c.push.ensures.pushed c.push.ensures.unchanged;
}
