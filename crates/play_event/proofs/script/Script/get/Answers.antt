use Rattle.std.proofs.Common.{◌∙◌, ap, arith, drop}
use Rattle.play_event.proofs.PackedScripts.{passes, found_at}
use Rattle.play_event.proofs.script.Script.get.Goals as goal

pub loop-preserved : goal.loop-preserved
loop-preserved c =
    passes c.args.self.now c.loop.counter c.next-passed.result c.loop.cursor c.next-passed.new.self (omega arith)
    (record { stands = c.loop.invariant; first = c.next-passed.ensures.first; end = c.next-passed.ensures.end })

pub returns : goal.returns
returns c =
    found_at c.args.self.now c.args.index c.next.result c.loop.cursor c.next.new.self c.unwrap.result c.requires
    (record { stands = c.loop.invariant ∙ ap (λ n. drop n c.args.self.now) (omega arith); first = c.next.ensures.first; end = c.next.ensures.end })
    c.unwrap.ensures
