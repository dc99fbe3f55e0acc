-- One more line.
use Rattle.convert_core.specs.AcpcLaws.{one_line_more}
use Rattle.convert_core.proofs.acpc.AcpcNotation.push_line.Goals as goal

pub returns-clause-line : goal.returns-clause-line
returns-clause-line c = λ lined before many spell.
    one_line_more c.args.self.now.game before c.args.play.now c.args.place c.args.out.now.items c.push_line.new.out.items many spell
    c.in_ok-push_line.ensures.written c.in_ok-push_line.ensures.texts
