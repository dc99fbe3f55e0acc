-- A move is due if the next seat to act has one to make.
use Rattle.std.proofs.Common.{true, false, sym, ◌∙◌}
use Rattle.betting_core.proofs.KeptTurn.{next_due}
use Rattle.betting_core.proofs.dealt.player_to_act.Goals as goal

pub returns-in-Some-clause-due : goal.returns-in-Some-clause-due
returns-in-Some-clause-due c =
    next_due c.args.table.now c.args.behind c.in-Some.seat c.in-Some.is c.requires.behind true (sym c.to_move.ensures ∙ c.if-to_move.true)

pub returns-in-Some-2-clause-due : goal.returns-in-Some-2-clause-due
returns-in-Some-2-clause-due c =
    next_due c.args.table.now c.args.behind c.in-Some.seat c.in-Some.is c.requires.behind false (sym c.to_move.ensures ∙ c.if-to_move.false)
