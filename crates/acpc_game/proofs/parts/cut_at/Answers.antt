use Rattle.std.proofs.Common.{◌<◌, ◌∙◌, refl, arith, length}
use Rattle.acpc_game.proofs.PartLaws.{first_part, last_part, most_place}
use Rattle.std.proofs.lemmas.List.{drop-drop}
use Rattle.acpc_game.proofs.parts.cut_at.Goals as goal

pub returns-then-len-text-clause-parts : goal.returns-then-len-text-clause-parts
returns-then-len-text-clause-parts c = last_part c.args.sign c.args.text.now (omega (arith, c.position_of-len.ensures, c.if-len-text.true))

pub split_at-requires : goal.split_at-requires
split_at-requires c = omega (arith, c.position_of-len.ensures, most_place c.args.sign c.args.text.now)

pub returns-clause-parts : goal.returns-clause-parts
returns-clause-parts c =
    let len = c.position_of-len.result in
    let inside : len < length c.args.text.now = omega (arith, c.position_of-len.ensures, most_place c.args.sign c.args.text.now, c.if-len-text.false) in
    first_part c.args.sign len c.args.text.now c.position_of-len.ensures inside
    ∙ rw (c.split_at.ensures.front, c.split_at-2.ensures.back, c.split_at.ensures.back, drop-drop 1 len c.args.text.now) refl
