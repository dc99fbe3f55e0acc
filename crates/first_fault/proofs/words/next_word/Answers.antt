use Rattle.std.proofs.Common.{◌∙◌, sym, arith, length, length-drop, not, ◌<◌, refl}
use Rattle.std.proofs.lemmas.List.Sums.{prefix_len-le-length}
use Rattle.card_set.proofs.Words.{first_word, begins_word}
use Rattle.first_fault.proofs.words.next_word.Goals as goal
use Rattle.first_fault.specs.Words.{is_space}

pub split_at-requires : goal.split_at-requires
split_at-requires c = omega (arith, c.position_of-len.ensures, prefix_len-le-length (λ sign. not (is_space sign)) c.skip_spaces-text.result.now)

pub returns-clause-words : goal.returns-clause-words
returns-clause-words c =
    let text = c.skip_spaces-text.result.now in
    let some : 0 < length text = grind arith in
    let long : 0 < c.position_of-len.result = omega (arith, c.position_of-len.ensures, begins_word is_space text some c.skip_spaces-text.ensures.begins) in
    sym c.skip_spaces-text.ensures.words
    ∙ first_word is_space text c.position_of-len.result c.position_of-len.ensures long
    ∙ rw (sym c.split_at.ensures.front, sym c.split_at.ensures.back) refl

pub returns-clause-shorter : goal.returns-clause-shorter
returns-clause-shorter c =
    let text = c.skip_spaces-text.result.now in
    let some : 0 < length text = grind arith in
    let long : 0 < c.position_of-len.result = omega (arith, c.position_of-len.ensures, begins_word is_space text some c.skip_spaces-text.ensures.begins) in
    rw c.split_at.ensures.back (omega (arith, long, some, c.skip_spaces-text.ensures.shorter, length-drop c.position_of-len.result text))
