use Rattle.std.proofs.Common.{◌∷◌, [], ◌∙◌, nat_le, ap, refl, arith, length}
use Rattle.std.specs.List.{list_all}
use Rattle.std.proofs.lemmas.Bool.{and_parts, le-leb}
use Rattle.std.proofs.lemmas.List.{length-append}
use Rattle.std.proofs.lemmas.List.Folds.{list_all-append}
use Rattle.std.proofs.lemmas.Result.{err_from_is_err_and}
use Rattle.first_fault.specs.Digits.{are_digits}
use Rattle.acpc_game.specs.GameEntries.{numbers_after}
use Rattle.acpc_game.specs.Keys.{most_of}
use Rattle.acpc_game.proofs.Steps.{word_read, word_fails, words_done}
use Rattle.acpc_game.proofs.lines.read_numbers.Goals as goal
use Rattle.first_fault.specs.Words.{words_of}

pub returns-in_err-number-clause-said : goal.returns-in_err-number-clause-said
returns-in_err-number-clause-said c =
    let p = err_from_is_err_and c.from_residual.result c.from_residual.ensures.1 in
    rw (p.1, p.2) (word_fails c.args.line (most_of c.args.key) c.loop-word.numbers.items (words_of c.loop-word.rest.now) (numbers_after c.args.line (most_of c.args.key) [] (words_of c.args.text.now)) c.in_err-number.field-0.0 c.in-Some.word.now (words_of c.in-Some.behind.now) c.in-Some.ensures.words c.in_err-number.ensures.said c.loop-word.invariant.read)

pub loop-word-preserved : goal.loop-word-preserved
loop-word-preserved c =
    let inv = c.loop-word.invariant in
    let number = c.in_ok-number.number in
    let parts = and_parts (are_digits c.in-Some.word.now) (list_all are_digits (words_of c.in-Some.behind.now)) (rw c.in-Some.ensures.words at inv.digits) in
    record {
      digits = parts.1;
      count = omega (arith, inv.count, ap length c.in-Some.ensures.words, ap length c.in_ok-try_push.ensures.items ∙ length-append c.loop-word.numbers.items (number ∷ []));
      bounded = rw (c.in_ok-try_push.ensures.items, list_all-append (λ n. nat_le n (most_of c.args.key)) c.loop-word.numbers.items (number ∷ []), inv.bounded, le-leb number (most_of c.args.key) c.in_ok-number.ensures.bounded) refl;
      read = rw c.in_ok-try_push.ensures.items (word_read c.args.line (most_of c.args.key) c.loop-word.numbers.items (words_of c.loop-word.rest.now) (numbers_after c.args.line (most_of c.args.key) [] (words_of c.args.text.now)) c.in-Some.word.now (words_of c.in-Some.behind.now) number c.in-Some.ensures.words c.in_ok-number.ensures.said inv.read);
    }

pub returns-clause-said : goal.returns-clause-said
returns-clause-said c = words_done c.args.line (most_of c.args.key) c.loop-word.numbers.items (words_of c.loop-word.rest.now) (numbers_after c.args.line (most_of c.args.key) [] (words_of c.args.text.now)) c.in_default.ensures.words c.loop-word.invariant.read
