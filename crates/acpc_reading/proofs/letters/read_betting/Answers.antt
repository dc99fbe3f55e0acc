use Rattle.std.proofs.Common.{rules, ◌≡◌, ◌∙◌, ◌+◌, ap, arith, length, refl}
use Rattle.std.proofs.lemmas.List.{nil_from_length}
use Rattle.std.proofs.lemmas.Result.{err_from_is_err_and}
use Rattle.acpc_game.specs.Letters.{scan}
use Rattle.acpc_reading.specs.Betting.{bets_after, betting_said}
use Rattle.acpc_reading.specs.Views.{bets_in}
use Rattle.acpc_reading.proofs.EachLetter.{begins_bare, goes_on, ends, is_done}
use Rattle.acpc_reading.proofs.letters.read_betting.Goals as goal

pub invariant_of-next-clause-near : goal.invariant_of-next-clause-near
invariant_of-next-clause-near c = omega (arith, ap length c.in-Some.ensures, c.cut_digits-in-Some.ensures.len, c.loop-letter.invariant.place_is, c.requires)

pub returns-in_err-take_letter-clause-err : goal.returns-in_err-take_letter-clause-err
returns-in_err-take_letter-clause-err c =
    let p = err_from_is_err_and c.from_residual.result c.from_residual.ensures.1 in
    rw (p.1, p.2) (ends c.args.no_limit c.in_err-take_letter.field-0.0 (bets_in c.loop-letter.betting) c.loop-letter.place c.in-Some.letter c.loop-letter.rest.now c.in-Some.behind.now c.cut_digits-in-Some.result.0.now c.cut_digits-in-Some.result.1.now (betting_said c.args.no_limit c.args.betting.now.file_moves c.args.at c.args.text.now) c.in-Some.ensures c.cut_digits-in-Some.ensures.digits c.cut_digits-in-Some.ensures.letters c.loop-letter.invariant.begins c.in_err-take_letter.ensures.err c.loop-letter.invariant.read)

pub loop-letter-preserved : goal.loop-letter-preserved
loop-letter-preserved c =
    let next = c.loop-letter.place + 1 + length c.cut_digits-in-Some.result.0.now in
    record {
      begins = c.cut_digits-in-Some.ensures.begins;
      place_is = omega (arith, ap length c.in-Some.ensures, c.cut_digits-in-Some.ensures.len, c.loop-letter.invariant.place_is);
      read =
          (let place : c.loop-letter.place + (1 + length c.cut_digits-in-Some.result.0.now) ≡ next = omega arith in
          rw place (goes_on c.args.no_limit (bets_in c.loop-letter.betting) (bets_in c.take_letter.new.betting) c.loop-letter.place c.in-Some.letter c.loop-letter.rest.now c.in-Some.behind.now c.cut_digits-in-Some.result.0.now c.cut_digits-in-Some.result.1.now (betting_said c.args.no_limit c.args.betting.now.file_moves c.args.at c.args.text.now) c.in-Some.ensures c.cut_digits-in-Some.ensures.digits c.cut_digits-in-Some.ensures.letters c.loop-letter.invariant.begins c.in_ok-take_letter.ensures.ok c.loop-letter.invariant.read));
    }

pub returns-clause-ok : goal.returns-clause-ok
returns-clause-ok c = is_done c.args.no_limit (bets_in c.loop-letter.betting) c.loop-letter.place c.loop-letter.rest.now (betting_said c.args.no_limit c.args.betting.now.file_moves c.args.at c.args.text.now) c.in_default.ensures c.loop-letter.invariant.read

pub loop-letter-init : goal.loop-letter-init
loop-letter-init c =
    let none = c.cut_digits.ensures.digits ∙ nil_from_length c.cut_digits.result.0.now (search rules) in
    record {
      begins = none;
      place_is = refl;
      read = ap (λ bets. bets_after c.args.no_limit bets c.args.at (scan c.args.text.now).1) c.clear.ensures ∙ begins_bare c.args.no_limit c.args.betting.now.file_moves c.args.at c.args.text.now none;
    }
