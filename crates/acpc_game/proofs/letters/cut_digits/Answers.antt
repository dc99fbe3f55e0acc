use Rattle.std.proofs.Common.{sym, ◌∙◌, subst, arith}
use Rattle.acpc_game.proofs.Scan.{IsScanned, scanned}
use Rattle.acpc_game.proofs.letters.cut_digits.Goals as goal

pub split_at-requires : goal.split_at-requires
split_at-requires c = omega (arith, c.digits_len-len.ensures, (scanned c.args.text.now).within)

pub returns-clause-digits : goal.returns-clause-digits
returns-clause-digits c =
    let is = subst (IsScanned c.args.text.now) (sym c.digits_len-len.ensures) (scanned c.args.text.now) in
    is.digits ∙ sym c.split_at.ensures.front

pub returns-clause-letters : goal.returns-clause-letters
returns-clause-letters c =
    let is = subst (IsScanned c.args.text.now) (sym c.digits_len-len.ensures) (scanned c.args.text.now) in
    rw c.split_at.ensures.back is.letters

pub returns-clause-begins : goal.returns-clause-begins
returns-clause-begins c =
    let is = subst (IsScanned c.args.text.now) (sym c.digits_len-len.ensures) (scanned c.args.text.now) in
    rw c.split_at.ensures.back is.behind

pub returns-clause-all : goal.returns-clause-all
returns-clause-all c =
    let is = subst (IsScanned c.args.text.now) (sym c.digits_len-len.ensures) (scanned c.args.text.now) in
    rw c.split_at.ensures.front is.all
