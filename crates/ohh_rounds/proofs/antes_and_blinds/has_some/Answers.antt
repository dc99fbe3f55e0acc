use Rattle.std.proofs.Common.{◌≡◌, ◌+◌, ◌-◌, false, nat_lt, get_or, refl, sym, ap, ◌∙◌, arith}
use Rattle.std.specs.List.{list_any, range_with_len}
use Rattle.chip_ledger.specs.SeatRow.{amount_of}
use Rattle.ohh_rounds.proofs.antes_and_blinds.has_some.Goals as goal
use Rattle.card_set.proofs.Ranges.{any_next}

pub loop-index-preserved : goal.loop-index-preserved
loop-index-preserved c =
    let l = c.loop-index in
    let row = c.args.row.now in
    let at : l.index + 1 - 1 ≡ l.index = omega arith in
    let nothing : get_or row.amounts l.index 0 ≡ 0 = omega arith in
    let none : nat_lt 0 (amount_of row (l.index + 1)) ≡ false = ap (λ n. nat_lt 0 n) (ap (λ k. get_or row.amounts k 0) at ∙ nothing) in
    let fewer : row.seats - (l.index + 1) ≡ row.seats - l.index - 1 = omega arith in
    ap (λ n. list_any (λ seat. nat_lt 0 (amount_of row seat)) (range_with_len (l.index + 1 + 1) n)) fewer
    ∙ sym (any_next (λ seat. nat_lt 0 (amount_of row seat)) (l.index + 1) (row.seats - l.index) (omega arith) ∙ rw none refl)
    ∙ l.invariant
