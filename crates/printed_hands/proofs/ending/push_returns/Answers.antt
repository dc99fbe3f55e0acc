-- One more seat, or none is left.
use Rattle.std.proofs.Common.{◌≡◌, ◌<◌, ◌≤◌, ◌+◌, ◌++◌, ◌∷◌, ◌∙◌, ℕ, List, drop, length, slice_index, string_bytes, ap, append_assoc, sym, arith}
use Rattle.std.proofs.lemmas.List.{append-nil, drop_all, drop_more, get_or-take, length-take-le}
use Rattle.chip_ledger.specs.SeatRow.{amounts_in}
use Rattle.chip_ledger.specs.declared.seat_row.SeatRow.{SeatRow}
use Rattle.printed_hands.specs.Ending.{return_line, return_lines}
use Rattle.printed_hands.proofs.ending.push_returns.Goals as goal

amount_count : (row : SeatRow) → length (amounts_in row) ≡ row.seats
amount_count row = length-take-le row.seats row.amounts (omega (arith, row.full, row.greatest))

one_line : (row : SeatRow) (index : ℕ) (text more whole : List ℕ) → index < row.seats
    → text ++ return_lines (index + 1) (drop index (amounts_in row)) ≡ whole → more ≡ text ++ return_line (index + 1) (slice_index row.amounts index)
    → more ++ return_lines (index + 1 + 1) (drop (index + 1) (amounts_in row)) ≡ whole
one_line row index text more whole within so_far put =
    let amount = slice_index row.amounts index in
    let left = drop (index + 1) (amounts_in row) in
    let split : drop index (amounts_in row) ≡ amount ∷ left =
    drop_more (amounts_in row) index 0 (omega (arith, within, amount_count row)) ∙ ap (λ (n : ℕ). n ∷ left) (get_or-take row.seats row.amounts index 0 within) in
    ap (λ (t : List ℕ). t ++ return_lines (index + 1 + 1) left) put
    ∙ append_assoc text (return_line (index + 1) amount) (return_lines (index + 1 + 1) left)
    ∙ ap (λ (amounts : List ℕ). text ++ return_lines (index + 1) amounts) (sym split)
    ∙ so_far

pub loop-index-preserved : goal.loop-index-preserved
loop-index-preserved c =
    one_line c.args.returned.now c.loop-index.index (string_bytes c.loop-index.text) (string_bytes c.push_return.new.text) _
    c.loop-index-test.true c.loop-index.invariant c.in_ok-push_return.ensures

pub returns : goal.returns
returns c =
    let text = string_bytes c.loop-index.text in
    let index = c.loop-index.index in
    let row = c.args.returned.now in
    let none : length (amounts_in row) ≤ index = omega (arith, c.loop-index-test.false, amount_count row) in
    sym (append-nil text)
    ∙ ap (λ (amounts : List ℕ). text ++ return_lines (index + 1) amounts) (sym (drop_all index (amounts_in row) none))
    ∙ c.loop-index.invariant
