-- The amounts of a row are those of its seats, from the first on.
use Rattle.std.proofs.Common.{◌≡◌, ℕ, ◌-◌, ◌≤◌, List, map, ◌∙◌, ap, append_assoc, codes, ◌++◌}
use Rattle.chip_ledger.specs.SeatRow.{amount_of, amounts_in}
use Rattle.chip_ledger.specs.declared.seat_row.SeatRow.{SeatRow}
use Rattle.play_event.specs.Chips.{chips_left, chips_put}
use Rattle.play_event.specs.Past.{Move}
use Rattle.play_event.specs.Seats.{all_seats}
use Rattle.play_event.specs.declared.setup.Setup.{Setup}
use Rattle.printed_hands.specs.Steps.{HasPut, chips_text}
use Rattle.chip_ledger.specs.AmountTexts.{spaced}
use Rattle.chip_ledger.proofs.RowLists.{row_listed}

-- pieces one after the other
five : (text a b c d e : List ℕ) → ((((text ++ a) ++ b) ++ c) ++ d) ++ e ≡ text ++ (a ++ (b ++ (c ++ (d ++ e))))
five text a b c d e =
    append_assoc (((text ++ a) ++ b) ++ c) d e
    ∙ append_assoc ((text ++ a) ++ b) c (d ++ e)
    ∙ append_assoc (text ++ a) b (c ++ (d ++ e))
    ∙ append_assoc text a (b ++ (c ++ (d ++ e)))

-- the chips are printed from a row of what is left and one of what was put in
pub chips_printed : (setup : Setup) (moves : List Move) (put left : SeatRow) (text : List ℕ) → HasPut setup moves put
    → left.seats ≡ setup.stacks.seats
    → ((n : ℕ) → 1 ≤ n → n ≤ setup.stacks.seats → amount_of left n ≡ amount_of setup.stacks n - amount_of put n)
    → ((((text ++ codes " | stacks") ++ spaced (amounts_in left)) ++ codes " | in") ++ spaced (amounts_in put)) ++ codes "\n"
    ≡ text ++ chips_text setup moves
chips_printed setup moves put left text has seats each =
    let left_is = row_listed (chips_left setup moves) left setup.stacks.seats seats
    (λ n low high. each n low high ∙ ap (λ chips. amount_of setup.stacks n - chips) (has.amounts n low high)) in
    let put_is = row_listed (chips_put setup moves) put setup.stacks.seats has.seats has.amounts in
    rw (left_is, put_is)
    (five text (codes " | stacks") (spaced (map (chips_left setup moves) (all_seats setup))) (codes " | in") (spaced (map (chips_put setup moves) (all_seats setup))) (codes "\n"))
