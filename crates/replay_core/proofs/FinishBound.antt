-- What a player finishes with is no more than all stacks together.
use Rattle.std.proofs.Common.{◌≡◌, ℕ, suc, ◌+◌, ◌-◌, ◌≤◌, List, [], ◌∷◌, All, slice_get, sum_by, refl, ap, arith}
use Rattle.std.specs.Option.{option_map_or}
use Rattle.std.proofs.lemmas.List.Sums.{sum_by-cons}
use Rattle.card_set.proofs.Sums.{sum_by-map, sum_by-plus}
use Rattle.chip_ledger.specs.declared.pots.Pot.{Pot}
use Rattle.chip_ledger.specs.declared.pots.PotRow.{PotRow}
use Rattle.chip_ledger.specs.declared.shares.ShareRow.{ShareRow}
use Rattle.chip_ledger.specs.declared.seat_row.SeatRow.{SeatRow}
use Rattle.chip_ledger.specs.PotRow.{plain, plain_pots, pots_in, shared_in, shares_in}
use Rattle.chip_ledger.specs.Pots.{PlainPot}
use Rattle.chip_ledger.specs.RakeRow.{rake_of}
use Rattle.chip_ledger.specs.Rakes.{chips_in}
use Rattle.chip_ledger.specs.Seat.{seats_of}
use Rattle.chip_ledger.specs.SeatRow.{amount_of, total_of}
use Rattle.play_event.specs.declared.setup.Setup.{Setup}
use Rattle.replay_core.proofs.Counted.{all_within}
use Rattle.card_set.proofs.NumbersOfRange.{one_of_sum, sum_agree}
use Rattle.chip_ledger.specs.declared.seat_row.TheConstants.{MOST_AMOUNT}
use Rattle.chip_ledger.specs.declared.numbers.TheConstants.{MOST_CHIPS}

amount_within : (row : SeatRow) (n : ℕ) → 1 ≤ n → n ≤ row.seats → amount_of row n ≤ total_of row
amount_within row n low high = one_of_sum (amount_of row) 1 row.seats n low (omega (arith, high))

-- the shares of all pots are no more than the pots
shares_within : (rows : List SeatRow) (pots : List PlainPot) → ((k : ℕ) → option_map_or total_of (slice_get rows k) 0 ≤ option_map_or (λ pot. pot.chips) (slice_get pots k) 0) → sum_by total_of rows ≤ sum_by (λ pot. pot.chips) pots
shares_within [] pots each = omega arith
shares_within (row ∷ rows) [] each =
    omega (arith, sum_by-cons total_of row rows, each 0, shares_within rows [] (λ k. each (suc k)))
shares_within (row ∷ rows) (pot ∷ pots) each =
    omega (arith, sum_by-cons total_of row rows, sum_by-cons (λ (p : PlainPot). p.chips) pot pots, each 0, shares_within rows pots (λ k. each (suc k)))

-- a seat's shares are no more than all shares
seat_within : (rows : List SeatRow) (seats n : ℕ) → 1 ≤ n → n ≤ seats → All (λ (row : SeatRow). row.seats ≡ seats) rows → sum_by (λ row. amount_of row n) rows ≤ sum_by total_of rows
seat_within [] seats n low high same = omega arith
seat_within (row ∷ rows) seats n low high same =
    omega (
      arith,
      sum_by-cons (λ (r : SeatRow). amount_of r n) row rows,
      sum_by-cons total_of row rows,
      amount_within row n low (omega (arith, high, same 0 row (omega arith))),
      seat_within rows seats n low high (λ k d within. same (suc k) d (omega (arith, within))),
    )

pub finish_within : (setup : Setup) (puts left : SeatRow) (pots : PotRow) (shares : ShareRow) (n : ℕ) → setup.stacks.seats ≤ 10 → puts.seats ≡ setup.stacks.seats → left.seats ≡ setup.stacks.seats → pots.returned.seats ≡ setup.stacks.seats
    → ((k : ℕ) → 1 ≤ k → k ≤ setup.stacks.seats → amount_of setup.stacks k ≤ MOST_CHIPS)
    → ((k : ℕ) → 1 ≤ k → k ≤ setup.stacks.seats → amount_of puts k + amount_of left k ≡ amount_of setup.stacks k)
    → sum_by (λ (pot : Pot). pot.chips) (pots_in pots) + total_of pots.returned ≡ total_of puts
    → ((number : ℕ) → shared_in shares number + rake_of setup.rakes number ≡ chips_in (plain_pots pots) number)
    → All (λ (row : SeatRow). row.seats ≡ setup.stacks.seats) (shares_in shares)
    → 1 ≤ n → n ≤ setup.stacks.seats
    → amount_of left n + (amount_of pots.returned n + sum_by (λ row. amount_of row n) (shares_in shares)) ≤ MOST_AMOUNT
finish_within setup puts left pots shares n few same_puts same_left same_returned most whole conserved shared same_shares low high =
    let seats : ℕ = setup.stacks.seats in
    let each : (k : ℕ) → option_map_or total_of (slice_get (shares_in shares) k) 0 ≤ option_map_or (λ (pot : PlainPot). pot.chips) (slice_get (plain_pots pots) k) 0 = λ k.
    let index : (k + 1) - 1 ≡ k = omega arith in
    omega (
      arith,
      shared (k + 1),
      ap (λ i. option_map_or total_of (slice_get (shares_in shares) i) 0) index,
      ap (λ i. option_map_or (λ (pot : PlainPot). pot.chips) (slice_get (plain_pots pots) i) 0) index,
    ) in
    omega (
      arith,
      amount_within left n low (omega (arith, high, same_left)),
      amount_within pots.returned n low (omega (arith, high, same_returned)),
      seat_within (shares_in shares) seats n low high same_shares,
      shares_within (shares_in shares) (plain_pots pots) each,
      sum_by-map (λ (pot : PlainPot). pot.chips) plain (pots_in pots),
      conserved,
      ap (λ k. sum_by (amount_of puts) (seats_of k)) same_puts,
      ap (λ k. sum_by (amount_of left) (seats_of k)) same_left,
      sum_by-plus (amount_of puts) (amount_of left) (seats_of seats),
      sum_agree (λ k. amount_of puts k + amount_of left k) (amount_of setup.stacks) 1 seats (λ k from to. whole k from (omega (arith, to))),
      all_within setup setup.stacks refl few most,
    )
