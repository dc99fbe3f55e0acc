-- What the seats put in is what counts for the pots and the dead antes.
use Rattle.std.proofs.Common.{◌≡◌, ℕ, zero, suc, ◌+◌, ◌-◌, ◌*◌, ◌≤◌, ◌<◌, Bool, true, false, List, map, sum_by, refl, ap, ◌∙◌, arith}
use Rattle.std.specs.List.{range_with_len}
use Rattle.std.proofs.lemmas.List.Sums.{sum-map, sum_by-cons}
use Rattle.chip_ledger.specs.declared.live_row.LiveRow.{LiveRow}
use Rattle.chip_ledger.specs.declared.seat_row.SeatRow.{SeatRow}
use Rattle.chip_ledger.specs.LiveRow.{flag_of}
use Rattle.chip_ledger.specs.PotRow.{stake_of, stakes_of}
use Rattle.chip_ledger.specs.Pots.{Stake, counted, dead_chips}
use Rattle.chip_ledger.specs.Seat.{seats_of}
use Rattle.chip_ledger.specs.SeatRow.{amount_of, total_of}
use Rattle.play_event.specs.declared.setup.Setup.{Setup}
use Rattle.play_event.specs.Past.{Move}
use Rattle.play_event.specs.Stakes.{counted_put, stake_after, stakes_after}
use Rattle.replay_core.specs.EndRows.{AreRowsOf}
use Rattle.card_set.proofs.NumbersOfRange.{map_agree, sum_agree}
use Rattle.chip_ledger.specs.declared.seat_row.TheConstants.{MOST_AMOUNT}
use Rattle.chip_ledger.specs.declared.numbers.TheConstants.{MOST_CHIPS}

-- what is counted and what is dead are all that was put in
counted_sum : (dead : Bool) (put ante : ℕ → ℕ) (first count : ℕ) → ((n : ℕ) → first ≤ n → n < first + count → ante n ≤ put n) → sum_by (λ n. counted dead (put n) (ante n)) (range_with_len first count) + dead_chips dead (map ante (range_with_len first count)) ≡ sum_by put (range_with_len first count)
counted_sum false put ante first count within = omega arith
counted_sum true put ante first zero within = refl
counted_sum true put ante first (suc count) within =
    let f : ℕ → ℕ = λ n. put n - ante n in
    omega (
      arith,
      sum_by-cons f first (range_with_len (first + 1) count),
      sum_by-cons put first (range_with_len (first + 1) count),
      sum-map ante (range_with_len first (suc count)),
      sum_by-cons ante first (range_with_len (first + 1) count),
      sum-map ante (range_with_len (first + 1) count),
      within first (omega arith) (omega arith),
      counted_sum true put ante (first + 1) count (λ n from to. within n (omega (arith, from)) (omega (arith, to))),
    )

pub all_counted : (setup : Setup) (puts counted_row : SeatRow) (dead : ℕ) → setup.antes.seats ≡ setup.stacks.seats → puts.seats ≡ setup.stacks.seats → counted_row.seats ≡ puts.seats
    → dead ≡ dead_chips setup.dead_antes (map (amount_of setup.antes) (seats_of setup.stacks.seats))
    → ((n : ℕ) → 1 ≤ n → n ≤ puts.seats → amount_of counted_row n ≡ counted setup.dead_antes (amount_of puts n) (amount_of setup.antes n))
    → ((n : ℕ) → 1 ≤ n → n ≤ setup.stacks.seats → amount_of setup.antes n ≤ amount_of puts n)
    → total_of counted_row + dead ≡ total_of puts
all_counted setup puts counted_row dead same_antes same_puts same_counted dead_is counts posted =
    let n : ℕ = setup.stacks.seats in
    let row = ap (λ k. sum_by (amount_of counted_row) (seats_of k)) (same_counted ∙ same_puts) in
    let each = sum_agree (amount_of counted_row) (λ k. counted setup.dead_antes (amount_of puts k) (amount_of setup.antes k)) 1 n (λ k from to. counts k from (omega (arith, to, same_puts))) in
    let all = counted_sum setup.dead_antes (amount_of puts) (amount_of setup.antes) 1 n (λ k from to. posted k from (omega (arith, to))) in
    let put = ap (λ k. sum_by (amount_of puts) (seats_of k)) same_puts in
    omega (arith, row, each, all, put, dead_is)

-- all seats together put in no more than a row can hold
pub all_within : (setup : Setup) (puts : SeatRow) → puts.seats ≡ setup.stacks.seats → setup.stacks.seats ≤ 10 → ((n : ℕ) → 1 ≤ n → n ≤ setup.stacks.seats → amount_of puts n ≤ MOST_CHIPS) → total_of puts ≤ MOST_AMOUNT
all_within setup puts same few within =
    let put = ap (λ k. sum_by (amount_of puts) (seats_of k)) same in
    omega (arith, put, few, most_of (amount_of puts) 1 setup.stacks.seats (λ n from to. within n from (omega (arith, to))))
  where
    most_of : (f : ℕ → ℕ) (first count : ℕ) → ((n : ℕ) → first ≤ n → n < first + count → f n ≤ MOST_CHIPS) → sum_by f (range_with_len first count) ≤ count * MOST_CHIPS
    most_of f first zero less = omega arith
    most_of f first (suc count) less =
        omega (arith, sum_by-cons f first (range_with_len (first + 1) count), less first (omega arith) (omega arith), most_of f (first + 1) count (λ n from to. less n (omega (arith, from)) (omega (arith, to))))

-- the stake of a seat by the rows is that by the moves
pub stake_is : (setup : Setup) (moves : List Move) (puts counted_row : SeatRow) (live : LiveRow) → AreRowsOf setup moves puts live → puts.seats ≡ setup.stacks.seats
    → ((n : ℕ) → 1 ≤ n → n ≤ puts.seats → amount_of counted_row n ≡ counted setup.dead_antes (amount_of puts n) (amount_of setup.antes n))
    → (n : ℕ) → 1 ≤ n → n ≤ setup.stacks.seats → stake_of counted_row live n ≡ stake_after setup moves n
stake_is setup moves puts counted_row live rows same_puts counts n from to =
    ap {B = Stake} (λ chips. record { seat = n; chips = chips; live = flag_of live n }) (counts n from (omega (arith, to, same_puts)) ∙ ap (λ put. counted setup.dead_antes put (amount_of setup.antes n)) (rows.puts n from to))
    ∙ ap {B = Stake} (λ is. record { seat = n; chips = counted_put setup moves n; live = is }) (rows.lives n from to)

-- the stakes of the rows are those of the moves
pub stakes_are : (setup : Setup) (moves : List Move) (puts counted_row : SeatRow) (live : LiveRow) → AreRowsOf setup moves puts live → puts.seats ≡ setup.stacks.seats → counted_row.seats ≡ puts.seats
    → ((n : ℕ) → 1 ≤ n → n ≤ puts.seats → amount_of counted_row n ≡ counted setup.dead_antes (amount_of puts n) (amount_of setup.antes n))
    → stakes_of counted_row live ≡ stakes_after setup moves
stakes_are setup moves puts counted_row live rows same_puts same_counted counts =
    ap (λ k. map (stake_of counted_row live) (seats_of k)) (same_counted ∙ same_puts)
    ∙ map_agree (stake_of counted_row live) (stake_after setup moves) 1 setup.stacks.seats (λ n from to. stake_is setup moves puts counted_row live rows same_puts counts n from (omega (arith, to)))
