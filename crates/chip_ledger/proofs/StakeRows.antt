-- What the stakes of two rows are, read from the rows.
use Rattle.std.proofs.Common.{◌≡◌, ◌≢◌, ℕ, ◌-◌, ◌≤◌, Bool, true, false, ◌&&◌, cond, List, [], ◌∷◌, refl, sym, ap, ◌∙◌, nat_le, map, filter, sum_by}
use Rattle.std.specs.List.{list_any}
use Rattle.std.proofs.lemmas.Bool.{true_from_ne_false}
use Rattle.std.proofs.lemmas.Simd.{map-map}
use Rattle.card_set.proofs.Sums.{sum_by-map}
use Rattle.card_set.proofs.Numbers.{and_zero}
use Rattle.card_set.proofs.Any.{nothing_kept, list_any-map}
use Rattle.chip_ledger.specs.declared.live_row.LiveRow.{LiveRow}
use Rattle.chip_ledger.specs.declared.seat_row.SeatRow.{SeatRow}
use Rattle.chip_ledger.specs.LiveRow.{flag_of, flagged}
use Rattle.chip_ledger.specs.SeatRow.{amount_of, total_of}
use Rattle.chip_ledger.specs.PotRow.{stake_of, stakes_of}
use Rattle.chip_ledger.specs.Pots.{Stake, after_return, reaching, returned, without_returned}
use Rattle.chip_ledger.specs.Seat.{seats_of}
use Rattle.chip_ledger.proofs.PotSums.{stake_chips}
use Rattle.chip_ledger.proofs.Seats.{filter-seats, map-seats, sum-seats}

kept_seat : (puts : SeatRow) (live : LiveRow) (n : ℕ) (ns : List ℕ) (ss : List Stake)
    (keeps : Bool)
    → map (λ (s : Stake). s.seat) ss ≡ ns
    → map (λ (s : Stake). s.seat) (cond keeps (stake_of puts live n ∷ ss) ss) ≡ cond keeps (n ∷ ns) ns
kept_seat puts live n ns ss true e = ap (λ ms. n ∷ ms) e
kept_seat puts live n ns ss false e = e

seats_kept : (puts : SeatRow) (live : LiveRow) (q : Stake → Bool) (ns : List ℕ)
    → map (λ (s : Stake). s.seat) (filter q (map (stake_of puts live) ns))
    ≡ filter (λ n. q (stake_of puts live n)) ns
seats_kept puts live q [] = refl
seats_kept puts live q (n ∷ ns) =
    kept_seat puts live n (filter (λ m. q (stake_of puts live m)) ns)
    (filter q (map (stake_of puts live) ns)) (q (stake_of puts live n)) (seats_kept puts live q ns)

-- a row of flags that says for each seat whether it is live and reaches a level
pub flagged-reaching : (row : LiveRow) (puts : SeatRow) (live : LiveRow) (level : ℕ)
    → row.seats ≡ puts.seats
    → ((n : ℕ) → 1 ≤ n → n ≤ puts.seats → flag_of row n ≡ (flag_of live n && nat_le level (amount_of puts n)))
    → flagged row ≡ reaching (stakes_of puts live) level
flagged-reaching row puts live level seats h =
    ap (λ n. filter (flag_of row) (seats_of n)) seats
    ∙ filter-seats (flag_of row) (λ n. flag_of live n && nat_le level (amount_of puts n)) puts.seats h
    ∙ sym (seats_kept puts live (λ s. s.live && nat_le level s.chips) (seats_of puts.seats))

-- what is left of each seat's chips are the stakes after the return
pub stakes_of-after_return : (puts back left : SeatRow) (live : LiveRow)
    → left.seats ≡ puts.seats
    → ((n : ℕ) → 1 ≤ n → n ≤ puts.seats → amount_of back n ≡ returned (stakes_of puts live) (stake_of puts live n))
    → ((n : ℕ) → 1 ≤ n → n ≤ puts.seats → amount_of left n ≡ amount_of puts n - amount_of back n)
    → stakes_of left live ≡ after_return (stakes_of puts live)
unfolding after_return
stakes_of-after_return puts back left live seats given rest =
    let stakes = stakes_of puts live in
    let left_of : ℕ → ℕ → Stake = λ n chips. record { seat = n; chips = chips; live = flag_of live n } in
    ap (λ n. map (stake_of left live) (seats_of n)) seats
    ∙ map-seats (stake_of left live) (λ n. without_returned stakes (stake_of puts live n)) puts.seats
    (λ n low high. ap (left_of n) (rest n low high ∙ ap (λ b. amount_of puts n - b) (given n low high)))
    ∙ sym (map-map (without_returned stakes) (stake_of puts live) (seats_of puts.seats))

-- all chips of the stakes are the total of the row
pub stake_chips-stakes_of : (puts : SeatRow) (live : LiveRow)
    → stake_chips (stakes_of puts live) ≡ total_of puts
stake_chips-stakes_of puts live =
    sum_by-map (λ (s : Stake). s.chips) (stake_of puts live) (seats_of puts.seats)

-- the total of what each seat gets back
pub returned-total : (puts back : SeatRow) (live : LiveRow)
    → back.seats ≡ puts.seats
    → ((n : ℕ) → 1 ≤ n → n ≤ puts.seats → amount_of back n ≡ returned (stakes_of puts live) (stake_of puts live n))
    → sum_by (returned (stakes_of puts live)) (stakes_of puts live) ≡ total_of back
returned-total puts back live seats given =
    let stakes = stakes_of puts live in
    sum_by-map (returned stakes) (stake_of puts live) (seats_of puts.seats)
    ∙ sym (sum-seats (amount_of back) (λ n. returned stakes (stake_of puts live n)) puts.seats given)
    ∙ ap (λ n. sum_by (amount_of back) (seats_of n)) (sym seats)

-- a live seat is among the stakes
pub live_stake : (puts : SeatRow) (live : LiveRow)
    → live.seats ≡ puts.seats
    → flagged live ≢ []
    → list_any (λ (s : Stake). s.live) (stakes_of puts live) ≡ true
live_stake puts live seats some =
    let any : list_any (flag_of live) (seats_of live.seats) ≡ true =
    true_from_ne_false (list_any (flag_of live) (seats_of live.seats))
    (λ none. some (nothing_kept (flag_of live) (seats_of live.seats) none)) in
    list_any-map (λ (s : Stake). s.live) (stake_of puts live) (seats_of puts.seats)
    ∙ ap (λ n. list_any (flag_of live) (seats_of n)) (sym seats)
    ∙ any

-- the live seats are those that reach level 0
pub flagged-live : (puts : SeatRow) (live : LiveRow)
    → live.seats ≡ puts.seats
    → flagged live ≡ reaching (stakes_of puts live) 0
flagged-live puts live seats =
    flagged-reaching live puts live 0 seats (λ n low high. and_zero (flag_of live n) (amount_of puts n))
