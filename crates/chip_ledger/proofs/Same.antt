-- Values with the same parts are the same.
use Rattle.std.proofs.Common.{◌≡◌, ℕ, ◌≤◌, Bool, false, List, length, slice_index, slice_index_or, sym, ap, ◌∙◌, subst, arith}
use Rattle.std.specs.Coded.{le_prop}
use Rattle.std.proofs.Props.{props}
use Rattle.std.proofs.lemmas.List.{ext_get_or}
use Rattle.chip_ledger.specs.declared.numbers.Seat.{Seat}
use Rattle.chip_ledger.specs.declared.seat_row.SeatRow.{SeatRow}
use Rattle.chip_ledger.specs.declared.live_row.LiveRow.{LiveRow}
use Rattle.chip_ledger.specs.declared.seat_row.TheConstants.{MOST_AMOUNT}
use Rattle.chip_ledger.specs.SeatRow.{amount_of}
use Rattle.chip_ledger.specs.LiveRow.{flag_of}
use Rattle.card_set.proofs.Entries.{same_entries}

pub seat_same : (a b : Seat) → a.number ≡ b.number → a ≡ b
seat_same a b e =
    let P : ℕ → Type 0 =
    λ n. (f : 1 ≤ n) (l : n ≤ 10) → a ≡ record { number = n; first = f; last = l } in
    let here : P a.number =
    λ f l.
    ap (λ h. record a { first = h }) (le_prop a.first f)
    ∙ ap (λ h. record { number = a.number; first = f; last = h }) (le_prop a.last l) in
    subst P e here b.first b.last

-- what a row of amounts keeps
record KeptAmounts (n : ℕ) (xs : List ℕ) : Type 0 where
  least : 2 ≤ n
  greatest : n ≤ 10
  full : length xs ≡ 10
  bounded : (k : ℕ) → slice_index xs k ≤ MOST_AMOUNT
  filler : (k : ℕ) → n ≤ k → slice_index xs k ≡ 0

KeptAmounts-prop : (n : ℕ) (xs : List ℕ) → IsProp (KeptAmounts n xs)
KeptAmounts-prop n xs = hlevel props

amounts_row : (n : ℕ) (xs : List ℕ) → KeptAmounts n xs → SeatRow
amounts_row n xs k =
    record {
      seats = n;
      amounts = xs;
      least = k.least;
      greatest = k.greatest;
      full = k.full;
      bounded = k.bounded;
      filler = k.filler;
    }

kept_amounts : (a : SeatRow) → KeptAmounts a.seats a.amounts
kept_amounts a =
    record {
      least = a.least;
      greatest = a.greatest;
      full = a.full;
      bounded = a.bounded;
      filler = a.filler;
    }

pub seat_row_same : (a b : SeatRow) → a.seats ≡ b.seats → a.amounts ≡ b.amounts → a ≡ b
unfolding amounts_row kept_amounts
seat_row_same a b s e =
    let P : ℕ → List ℕ → Type 0 = λ n xs. (k : KeptAmounts n xs) → a ≡ amounts_row n xs k in
    let here : P a.seats a.amounts =
    λ k.
    ap (amounts_row a.seats a.amounts) (KeptAmounts-prop a.seats a.amounts (kept_amounts a) k) in
    subst (λ xs. P b.seats xs) e (subst (λ n. P n a.amounts) s here) (kept_amounts b)

-- rows of one number of seats are equal if each seat has the same amount in both
pub seat_row_same_by_seats : (a b : SeatRow)
    → a.seats ≡ b.seats
    → ((n : ℕ) → 1 ≤ n → n ≤ a.seats → amount_of a n ≡ amount_of b n)
    → a ≡ b
seat_row_same_by_seats a b s h =
    let filler : (k : ℕ) → a.seats ≤ k → slice_index b.amounts k ≡ 0 = λ k l. b.filler k (omega arith) in
    seat_row_same a b s
    (ext_get_or 0 a.amounts b.amounts (a.full ∙ sym b.full) (λ k _. same_entries 0 a.amounts b.amounts a.seats h a.filler filler k))

-- what a row of flags keeps
record KeptFlags (n : ℕ) (bs : List Bool) : Type 0 where
  least : 2 ≤ n
  greatest : n ≤ 10
  full : length bs ≡ 10
  filler : (k : ℕ) → n ≤ k → slice_index_or bs k false ≡ false

KeptFlags-prop : (n : ℕ) (bs : List Bool) → IsProp (KeptFlags n bs)
KeptFlags-prop n bs = hlevel props

flags_row : (n : ℕ) (bs : List Bool) → KeptFlags n bs → LiveRow
flags_row n bs k =
    record {
      seats = n;
      flags = bs;
      least = k.least;
      greatest = k.greatest;
      full = k.full;
      filler = k.filler;
    }

kept_flags : (a : LiveRow) → KeptFlags a.seats a.flags
kept_flags a =
    record { least = a.least; greatest = a.greatest; full = a.full; filler = a.filler }

pub live_row_same : (a b : LiveRow) → a.seats ≡ b.seats → a.flags ≡ b.flags → a ≡ b
unfolding flags_row kept_flags
live_row_same a b s e =
    let P : ℕ → List Bool → Type 0 = λ n bs. (k : KeptFlags n bs) → a ≡ flags_row n bs k in
    let here : P a.seats a.flags =
    λ k. ap (flags_row a.seats a.flags) (KeptFlags-prop a.seats a.flags (kept_flags a) k) in
    subst (λ bs. P b.seats bs) e (subst (λ n. P n a.flags) s here) (kept_flags b)

-- rows of one number of seats are equal if each seat has the same flag in both
pub live_row_same_by_seats : (a b : LiveRow)
    → a.seats ≡ b.seats
    → ((n : ℕ) → 1 ≤ n → n ≤ a.seats → flag_of a n ≡ flag_of b n)
    → a ≡ b
live_row_same_by_seats a b s h =
    let filler : (k : ℕ) → a.seats ≤ k → slice_index_or b.flags k false ≡ false =
    λ k l. b.filler k (omega arith) in
    live_row_same a b s
    (ext_get_or false a.flags b.flags (a.full ∙ sym b.full) (λ k _. same_entries false a.flags b.flags a.seats h a.filler filler k))
