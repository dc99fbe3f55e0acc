-- Rows with the same number of seats are equal if the definitions see them as equal.
use Rattle.std.proofs.Common.{◌≡◌, ℕ, zero, suc, ◌≤◌, ◌==◌, true, List, [], ◌∷◌, All, map, refl, sym, ap, ◌∙◌, arith}
use Rattle.std.specs.List.{list_any}
use Rattle.card_set.proofs.Tests.{same_test}
use Rattle.chip_ledger.specs.declared.pots.Pot.{Pot}
use Rattle.chip_ledger.specs.declared.pots.PotRow.{PotRow}
use Rattle.chip_ledger.specs.declared.live_row.LiveRow.{LiveRow}
use Rattle.chip_ledger.specs.declared.seat_row.SeatRow.{SeatRow}
use Rattle.chip_ledger.specs.LiveRow.{flag_of, flagged}
use Rattle.chip_ledger.specs.PotRow.{plain, plain_pots, pots_in}
use Rattle.chip_ledger.specs.Seat.{seats_of}
use Rattle.chip_ledger.specs.SeatRow.{amount_of}
use Rattle.chip_ledger.proofs.Flags.{flag-from_flagged, flagged-from_flag}
use Rattle.chip_ledger.proofs.Same.{live_row_same_by_seats, seat_row_same_by_seats}
use Rattle.chip_ledger.proofs.SameEntries.{pot_row_same_by_pots}
use Rattle.card_set.proofs.NumbersOfRange.{along_range}

-- a flag of one row is set in another with the same flagged seats
flag_too : (a b : LiveRow) → flagged a ≡ flagged b → (seat : ℕ) → 1 ≤ seat → flag_of a seat ≡ true → flag_of b seat ≡ true
flag_too a b same seat least set =
    flag-from_flagged b seat (ap (list_any (λ m. m == seat)) (sym same) ∙ flagged-from_flag a seat least set)

-- rows of flags
pub flags_same : (seats : ℕ) (a b : LiveRow) → a.seats ≡ seats → b.seats ≡ seats → flagged a ≡ flagged b → a ≡ b
flags_same seats a b one other same =
    live_row_same_by_seats a b (one ∙ sym other) (λ seat least most.
    same_test (flag_of a seat) (flag_of b seat) (flag_too a b same seat least) (flag_too b a (sym same) seat least))

-- rows of amounts
pub amounts_same : (seats : ℕ) (a b : SeatRow) → a.seats ≡ seats → b.seats ≡ seats → map (amount_of a) (seats_of seats) ≡ map (amount_of b) (seats_of seats) → a ≡ b
amounts_same seats a b one other same =
    seat_row_same_by_seats a b (one ∙ sym other) (λ seat least most.
    along_range (amount_of a) (amount_of b) 1 seats same seat least (omega (arith, most, one)))

-- pots
pot_same : (seats : ℕ) (a b : Pot) → a.eligible.seats ≡ seats → b.eligible.seats ≡ seats → plain a ≡ plain b → a ≡ b
pot_same seats a b one other same =
    let pot : ℕ → LiveRow → Pot = λ chips eligible. record { chips = chips; eligible = eligible } in
    ap (λ chips. pot chips a.eligible) (ap (λ said. said.chips) same)
    ∙ ap (λ eligible. pot b.chips eligible) (flags_same seats a.eligible b.eligible one other (ap (λ said. said.eligible) same))

-- lists of pots
pots_same : (seats : ℕ) (xs ys : List Pot) → All (λ (pot : Pot). pot.eligible.seats ≡ seats) xs → All (λ (pot : Pot). pot.eligible.seats ≡ seats) ys → map plain xs ≡ map plain ys → xs ≡ ys
pots_same seats [] [] one other same = refl
pots_same seats [] (y ∷ ys) one other same = absurd (cc)
pots_same seats (x ∷ xs) [] one other same = absurd (cc)
pots_same seats (x ∷ xs) (y ∷ ys) one other same =
    let said : plain x ≡ plain y = cc in
    let head : x ≡ y = pot_same seats x y (one zero x (omega arith)) (other zero y (omega arith)) said in
    let tail : xs ≡ ys = pots_same seats xs ys (λ k d within. one (suc k) d (omega (arith, within))) (λ k d within. other (suc k) d (omega (arith, within))) (cc) in
    ap (λ z. z ∷ xs) head ∙ ap (λ zs. y ∷ zs) tail

-- rows of pots
pub pot_rows_same : (seats : ℕ) (a b : PotRow) → All (λ (pot : Pot). pot.eligible.seats ≡ seats) (pots_in a) → All (λ (pot : Pot). pot.eligible.seats ≡ seats) (pots_in b) → a.returned.seats ≡ seats → b.returned.seats ≡ seats
    → plain_pots a ≡ plain_pots b → map (amount_of a.returned) (seats_of seats) ≡ map (amount_of b.returned) (seats_of seats) → a ≡ b
pot_rows_same seats a b one other back too pots returned =
    pot_row_same_by_pots a b (pots_same seats (pots_in a) (pots_in b) one other pots) (amounts_same seats a.returned b.returned back too returned)
