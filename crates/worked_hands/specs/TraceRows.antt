-- Rows of flags, pots, shares and nets made of lists, for traces that are written out.
use Rattle.std.specs.Prelude.{◌≡◌, ℕ, zero, suc, ◌+◌, ◌-◌, ◌≤◌, ◌<◌, ℤ, pos, Bool, false, ◌&&◌, nat_le, List, [], ◌∷◌, ◌++◌, length, replicate, slice_get, slice_index_or, Some, IsTrue}
use Rattle.std.proofs.Common.{arith, refl, length-append}
use Rattle.std.proofs.lemmas.List.{length-replicate}
use Rattle.std.proofs.lemmas.Bool.{and_parts, leb-true}
use Rattle.chip_ledger.specs.declared.numbers.Seat.{Seat}
use Rattle.chip_ledger.specs.declared.pots.Pot.{Pot}
use Rattle.chip_ledger.specs.declared.pots.PotRow.{PotRow}
use Rattle.chip_ledger.specs.declared.shares.ShareRow.{ShareRow}
use Rattle.chip_ledger.specs.declared.live_row.LiveRow.{LiveRow}
use Rattle.chip_ledger.specs.declared.seat_row.SeatRow.{SeatRow}
use Rattle.chip_ledger.specs.Fillers.{index-replicate, no_amounts, no_pot}
use Rattle.hand_canon.specs.declared.record.NetRow.{NetRow}

-- an entry past the end of a list is the filler
pub behind : {X : Type 0} (xs : List X) (n : ℕ) (x : X) (k : ℕ)
    → length xs ≤ k → slice_index_or (xs ++ replicate n x) k x ≡ x
behind [] n x k late = index-replicate n x k
behind (y ∷ xs) n x zero late = absurd (omega (arith, late))
behind (y ∷ xs) n x (suc k) late = behind xs n x k (omega (arith, late))

-- this holds as far as the fillers go
pub filler_at : {X : Type 0} (xs : List X) (n : ℕ) (x : X) (k : ℕ)
    → length xs ≤ k → k < length xs + n → slice_get (xs ++ replicate n x) k ≡ Some x
filler_at [] zero x k late early = absurd (omega (arith, early))
filler_at [] (suc n) x zero late early = refl
filler_at [] (suc n) x (suc k) late early = filler_at [] n x k (omega arith) (omega (arith, early))
filler_at (y ∷ xs) n x zero late early = absurd (omega (arith, late))
filler_at (y ∷ xs) n x (suc k) late early =
    filler_at xs n x k (omega (arith, late)) (omega (arith, early))

-- a list and its fillers have this length
pub filled_to : {X : Type 0} (xs : List X) (most : ℕ) (x : X)
    → length xs ≤ most → length (xs ++ replicate (most - length xs) x) ≡ most
filled_to xs most x few =
    omega (
      arith,
      few,
      length-append xs (replicate (most - length xs) x),
      length-replicate {A = _} (most - length xs) x,
    )

-- two to ten flags
abbrev pub is_flags : List Bool → Bool
is_flags flags = nat_le 2 (length flags) && nat_le (length flags) 10

-- the row of these flags
abbrev pub flags_of : (flags : List Bool) → IsTrue (is_flags flags) → LiveRow
flags_of flags fits =
    let both = and_parts (nat_le 2 (length flags)) (nat_le (length flags) 10) fits in
    record {
      seats = length flags;
      flags = flags ++ replicate (10 - length flags) false;
      least = leb-true 2 (length flags) both.0;
      greatest = leb-true (length flags) 10 both.1;
      full = filled_to flags 10 false (leb-true (length flags) 10 both.1);
      filler = behind flags (10 - length flags) false;
    }

-- a pot with this many chips, with a flag for each seat that may win it
abbrev pub pot_of : ℕ → (flags : List Bool) → IsTrue (is_flags flags) → Pot
pot_of chips flags fits = record { chips = chips; eligible = flags_of flags fits }

-- the row of these pots, and what is returned
abbrev pub pots_of : (pots : List Pot) → SeatRow → IsTrue (nat_le (length pots) 11) → PotRow
pots_of pots returned fits =
    let few = leb-true (length pots) 11 fits in
    record {
      count = length pots;
      pots = pots ++ replicate (11 - length pots) no_pot;
      returned = returned;
      most = few;
      full = filled_to pots 11 no_pot few;
      filler =
          λ k late early.
          filler_at pots (11 - length pots) no_pot k late (omega (arith, few, early));
    }

-- the row of these shares
abbrev pub shares_of : (shares : List SeatRow) → IsTrue (nat_le (length shares) 11) → ShareRow
shares_of shares fits =
    let few = leb-true (length shares) 11 fits in
    record {
      count = length shares;
      shares = shares ++ replicate (11 - length shares) no_amounts;
      most = few;
      full = filled_to shares 11 no_amounts few;
      filler =
          λ k late early.
          filler_at shares (11 - length shares) no_amounts k late (omega (arith, few, early));
    }

-- the row of what these seats won or lost
abbrev pub nets_of : (nets : List ℤ) → IsTrue (nat_le (length nets) 10) → NetRow
nets_of nets fits =
    let few = leb-true (length nets) 10 fits in
    record {
      seats = length nets;
      nets = nets ++ replicate (10 - length nets) (pos 0);
      greatest = few;
      full = filled_to nets 10 (pos 0) few;
      filler = behind nets (10 - length nets) (pos 0);
    }

-- a seat by its number
abbrev pub seat_of : (number : ℕ) → IsTrue (nat_le 1 number && nat_le number 10) → Seat
seat_of number fits =
    let both = and_parts (nat_le 1 number) (nat_le number 10) fits in
    record { number = number; first = leb-true 1 number both.0; last = leb-true number 10 both.1 }
