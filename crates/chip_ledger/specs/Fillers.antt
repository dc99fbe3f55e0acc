-- What a row holds after its last entry.
use Rattle.std.specs.Prelude.{◌≡◌, ℕ, ◌≤◌, false, zero, suc, refl, replicate, slice_index_or}
use Rattle.std.proofs.Common.{sym, subst, lit≤}
use Rattle.chip_ledger.specs.declared.seat_row.SeatRow.{SeatRow}
use Rattle.chip_ledger.specs.declared.live_row.LiveRow.{LiveRow}
use Rattle.chip_ledger.specs.declared.seat_row.TheConstants.{MOST_AMOUNT}
use Rattle.chip_ledger.specs.declared.pots.Pot.{Pot}

-- a list of copies of one value has this value at every index, even after its end if it is the
-- default
pub index-replicate : {X : Type 0} (n : ℕ) (x : X) (k : ℕ) → slice_index_or (replicate n x) k x ≡ x
index-replicate zero x k = refl
index-replicate (suc n) x zero = refl
index-replicate (suc n) x (suc k) = index-replicate n x k

-- a row of two seats, each with the amount 0
unfoldable pub no_amounts : SeatRow
no_amounts =
    record {
      seats = 2;
      amounts = replicate 10 0;
      least = lit≤ tt;
      greatest = lit≤ tt;
      full = refl;
      bounded = λ k. subst (λ x. x ≤ MOST_AMOUNT) (sym (index-replicate 10 0 k)) (lit≤ tt);
      filler = λ k _. index-replicate 10 0 k;
    }

-- a row of two seats, each with the flag false
unfoldable pub no_flags : LiveRow
no_flags =
    record {
      seats = 2;
      flags = replicate 10 false;
      least = lit≤ tt;
      greatest = lit≤ tt;
      full = refl;
      filler = λ k _. index-replicate 10 false k;
    }

-- a pot without chips that no seat may win
unfoldable pub no_pot : Pot
no_pot = record { chips = 0; eligible = no_flags }
