-- A test finds which amounts are a stack or the size of a bet.
use Rattle.std.proofs.Common.{◌≡◌, ℕ, true, nat_le}
use Rattle.std.proofs.lemmas.Bool.{and_parts, leb-true}
use Rattle.chip_ledger.specs.Sizes.{is_size}
use Rattle.chip_ledger.specs.declared.numbers.TheConstants.{MOST_CHIPS}
use Rattle.play_event.specs.ValidSetup.{IsSize}

-- an amount that passes is one
pub size_is : (chips : ℕ) → is_size chips ≡ true → IsSize chips
size_is chips is =
    let parts = and_parts (nat_le 1 chips) (nat_le chips MOST_CHIPS) is in
    (leb-true 1 chips parts.0, leb-true chips MOST_CHIPS parts.1)
