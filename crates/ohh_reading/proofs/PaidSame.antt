-- What is stated of the pots is the same if its parts are.
use Rattle.std.proofs.Common.{◌≡◌, ℕ, List, Option, refl}
use Rattle.ohh_reading.specs.Pots.{PlainPaid}

pub paid_same : (wins wins' : Option (List ℕ)) (total total' : Option ℕ) (rakes rakes' : List ℕ) → wins ≡ wins' → total ≡ total' → rakes ≡ rakes'
    → ◌≡◌ {A = PlainPaid} (record { wins = wins; total = total; rakes = rakes }) (record { wins = wins'; total = total'; rakes = rakes' })
paid_same wins wins' total total' rakes rakes' same_wins same_total same_rakes = rw (same_wins, same_total, same_rakes) refl
