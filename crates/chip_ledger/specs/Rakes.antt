-- What is left of the pots of a hand after the rake, and the first rake that is above the chips of
-- its pot.
use Rattle.std.specs.Prelude.{ℕ, ◌-◌, ◌≤◌, nat_lt, suc, List, [], ◌∷◌, slice_get, Option, find}
use Rattle.std.specs.List.{range_with_len}
use Rattle.std.specs.Option.{option_map_or}
use Rattle.chip_ledger.specs.declared.rakes.RakeRow.{RakeRow}
use Rattle.chip_ledger.specs.Pots.{PlainPot}
use Rattle.chip_ledger.specs.RakeRow.{rake_of}

-- what is left of a pot to share after its rake
abbrev pub less_rake : ℕ → PlainPot → PlainPot
less_rake rake pot = record pot { chips = pot.chips - rake }

-- each of some pots minus its rake; the first of them has this number
abbrev pub nets_from : ℕ → RakeRow → List PlainPot → List PlainPot
nets_from number rakes [] = []
nets_from number rakes (pot ∷ pots) =
    less_rake (rake_of rakes number) pot ∷ nets_from (suc number) rakes pots

-- the pots of a hand minus their rakes, lowest first
abbrev pub nets_of : RakeRow → List PlainPot → List PlainPot
nets_of rakes pots = nets_from 1 rakes pots

-- the chips of the pot with this number (from 1); 0 after the last pot
abbrev pub chips_in : List PlainPot → ℕ → ℕ
chips_in pots number = option_map_or (λ pot. pot.chips) (slice_get pots (number - 1)) 0

-- no rake is above the chips of its pot, and after the last pot there is no rake
abbrev pub HaveRakes : List PlainPot → RakeRow → Type 0
HaveRakes pots rakes = (number : ℕ) → rake_of rakes number ≤ chips_in pots number

-- the number of the first pot whose rake is above its chips, among the eleven that a row holds
abbrev pub first_rake_above : RakeRow → List PlainPot → Option ℕ
first_rake_above rakes pots =
    find (λ number. nat_lt (chips_in pots number) (rake_of rakes number)) (range_with_len 1 11)
