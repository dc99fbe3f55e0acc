-- Pots, their total, and the rake of each.
use Rattle.std.specs.Prelude.{ℕ, List, map, slice_get, sum_by}
use Rattle.std.specs.List.{range_with_len}
use Rattle.std.specs.Option.{option_map_or}
use Rattle.ohh_reading.specs.declared.listed_pot.ListedPot.{ListedPot}

-- a pot: its chips including the rake, and the rake
pub record PlainListedPot : Type 0 where
  pub amount : ℕ
  pub rake : ℕ

-- a pot, as the definitions see it
abbrev pub plain_listed_pot : ListedPot → PlainListedPot
plain_listed_pot pot = record { amount = pot.amount; rake = pot.rake }

-- all pots together
abbrev pub all_of : List PlainListedPot → ℕ
all_of pots = sum_by (λ pot. pot.amount) pots

-- the rake of the pot with this index; a pot that is not listed has none
abbrev pub rake_at : List PlainListedPot → ℕ → ℕ
rake_at pots index = option_map_or (λ pot. pot.rake) (slice_get pots index) 0

-- the rakes of the first eleven pots
abbrev pub rakes_said : List PlainListedPot → List ℕ
rakes_said pots = map (rake_at pots) (range_with_len 0 11)
