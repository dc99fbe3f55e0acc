-- The items of a list that was read are the data of its values.
use Rattle.std.proofs.Common.{◌≡◌, List, [], ◌∷◌, map, refl, ap}
use Rattle.toml.specs.View.{view, items_view}
use Rattle.toml.specs.declared.value.Value.{Value}
use Rattle.phh_reading.specs.Fields.{listed}

pub listed_view : (values : List Value) → listed (items_view values) ≡ map view values
listed_view [] = refl
listed_view (value ∷ values) = ap (λ rest. view value ∷ rest) (listed_view values)
