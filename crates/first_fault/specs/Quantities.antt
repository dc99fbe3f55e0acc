-- What a file may have too many of, as text.
use Rattle.std.specs.Prelude.{ℕ, List, codes}
use Rattle.first_fault.specs.declared.limits.Quantity.{Quantity}
use Rattle.first_fault.specs.declared.limits.Quantity.TheVariants as quantities

-- a quantity as text
abbrev pub quantity_text : Quantity → List ℕ
quantity_text quantities.Hands = codes "hands"
quantity_text quantities.Moves = codes "moves of a hand"
quantity_text quantities.OtherEvents = codes "other events of a hand"
quantity_text quantities.FileMoves = codes "moves of the file"
quantity_text quantities.TextBytes = codes "text bytes"
