-- A number has at most one point.
use Rattle.std.proofs.Common.{◌≡◌, ℕ, ◌<◌, Bool, eqb, List, [], ◌∷◌, length, refl, arith}
use Rattle.std.proofs.lemmas.List.Splits.{length-slice_split}
use Rattle.acpc_game.specs.declared.fault.LineFaultKind.TheVariants as whats
use Rattle.acpc_game.specs.Faults.{wrong}
use Rattle.acpc_game.specs.Parts.{parts_of}
use Rattle.acpc_reading.specs.Values.{unsigned_said}

more_parts : (is_negative : Bool) (at : ℕ) (digits zeros : List ℕ) (parts : List (List ℕ)) → 0 < length parts → unsigned_said is_negative at (digits ∷ zeros ∷ parts) ≡ wrong whats.BadValue at
more_parts is_negative at digits zeros [] some = absurd (omega (arith, some))
more_parts is_negative at digits zeros (part ∷ parts) some = refl

pub no_third_part : (is_negative : Bool) (at : ℕ) (digits zeros rest : List ℕ) → unsigned_said is_negative at (digits ∷ zeros ∷ parts_of 46 rest) ≡ wrong whats.BadValue at
no_third_part is_negative at digits zeros rest = more_parts is_negative at digits zeros (parts_of 46 rest) (omega (arith, length-slice_split (λ b. eqb b 46) rest))
