-- A line with more than one = has no form.
use Rattle.std.proofs.Common.{◌≡◌, ℕ, ◌<◌, Bool, eqb, List, [], ◌∷◌, length, None, refl, arith}
use Rattle.std.proofs.lemmas.List.Splits.{length-slice_split}
use Rattle.acpc_game.specs.Parts.{parts_of}
use Rattle.acpc_game.specs.Forms.{key_and_numbers}

more_parts : (no_limit : Bool) (front behind : List ℕ) (parts : List (List ℕ)) → 0 < length parts → key_and_numbers no_limit (front ∷ behind ∷ parts) ≡ None
more_parts no_limit front behind [] some = absurd (omega (arith, some))
more_parts no_limit front behind (part ∷ parts) some = refl

pub no_third_part : (no_limit : Bool) (front behind rest : List ℕ) → key_and_numbers no_limit (front ∷ behind ∷ parts_of 61 rest) ≡ None
no_third_part no_limit front behind rest = more_parts no_limit front behind (parts_of 61 rest) (omega (arith, length-slice_split (λ b. eqb b 61) rest))
