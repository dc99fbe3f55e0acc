-- What a conversion from one notation to another results in.
use Rattle.std.specs.Prelude.{ℕ, List, Result}
use Rattle.hand_canon.specs.SameHands.{kept_notes}
use Rattle.hand_canon.specs.declared.writing.Keep.{Keep}
use Rattle.convert_core.specs.Conversion.{IsConversion}
use Rattle.convert_core.specs.Meaning.{AreReadBack, Meaning}
use Rattle.convert_core.specs.declared.convert_fault.ConvertFault.{ConvertFault}

-- the result of converting bytes from one notation to another, with this choice of notes; the
-- output reads back with the notes that are kept
abbrev pub Converts : (from to : Meaning) → Keep → (bytes : List ℕ)
    → {X : Type 0} → (view : X → List ℕ) → Result X ConvertFault → Type 0
Converts from to keep bytes view result =
    IsConversion (from.Say bytes) (from.HaveFault bytes) (to.unspelled keep) to.Spell
    (AreReadBack to (kept_notes keep to.kept)) view result

-- the conversion of bytes has this answer, as its call returns it
abbrev pub Answers : (from to : Meaning) → Keep → (bytes : List ℕ)
    → (answer : Result (List ℕ) ConvertFault) → Type 0
Answers from to keep bytes answer = Converts from to keep bytes (λ output. output) answer
