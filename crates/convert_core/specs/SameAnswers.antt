-- Two conversions with the same answer.
use Rattle.std.specs.Prelude.{◌≡◌, ℕ, List, Result, Ok, Err}
use Rattle.convert_core.specs.declared.convert_fault.ConvertFault.{ConvertFault}
use Rattle.convert_core.specs.declared.convert_fault.ConvertFault.TheVariants as faults

-- Two answers are the same: both are outputs, and these are the same, or both name the same hand
-- and the same fact that cannot be expressed. Either may be out of memory, which says nothing.
-- Neither is another refusal.
abbrev pub AreSameAnswers : (AreSame : List ℕ → List ℕ → Type 0)
    → (answer again : Result (List ℕ) ConvertFault) → Type 0
AreSameAnswers AreSame (Ok output) (Ok again) = AreSame output again
AreSameAnswers AreSame (Ok output) (Err (faults.Memory memory)) = Unit {0}
AreSameAnswers AreSame (Ok output) (Err fault) = ⊥
AreSameAnswers AreSame (Err (faults.Memory memory)) (Ok again) = Unit {0}
AreSameAnswers AreSame (Err (faults.Memory memory)) (Err (faults.Memory other)) = Unit {0}
AreSameAnswers AreSame (Err (faults.Memory memory)) (Err (faults.Unspelled number fact)) = Unit {0}
AreSameAnswers AreSame (Err (faults.Memory memory)) (Err fault) = ⊥
AreSameAnswers AreSame (Err (faults.Unspelled number fact)) (Err (faults.Unspelled other too)) =
    (number ≡ other) × (fact ≡ too)
AreSameAnswers AreSame (Err (faults.Unspelled number fact)) (Err (faults.Memory memory)) = Unit {0}
AreSameAnswers AreSame (Err fault) answer = ⊥
