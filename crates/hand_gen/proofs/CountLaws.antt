-- Whether a play can be written, from what is written of it.
use Rattle.std.proofs.Common.{◌≡◌, ◌⊎◌, ℕ, Option, Some, None, refl, sym, ap, subst, ◌∙◌, inl, inr}
use Rattle.hand_canon.specs.declared.writing.Unspelled.{Unspelled}
use Rattle.hand_canon.specs.declared.writing.WriteRefusal.{WriteRefusal}
use Rattle.hand_canon.specs.declared.writing.WriteRefusal.TheVariants as refusals
use Rattle.hand_gen.specs.declared.summary.SpelledSize.{SpelledSize}
use Rattle.hand_gen.specs.Load.{IsSpelled, bytes_spelled, hands_spelled}
use Rattle.hand_canon.specs.WriteRefusals.{IsOutOfMemory, refused_at}

-- a hand that is not refused has no fact that cannot be expressed
none_refused : (fact : Option Unspelled) → refused_at 1 fact None ≡ None → fact ≡ None
none_refused None is = refl
none_refused (Some told) is = absurd cc

-- what is written can be expressed
pub written_is : (fact : Option Unspelled) (bytes : ℕ) (spelled : SpelledSize) → refused_at 1 fact None ≡ None → spelled.hands ≡ 1 → spelled.bytes ≡ bytes → IsSpelled fact bytes spelled
written_is fact bytes spelled unrefused hands size =
    let none : fact ≡ None = none_refused fact unrefused in
    record {
      hands_are = hands ∙ sym (ap hands_spelled none);
      bytes_are = size ∙ sym (ap (λ f. bytes_spelled f bytes) none);
    }

-- and what is refused is not
pub refused_is : (fact : Option Unspelled) (bytes : ℕ) (spelled : SpelledSize) (refusal : WriteRefusal) (hand : ℕ) (told : Unspelled) → refusal ≡ refusals.Unspelled hand told → IsOutOfMemory refusal ⊎ (refused_at 1 fact None ≡ Some refusal) → spelled.hands ≡ 0 → spelled.bytes ≡ 0 → IsSpelled fact bytes spelled
refused_is fact bytes spelled refusal hand told is (inl memory) none nothing = absurd (subst IsOutOfMemory is memory)
refused_is None bytes spelled refusal hand told is (inr some) none nothing = absurd cc
refused_is (Some first) bytes spelled refusal hand told is (inr some) none nothing = record { hands_are = none; bytes_are = nothing }
