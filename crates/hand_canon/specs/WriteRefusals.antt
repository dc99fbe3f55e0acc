-- A fact that cannot be expressed is reported for the first hand that has one; it is the hand's
-- first such fact.
use Rattle.std.specs.Prelude.{None, Option, Some, ℕ, ◌+◌, List, [], ◌∷◌}
use Rattle.hand_canon.specs.declared.writing.Unspelled.{Unspelled}
use Rattle.hand_canon.specs.declared.writing.WriteRefusal.{WriteRefusal}
use Rattle.hand_canon.specs.declared.writing.WriteRefusal.TheVariants as refusals
use Rattle.hand_canon.specs.declared.trace.Play.{Play}

-- the refusal of the hand with this number, or else of the first one after it
abbrev pub refused_at : ℕ → Option Unspelled → Option WriteRefusal → Option WriteRefusal
refused_at number (Some fact) behind = Some (refusals.Unspelled number fact)
refused_at number None behind = behind

-- a fact, or else the one after it
abbrev pub or_behind : Option Unspelled → Option Unspelled → Option Unspelled
or_behind (Some fact) behind = Some fact
or_behind None behind = behind

-- the first refusal of plays, the first of which has this number, in a notation given by the first
-- fact of each play that it cannot express
abbrev pub refusal_from : (Play → Option Unspelled) → ℕ → List Play → Option WriteRefusal
refusal_from unspelled number [] = None
refusal_from unspelled number (play ∷ rest) =
    refused_at number (unspelled play) (refusal_from unspelled (number + 1) rest)

-- the first refusal of plays; the first hand has the number 1
abbrev pub first_refusal : (Play → Option Unspelled) → List Play → Option WriteRefusal
first_refusal unspelled plays = refusal_from unspelled 1 plays

-- a refusal is that memory ran out
abbrev pub IsOutOfMemory : WriteRefusal → Type 0
IsOutOfMemory (refusals.Memory memory) = Unit {0}
IsOutOfMemory (refusals.Unspelled hand fact) = ⊥
