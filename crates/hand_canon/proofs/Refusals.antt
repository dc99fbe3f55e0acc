-- The first refusal of plays, and the first of two facts: if it is none, neither is there.
use Rattle.hand_canon.specs.WriteRefusals.{or_behind, refused_at}
use Rattle.hand_canon.specs.declared.writing.Unspelled.{Unspelled}
use Rattle.hand_canon.specs.declared.writing.WriteRefusal.{WriteRefusal}
use Rattle.std.proofs.Common.{None, Option, Some, refl, ℕ, ◌≡◌}

-- plays that are not refused can be expressed one by one
pub none_refused : (number : ℕ) (fact : Option Unspelled) (behind : Option WriteRefusal) → refused_at number fact behind ≡ None → (fact ≡ None) × (behind ≡ None)
none_refused number None behind none = (refl, none)
none_refused number (Some fact) behind none = absurd (cc)

-- if the first of two facts is none, neither is there
pub both_none : (a b : Option Unspelled) → or_behind a b ≡ None → (a ≡ None) × (b ≡ None)
both_none None b none = (refl, none)
both_none (Some fact) b none = absurd (cc)

-- and if neither is there, it is none
pub none_both : (a b : Option Unspelled) → a ≡ None → b ≡ None → or_behind a b ≡ None
none_both None b none other = other
none_both (Some fact) b none other = absurd (cc)
