-- What can be taken of the ranks that are left is what can be taken without one of them, plus what
-- can be taken after it.
use lib.Bits.{bit_or}
use Rattle.std.proofs.Common.{◌≡◌, ℕ, ◌*◌, ◌^◌, ◌%◌, ◌≤◌, ◌==◌, Bool, true, false, cond, List, [], ◌∷◌, max, ◌⊎◌, inl, inr, refl, sym, ◌∙◌, ap, arith, eqb-true}
use Rattle.std.specs.Int.{bit_at}
use Rattle.std.proofs.lemmas.Bool.{cases_lt}
use Rattle.badugi_rank.specs.Rainbow.{CanTake, IsMost, TakesOne, points_of_ranks}
use Rattle.card_set.proofs.Bits.{no_bit}
use Rattle.card_set.proofs.Tests.{passes_or_not}

none_left : (left taken more : ℕ) → left ≡ 0 → TakesOne left taken more → more ≡ taken
none_left left taken more none (inl same) = same
none_left left taken more none (inr one) = no_bit left one.0 none one.1

-- a rank is taken
abbrev pub with_rank : ℕ → ℕ → ℕ
with_rank taken place = bit_or taken (1 * 2 ^ place % 2 ^ 16)

-- one mask has the bits of another
abbrev HasBits : ℕ → ℕ → Type 0
HasBits mask other = (k : ℕ) → bit_at other k ≡ 1 → bit_at mask k ≡ 1

takes_wider : (left other taken more : ℕ) → HasBits left other → TakesOne other taken more → TakesOne left taken more
takes_wider left other taken more has (inl same) = inl same
takes_wider left other taken more has (inr one) = inr (one.0, has one.0 one.1, one.2)

can_wider : (left other taken ranks : ℕ) (others : List ℕ) → HasBits left other → CanTake other others taken ranks → CanTake left others taken ranks
can_wider left other taken ranks [] has can = takes_wider left other taken ranks has can
can_wider left other taken ranks (mask ∷ others) has can = (can.0, takes_wider left other taken can.0 has can.1, can.2)

can_with : (left place taken with ranks : ℕ) (others : List ℕ) → bit_at left place ≡ 1 → with ≡ with_rank taken place → CanTake 0 others with ranks → CanTake left others taken ranks
can_with left place taken with ranks [] set is can = inr (place, set, none_left 0 with ranks refl can ∙ is)
can_with left place taken with ranks (mask ∷ others) set is can = (can.0, inr (place, set, none_left 0 with can.0 refl can.1 ∙ is), can.2)

takes_either : (left cleared place taken with more : ℕ) → ((k : ℕ) → bit_at cleared k ≡ cond (place == k) 0 (bit_at left k)) → with ≡ with_rank taken place → TakesOne left taken more → TakesOne cleared taken more ⊎ (more ≡ with)
takes_either left cleared place taken with more bits is (inl same) = inl (inl same)
takes_either left cleared place taken with more bits is (inr one) =
    elim (passes_or_not (place == one.0)) [
      | inl same ↦ inr (one.2 ∙ ap (with_rank taken) (sym (eqb-true place one.0 same)) ∙ sym is)
      | inr apart ↦ inl (inr (one.0, bits one.0 ∙ ap (λ (b : Bool). cond b 0 (bit_at left one.0)) apart ∙ one.1, one.2))
    ]

can_either : (left cleared place taken with ranks : ℕ) (others : List ℕ) → ((k : ℕ) → bit_at cleared k ≡ cond (place == k) 0 (bit_at left k)) → with ≡ with_rank taken place → CanTake left others taken ranks → CanTake cleared others taken ranks ⊎ CanTake 0 others with ranks
can_either left cleared place taken with ranks [] bits is can =
    elim (takes_either left cleared place taken with ranks bits is can) [ inl without ↦ inl without | inr same ↦ inr (inl same) ]
can_either left cleared place taken with ranks (mask ∷ others) bits is can =
    elim (takes_either left cleared place taken with can.0 bits is can.1) [ inl without ↦ inl (can.0, without, can.2) | inr same ↦ inr (can.0, inl same, can.2) ]

-- a mask without a bit has no bit that the mask does not have
fewer_bits : (left cleared place : ℕ) → ((k : ℕ) → bit_at cleared k ≡ cond (place == k) 0 (bit_at left k)) → HasBits left cleared
fewer_bits left cleared place bits k set = by_test (place == k) (sym (bits k) ∙ set)
  where
    by_test : (b : Bool) → cond b 0 (bit_at left k) ≡ 1 → bit_at left k ≡ 1
    by_test true is = absurd (omega arith)
    by_test false is = is

-- a rank is left: it is taken, or not
pub most_either : (left cleared place taken with first second most : ℕ) (others : List ℕ) → bit_at left place ≡ 1 → ((k : ℕ) → bit_at cleared k ≡ cond (place == k) 0 (bit_at left k)) → with ≡ with_rank taken place → IsMost cleared others taken first → IsMost 0 others with second → most ≡ max first second → IsMost left others taken most
most_either left cleared place taken with first second most others set bits is without after larger =
    elim (cases_lt first second) [
      | inl less ↦ record {
        ranks = after.ranks;
        can = can_with left place taken with after.ranks others set is after.can;
        reached = after.reached ∙ omega arith;
        none_more = none_more;
      }
      | inr least ↦ record {
        ranks = without.ranks;
        can = can_wider left cleared taken without.ranks others (fewer_bits left cleared place bits) without.can;
        reached = without.reached ∙ omega arith;
        none_more = none_more;
      }
    ]
  where
    none_more : (other : ℕ) → CanTake left others taken other → points_of_ranks other ≤ most
    none_more other can = elim (can_either left cleared place taken with other others bits is can) [
      | inl fewer ↦ omega (arith, without.none_more other fewer)
      | inr later ↦ omega (arith, after.none_more other later)
    ]
