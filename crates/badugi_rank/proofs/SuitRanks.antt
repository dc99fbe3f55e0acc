-- From each suit at most one rank can be taken, and no rank is taken twice.
use lib.Bits.{bit_and}
use Rattle.std.proofs.Common.{◌≡◌, ℕ, ◌+◌, ◌-◌, ◌*◌, ◌^◌, ◌%◌, ◌<◌, ◌≤◌, ◌==◌, min, Bool, true, false, cond, [], ◌∷◌, ◌⊎◌, inl, inr, refl, sym, ◌∙◌, ap, subst, arith, eqb-true, eq-eqb, w16}
use Rattle.std.specs.Int.{bit_at, bit_not}
use Rattle.std.proofs.lemmas.Bool.{eqb-false}
use Rattle.std.proofs.lemmas.Nat.{and_le_l, or_lt}
use Rattle.std.proofs.lemmas.Nat.Bits.{bit_at_and, bit_at-lt, bit_at_not, bit_at_set_other, bit_at_set_same, bit_at-zero}
use Rattle.badugi_rank.specs.Rainbow.{CanTake, TakesOne}
use Rattle.badugi_rank.proofs.Taking.{with_rank}
use Rattle.card_set.proofs.Tests.{passes_or_not}
use Rattle.card_set.proofs.Bits.{place_within}

-- the bits of a mask
pub record AreBits (mask : ℕ) (f : ℕ → ℕ) : Type 0 where
  pub small : mask < 2 ^ 16
  pub each : (k : ℕ) → bit_at mask k ≡ f k

bits_same : (mask : ℕ) (f g : ℕ → ℕ) → ((k : ℕ) → f k ≡ g k) → AreBits mask f → AreBits mask g
bits_same mask f g same bits = record { small = bits.small; each = λ k. bits.each k ∙ same k }

-- at most one rank is counted, once, and the mask has it
abbrev pub IsOneOf : ℕ → (ℕ → ℕ) → Type 0
IsOneOf mask g = ((k : ℕ) → g k ≡ 0) ⊎ ((place : ℕ) × (bit_at mask place ≡ 1) × ((k : ℕ) → g k ≡ cond (place == k) 1 0))

here_one : (place : ℕ) → cond {A = ℕ} (place == place) 1 0 ≡ 1
here_one place = ap (λ (b : Bool). cond {A = ℕ} b 1 0) (eq-eqb place place refl)

-- one more rank
with_bits : (taken place : ℕ) (f : ℕ → ℕ) → place < 16 → AreBits taken f → f place ≡ 0 → AreBits (with_rank taken place) (λ k. f k + cond (place == k) 1 0)
with_bits taken place f within bits free = record {
  small = or_lt 16 taken (1 * 2 ^ place % 2 ^ 16) bits.small (omega arith);
  each = λ k. by_test k (passes_or_not (place == k));
}
  where
    by_test : (k : ℕ) → ((place == k) ≡ true) ⊎ ((place == k) ≡ false) → bit_at (with_rank taken place) k ≡ f k + cond (place == k) 1 0
    by_test k (inl same) =
        let at = eqb-true place k same in
        let one = ap (λ (b : Bool). cond {A = ℕ} b 1 0) same in
        let none = ap f (sym at) ∙ free in
        ap (bit_at (with_rank taken place)) (sym at) ∙ bit_at_set_same w16 taken place within ∙ omega arith
    by_test k (inr apart) =
        let off = ap (λ (b : Bool). cond {A = ℕ} b 1 0) apart in
        bit_at_set_other w16 taken place within k (λ same. eqb-false place k apart (sym same)) ∙ omega (arith, bits.each k)

-- the ranks of a mask that are not taken
abbrev free_ranks : ℕ → ℕ → ℕ
free_ranks mask taken = bit_and mask (bit_not w16 taken)

free_small : (mask taken : ℕ) → mask < 2 ^ 16 → free_ranks mask taken < 2 ^ 16
free_small mask taken small = omega (arith, and_le_l mask (bit_not w16 taken))

free_bit : (mask taken place : ℕ) (f : ℕ → ℕ) → AreBits taken f → place < 16 → bit_at (free_ranks mask taken) place ≡ min (bit_at mask place) (1 - f place)
free_bit mask taken place f bits within =
    bit_at_and mask (bit_not w16 taken) place ∙ ap (λ (n : ℕ). min (bit_at mask place) n) (bit_at_not w16 taken place bits.small within ∙ ap (λ (n : ℕ). 1 - n) (bits.each place))

-- a rank that is not taken is still free
one_free : (mask taken : ℕ) (f g : ℕ → ℕ) → mask < 2 ^ 16 → AreBits taken f → ((k : ℕ) → f k + g k ≤ 1) → IsOneOf mask g → IsOneOf (free_ranks mask taken) g
one_free mask taken f g small bits once (inl none) = inl none
one_free mask taken f g small bits once (inr one) =
    let within = place_within mask one.0 small one.1 in
    inr (one.0, omega (arith, free_bit mask taken one.0 f bits within, one.1, one.2 one.0, here_one one.0, once one.0), one.2)

one_taken : (left taken : ℕ) (f g : ℕ → ℕ) → left < 2 ^ 16 → AreBits taken f → ((k : ℕ) → f k + g k ≤ 1) → IsOneOf left g → (more : ℕ) × TakesOne left taken more × AreBits more (λ k. f k + g k)
one_taken left taken f g small bits once (inl none) = (taken, inl refl, bits_same taken f (λ k. f k + g k) (λ k. omega (arith, none k)) bits)
one_taken left taken f g small bits once (inr one) =
    let free : f one.0 ≡ 0 = omega (arith, one.2 one.0, here_one one.0, once one.0) in (
      with_rank taken one.0,
      inr (one.0, one.1, refl),
      bits_same (with_rank taken one.0) (λ k. f k + cond (one.0 == k) 1 0) (λ k. f k + g k) (λ k. omega (arith, one.2 k)) (with_bits taken one.0 f (place_within left one.0 small one.1) bits free),
    )

-- at most one rank of each suit
pub can_take : (c d h s : ℕ) (a b e g : ℕ → ℕ) → c < 2 ^ 16 → d < 2 ^ 16 → h < 2 ^ 16 → s < 2 ^ 16 → IsOneOf c a → IsOneOf d b → IsOneOf h e → IsOneOf s g → ((k : ℕ) → a k + b k + e k + g k ≤ 1) → (ranks : ℕ) × CanTake c (d ∷ h ∷ s ∷ []) 0 ranks × AreBits ranks (λ k. a k + b k + e k + g k)
can_take c d h s a b e g small_c small_d small_h small_s one_c one_d one_h one_s once =
    let none : AreBits 0 (λ k. 0) = record { small = omega arith; each = bit_at-zero } in
    let first = one_taken c 0 (λ k. 0) a small_c none (λ k. omega (arith, once k)) one_c in
    let first_bits = bits_same first.0 (λ k. 0 + a k) a (λ k. omega arith) first.2 in
    let second = one_taken (free_ranks d first.0) first.0 a b (free_small d first.0 small_d) first_bits (λ k. omega (arith, once k)) (one_free d first.0 a b small_d first_bits (λ k. omega (arith, once k)) one_d) in
    let third = one_taken (free_ranks h second.0) second.0 (λ k. a k + b k) e (free_small h second.0 small_h) second.2 (λ k. omega (arith, once k)) (one_free h second.0 (λ k. a k + b k) e small_h second.2 (λ k. omega (arith, once k)) one_h) in
    let fourth = one_taken (free_ranks s third.0) third.0 (λ k. a k + b k + e k) g (free_small s third.0 small_s) third.2 once (one_free s third.0 (λ k. a k + b k + e k) g small_s third.2 once one_s) in
    (fourth.0, (first.0, first.1, (second.0, second.1, (third.0, third.1, fourth.1))), fourth.2)

-- what was taken of one suit
record IsTaken (mask more : ℕ) (f : ℕ → ℕ) : Type 0 where
  pub taken : ℕ → ℕ
  pub one : IsOneOf mask taken
  pub bits : AreBits more (λ k. f k + taken k)
  pub once : (k : ℕ) → f k + taken k ≤ 1

few_bits : (mask : ℕ) (f : ℕ → ℕ) → AreBits mask f → (k : ℕ) → f k ≤ 1
few_bits mask f bits k = omega (arith, bits.each k, bit_at-lt mask k)

taken_one : (mask left taken more : ℕ) (f : ℕ → ℕ) → left < 2 ^ 16 → AreBits taken f → ((k : ℕ) → bit_at left k ≡ 1 → (bit_at mask k ≡ 1) × (f k ≡ 0)) → TakesOne left taken more → IsTaken mask more f
taken_one mask left taken more f small bits free (inl same) = record {
  taken = λ k. 0;
  one = inl (λ k. refl);
  bits = bits_same more f (λ k. f k + 0) (λ k. omega arith) (subst (λ (m : ℕ). AreBits m f) (sym same) bits);
  once = λ k. omega (arith, few_bits taken f bits k);
}
taken_one mask left taken more f small bits free (inr one) =
    let is = free one.0 one.1 in
    let all = with_bits taken one.0 f (place_within left one.0 small one.1) bits is.1 in
    record {
      taken = λ k. cond (one.0 == k) 1 0;
      one = inr (one.0, is.0, λ k. refl);
      bits = subst (λ (m : ℕ). AreBits m (λ k. f k + cond (one.0 == k) 1 0)) (sym one.2) all;
      once = few_bits (with_rank taken one.0) (λ k. f k + cond (one.0 == k) 1 0) all;
    }

free_turn : (mask taken : ℕ) (f : ℕ → ℕ) → mask < 2 ^ 16 → AreBits taken f → (k : ℕ) → bit_at (free_ranks mask taken) k ≡ 1 → (bit_at mask k ≡ 1) × (f k ≡ 0)
free_turn mask taken f small bits k set =
    let within = place_within (free_ranks mask taken) k (free_small mask taken small) set in
    let is = free_bit mask taken k f bits within in
    (omega (arith, is, set, bit_at-lt mask k), omega (arith, is, set))

-- what was taken of the four suits
pub record AreTaken (c d h s ranks : ℕ) : Type 0 where
  pub clubs : ℕ → ℕ
  pub diamonds : ℕ → ℕ
  pub hearts : ℕ → ℕ
  pub spades : ℕ → ℕ
  pub one_club : IsOneOf c clubs
  pub one_diamond : IsOneOf d diamonds
  pub one_heart : IsOneOf h hearts
  pub one_spade : IsOneOf s spades
  pub bits : AreBits ranks (λ k. clubs k + diamonds k + hearts k + spades k)
  pub once : (k : ℕ) → clubs k + diamonds k + hearts k + spades k ≤ 1

pub can_taken : (c d h s ranks : ℕ) → c < 2 ^ 16 → d < 2 ^ 16 → h < 2 ^ 16 → s < 2 ^ 16 → CanTake c (d ∷ h ∷ s ∷ []) 0 ranks → AreTaken c d h s ranks
can_taken c d h s ranks small_c small_d small_h small_s can =
    let none : AreBits 0 (λ k. 0) = record { small = omega arith; each = bit_at-zero } in
    let second_can = can.2 in
    let third_can = second_can.2 in
    let first = taken_one c c 0 can.0 (λ k. 0) small_c none (λ k set. (set, refl)) can.1 in
    let first_bits = bits_same can.0 (λ k. 0 + first.taken k) first.taken (λ k. omega arith) first.bits in
    let second = taken_one d (free_ranks d can.0) can.0 second_can.0 first.taken (free_small d can.0 small_d) first_bits (free_turn d can.0 first.taken small_d first_bits) second_can.1 in
    let third = taken_one h (free_ranks h second_can.0) second_can.0 third_can.0 (λ k. first.taken k + second.taken k) (free_small h second_can.0 small_h) second.bits (free_turn h second_can.0 (λ k. first.taken k + second.taken k) small_h second.bits) third_can.1 in
    let fourth = taken_one s (free_ranks s third_can.0) third_can.0 ranks (λ k. first.taken k + second.taken k + third.taken k) (free_small s third_can.0 small_s) third.bits (free_turn s third_can.0 (λ k. first.taken k + second.taken k + third.taken k) small_s third.bits) third_can.2 in
    record {
      clubs = first.taken;
      diamonds = second.taken;
      hearts = third.taken;
      spades = fourth.taken;
      one_club = first.one;
      one_diamond = second.one;
      one_heart = third.one;
      one_spade = fourth.one;
      bits = fourth.bits;
      once = fourth.once;
    }
