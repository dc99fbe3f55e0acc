-- Chips go to unbeaten seats only, and an unbeaten seat without chips is too late in line for an
-- odd chip.
use Rattle.std.proofs.Common.{◌≡◌, ◌<◌, ◌≤◌, ℕ, ◌+◌, ◌-◌, ◌*◌, ◌/◌, ◌%◌, ◌⊎◌, inl, inr, Bool, true, false, if◌then◌else◌, nat_lt, refl, sym, ◌∙◌, ap, subst, arith}
use Rattle.std.proofs.lemmas.Bool.{cases_lt, lt-ltb, true≢false}
use Rattle.std.proofs.lemmas.Nat.{div-add-mod'}
use Rattle.std.proofs.Math.Nat.{mod-lt}
use Rattle.card_set.proofs.Tests.{chosen}
use Rattle.chip_ledger.specs.Pots.{PlainPot}
use Rattle.play_event.specs.declared.code.Code.{Code}
use Rattle.variant_table.specs.Division.{AreHalves, AreParts, count_to}
use Rattle.variant_table.specs.Shares.{AreSharesOf, IsLowShown, Ranking, Showdown, is_contender, ranking_of}
use Rattle.showdown_split.specs.Laws.{GoesToBest, HasNoPart, IsUnbeaten, LeavesNoneOut}
use Rattle.showdown_split.proofs.Bests.{count_some}

-- who has a part is unbeaten
part_of_best : (seats : ℕ) (contending : ℕ → Bool) (beats : ℕ → ℕ → Type 0) (chips : ℕ) (share : ℕ → ℕ) → AreParts seats contending beats chips share → (seat : ℕ) → 1 ≤ seat → seat ≤ seats → 0 < share seat → IsUnbeaten contending beats seat
part_of_best seats contending beats chips share are seat low high some =
    let k = count_to are.wins seats in
    let part = chips / k + (if nat_lt (count_to are.wins (seat - 1)) (chips % k) then 1 else 0) in
    (are.told seat).0 (chosen (are.wins seat) part (subst (λ (n : ℕ). 0 < n) (are.parts seat low high) some))

-- a part of nothing: too few chips, and all of them go to winners before
no_part : (chips k before : ℕ) → 0 < k → chips / k + (if nat_lt before (chips % k) then 1 else 0) ≡ 0 → (chips < k) × (chips ≤ before)
no_part chips k before some none = by (cases_lt before (chips % k))
  where
    by : (before < chips % k) ⊎ (chips % k ≤ before) → (chips < k) × (chips ≤ before)
    by (inl less) =
        let one : chips / k + 1 ≡ 0 = ap (λ (b : Bool). chips / k + (if b then 1 else 0)) (sym (lt-ltb before (chips % k) less)) ∙ none in
        absurd (omega arith)
    by (inr more) =
        let even : chips / k ≡ 0 = omega (arith, none) in
        let whole : 0 * k + chips % k ≡ chips = ap (λ (n : ℕ). n * k + chips % k) (sym even) ∙ div-add-mod' chips k in
        let less = mod-lt chips some in
        (omega arith, omega arith)

-- who has no part does not contend, is beaten, or is too late in line for an odd chip
none_left_out : (seats : ℕ) (contending : ℕ → Bool) (beats : ℕ → ℕ → Type 0) (chips : ℕ) (share : ℕ → ℕ) → AreParts seats contending beats chips share → (seat : ℕ) → 1 ≤ seat → seat ≤ seats → share seat ≡ 0 → HasNoPart seats contending beats chips seat
none_left_out seats contending beats chips share are seat low high none = by (are.wins seat) refl
  where
    by : (b : Bool) → are.wins seat ≡ b → HasNoPart seats contending beats chips seat
    by false lost = inl (λ unbeaten. true≢false (sym ((are.told seat).1 unbeaten) ∙ lost))
    by true won =
        let k = count_to are.wins seats in
        let before = count_to are.wins (seat - 1) in
        let part = chips / k + (if nat_lt before (chips % k) then 1 else 0) in
        let nothing : part ≡ 0 = ap (λ (b : Bool). if b then part else 0) (sym won) ∙ sym (are.parts seat low high) ∙ none in
        let late = no_part chips k before (count_some are.wins seats seat low high won) nothing in
        inr (record { wins = are.wins; told = are.told; few = late.0; late = late.1 })

-- who has a share of two halves is unbeaten in one of them
half_of_best : (seats : ℕ) (contending : ℕ → Bool) (ranking : Ranking) (chips : ℕ) (share : ℕ → ℕ) → IsLowShown contending ranking → (halves : AreHalves seats contending ranking.beats ranking.beats_low chips share) (seat : ℕ) → 1 ≤ seat → seat ≤ seats → 0 < share seat → (0 < halves.high seat) ⊎ (halves.high seat ≤ 0) → IsUnbeaten contending ranking.beats seat ⊎ (IsLowShown contending ranking × IsUnbeaten contending ranking.beats_low seat)
half_of_best seats contending ranking chips share shown halves seat low high some (inl has) = inl (part_of_best seats contending ranking.beats (chips - chips / 2) halves.high halves.high_parts seat low high has)
half_of_best seats contending ranking chips share shown halves seat low high some (inr none) =
    let other : 0 < halves.low seat = omega (arith, halves.together seat low high) in
    inr (shown, part_of_best seats contending ranking.beats_low (chips / 2) halves.low halves.low_parts seat low high other)

pub goes_to_best : (code : Code) (showdown : Showdown) (pot : PlainPot) (share : ℕ → ℕ) → AreSharesOf code showdown pot share → GoesToBest code showdown pot share
goes_to_best code showdown pot share (inl one) seat low high several some = absurd (omega (arith, one.one, several))
goes_to_best code showdown pot share (inr shown) seat low high several some = elim shown.contested [
  | inl whole ↦ inl (part_of_best showdown.seats (is_contender showdown pot) (ranking_of code showdown).beats pot.chips share whole.1 seat low high some)
  | inr halves ↦ half_of_best showdown.seats (is_contender showdown pot) (ranking_of code showdown) pot.chips share halves.0 halves.1 seat low high some (cases_lt 0 (halves.1.high seat))
]

pub leaves_none_out : (code : Code) (showdown : Showdown) (pot : PlainPot) (share : ℕ → ℕ) → AreSharesOf code showdown pot share → LeavesNoneOut code showdown pot share
leaves_none_out code showdown pot share (inl one) seat low high several none = absurd (omega (arith, one.one, several))
leaves_none_out code showdown pot share (inr shown) seat low high several none = elim shown.contested [
  | inl whole ↦ inl (none_left_out showdown.seats (is_contender showdown pot) (ranking_of code showdown).beats pot.chips share whole.1 seat low high none)
  | inr halves ↦
      let both = halves.1.together seat low high in
      inr (none_left_out showdown.seats (is_contender showdown pot) (ranking_of code showdown).beats (pot.chips - pot.chips / 2) halves.1.high halves.1.high_parts seat low high (omega arith), none_left_out showdown.seats (is_contender showdown pot) (ranking_of code showdown).beats_low (pot.chips / 2) halves.1.low halves.1.low_parts seat low high (omega arith))
]
