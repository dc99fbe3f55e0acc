-- The rules leave no choice of shares: two sharings of the same pots give each seat the same.
use Rattle.std.proofs.Common.{◌≡◌, ℕ, zero, suc, ◌+◌, ◌-◌, ◌/◌, ◌≤◌, inl, inr, Bool, List, [], ◌∷◌, All, map, refl, sym, ap, ◌∙◌, arith}
use Rattle.card_set.proofs.Tests.{same_test}
use Rattle.chip_ledger.specs.declared.seat_row.SeatRow.{SeatRow}
use Rattle.chip_ledger.specs.Pots.{PlainPot}
use Rattle.chip_ledger.specs.SeatRow.{amount_of}
use Rattle.chip_ledger.proofs.Same.{seat_row_same_by_seats}
use Rattle.play_event.specs.declared.code.Code.{Code}
use Rattle.variant_table.specs.Division.{AreHalves, AreParts}
use Rattle.variant_table.specs.Shares.{AllShared, AreContested, AreShares, Ranking, Showdown, is_contender, ranking_of}
use Rattle.showdown_split.proofs.Parts.{divided-agree}

-- the winners are determined, and their parts with them
parts_same : (seats : ℕ) (contending : ℕ → Bool) (beats : ℕ → ℕ → Type 0) (chips : ℕ) (share other : ℕ → ℕ) → AreParts seats contending beats chips share → AreParts seats contending beats chips other → (seat : ℕ) → 1 ≤ seat → seat ≤ seats → share seat ≡ other seat
parts_same seats contending beats chips share other a b seat least most =
    a.parts seat least most
    ∙ (divided-agree seats a.wins b.wins chips seat (λ k low high.
    same_test (a.wins k) (b.wins k) (λ won. (b.told k).1 ((a.told k).0 won)) (λ won. (a.told k).1 ((b.told k).0 won))) least most
    ∙ sym (b.parts seat least most))

-- so are the parts of both halves
halves_same : (seats : ℕ) (contending : ℕ → Bool) (beats low : ℕ → ℕ → Type 0) (chips : ℕ) (share other : ℕ → ℕ) → AreHalves seats contending beats low chips share → AreHalves seats contending beats low chips other → (seat : ℕ) → 1 ≤ seat → seat ≤ seats → share seat ≡ other seat
halves_same seats contending beats low chips share other a b seat least most =
    a.together seat least most
    ∙ (ap (λ (n : ℕ). n + a.low seat) (parts_same seats contending beats (chips - chips / 2) a.high b.high a.high_parts b.high_parts seat least most)
    ∙ (ap (λ (n : ℕ). b.high seat + n) (parts_same seats contending low (chips / 2) a.low b.low a.low_parts b.low_parts seat least most)
    ∙ sym (b.together seat least most)))

-- chips are halved in both sharings, or in neither
contested_same : (seats : ℕ) (contending : ℕ → Bool) (ranking : Ranking) (chips : ℕ) (share other : ℕ → ℕ) → AreContested seats contending ranking chips share → AreContested seats contending ranking chips other → (seat : ℕ) → 1 ≤ seat → seat ≤ seats → share seat ≡ other seat
contested_same seats contending ranking chips share other (inl a) (inl b) = parts_same seats contending ranking.beats chips share other a.1 b.1
contested_same seats contending ranking chips share other (inl a) (inr b) = absurd (a.0 b.0)
contested_same seats contending ranking chips share other (inr a) (inl b) = absurd (b.0 a.0)
contested_same seats contending ranking chips share other (inr a) (inr b) = halves_same seats contending ranking.beats ranking.beats_low chips share other a.1 b.1

-- the shares of a pot
shares_same : (seats : ℕ) (contending : ℕ → Bool) (ranking : Ranking) (pot : PlainPot) (share other : ℕ → ℕ) → AreShares seats contending ranking pot share → AreShares seats contending ranking pot other → (seat : ℕ) → 1 ≤ seat → seat ≤ seats → share seat ≡ other seat
shares_same seats contending ranking pot share other (inl a) (inl b) seat least most = a.all seat least most ∙ sym (b.all seat least most)
shares_same seats contending ranking pot share other (inl a) (inr b) seat least most = absurd (omega (arith, a.one, b.several))
shares_same seats contending ranking pot share other (inr a) (inl b) seat least most = absurd (omega (arith, b.one, a.several))
shares_same seats contending ranking pot share other (inr a) (inr b) seat least most = contested_same seats contending ranking pot.chips share other a.contested b.contested seat least most

-- rows that share the same pots are the same rows
pub share_lists_same : (code : Code) (showdown : Showdown) (pots : List PlainPot) (xs ys : List SeatRow) → All (λ (row : SeatRow). row.seats ≡ showdown.seats) xs → All (λ (row : SeatRow). row.seats ≡ showdown.seats) ys → AllShared code showdown pots (map amount_of xs) → AllShared code showdown pots (map amount_of ys) → xs ≡ ys
share_lists_same code showdown [] [] [] one other a b = refl
share_lists_same code showdown [] (x ∷ xs) ys one other a b = absurd a
share_lists_same code showdown [] [] (y ∷ ys) one other a b = absurd b
share_lists_same code showdown (pot ∷ pots) [] ys one other a b = absurd a
share_lists_same code showdown (pot ∷ pots) (x ∷ xs) [] one other a b = absurd b
share_lists_same code showdown (pot ∷ pots) (x ∷ xs) (y ∷ ys) one other a b =
    let seats : x.seats ≡ showdown.seats = one zero x (omega arith) in
    let too : y.seats ≡ showdown.seats = other zero y (omega arith) in
    let head : x ≡ y = seat_row_same_by_seats x y (seats ∙ sym too) (λ seat least most.
    shares_same showdown.seats (is_contender showdown pot) (ranking_of code showdown) pot (amount_of x) (amount_of y) a.0 b.0 seat least (omega (arith, most, seats))) in
    let tail : xs ≡ ys = share_lists_same code showdown pots xs ys (λ k d within. one (suc k) d (omega (arith, within))) (λ k d within. other (suc k) d (omega (arith, within))) a.1 b.1 in
    ap (λ z. z ∷ xs) head ∙ ap (λ zs. y ∷ zs) tail
