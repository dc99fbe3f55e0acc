-- Rows of pots or of shares with the same entries are the same.
use Rattle.std.proofs.Common.{◌≡◌, ℕ, ◌<◌, ◌≤◌, List, Some, length, get_or, take, slice_get, sym, ap, ◌∙◌, subst, ⊎_elim, arith}
use Rattle.std.proofs.Props.{props}
use Rattle.std.proofs.lemmas.Bool.{cases_lt}
use Rattle.std.proofs.lemmas.List.{same_lists, length-take-le, get_or-take}
use Rattle.std.proofs.lemmas.Option.{get_or_from_slice_get}
use Rattle.chip_ledger.specs.declared.seat_row.SeatRow.{SeatRow}
use Rattle.chip_ledger.specs.declared.pots.Pot.{Pot}
use Rattle.chip_ledger.specs.declared.pots.PotRow.{PotRow}
use Rattle.chip_ledger.specs.declared.shares.ShareRow.{ShareRow}
use Rattle.chip_ledger.specs.Fillers.{no_amounts, no_pot}
use Rattle.chip_ledger.specs.PotRow.{pots_in, shares_in}

-- eleven places: the first n are used, and the others have the filler
record Places {X : Type 0} (filler : X) (n : ℕ) (xs : List X) : Type 0 where
  most : n ≤ 11
  full : length xs ≡ 11
  past : (k : ℕ) → n ≤ k → k < 11 → slice_get xs k ≡ Some filler

same_count : {X : Type 0} (filler : X) (m n : ℕ) (xs ys : List X)
    → Places filler m xs
    → Places filler n ys
    → take m xs ≡ take n ys
    → m ≡ n
same_count filler m n xs ys p q e =
    sym (length-take-le m xs (omega arith)) ∙ ap length e ∙ length-take-le n ys (omega arith)

same_places : {X : Type 0} (filler : X) (m n : ℕ) (xs ys : List X)
    → Places filler m xs
    → Places filler n ys
    → take m xs ≡ take n ys
    → xs ≡ ys
same_places {X} filler m n xs ys p q e =
    let same : m ≡ n = same_count filler m n xs ys p q e in
    same_lists xs ys (p.full ∙ sym q.full) (λ k d inside.
    ⊎_elim
    (λ (l : k < m). sym (get_or-take m xs k d l) ∙ ap (λ zs. get_or zs k d) e ∙ get_or-take n ys k d (omega arith))
    (λ (l : m ≤ k).
    get_or_from_slice_get xs k filler d (p.past k l (omega arith))
    ∙ sym (get_or_from_slice_get ys k filler d (q.past k (omega arith) (omega arith))))
    (cases_lt k m))

pot_places : (row : PotRow) → Places no_pot row.count row.pots
pot_places row = record { most = row.most; full = row.full; past = row.filler }

pot_places-prop : (n : ℕ) (pots : List Pot) → IsProp (Places no_pot n pots)
pot_places-prop n pots = hlevel props

pot_row : (n : ℕ) (pots : List Pot) → SeatRow → Places no_pot n pots → PotRow
pot_row n pots returned p =
    record {
      count = n;
      pots = pots;
      returned = returned;
      most = p.most;
      full = p.full;
      filler = p.past;
    }

pub pot_row_same : (a b : PotRow)
    → a.count ≡ b.count
    → a.pots ≡ b.pots
    → a.returned ≡ b.returned
    → a ≡ b
unfolding pot_row pot_places
pot_row_same a b n e r =
    let P : ℕ → List Pot → SeatRow → Type 0 =
    λ n pots back. (p : Places no_pot n pots) → a ≡ pot_row n pots back p in
    let here : P a.count a.pots a.returned =
    λ p. ap (pot_row a.count a.pots a.returned) (pot_places-prop a.count a.pots (pot_places a) p) in
    subst (λ back. P b.count b.pots back) r
    (subst (λ pots. P b.count pots a.returned) e (subst (λ n. P n a.pots a.returned) n here))
    (pot_places b)

-- rows with the same pots and returns are equal
pub pot_row_same_by_pots : (a b : PotRow) → pots_in a ≡ pots_in b → a.returned ≡ b.returned → a ≡ b
pot_row_same_by_pots a b e r =
    pot_row_same a b (same_count no_pot a.count b.count a.pots b.pots (pot_places a) (pot_places b) e)
    (same_places no_pot a.count b.count a.pots b.pots (pot_places a) (pot_places b) e) r

share_places : (row : ShareRow) → Places no_amounts row.count row.shares
share_places row = record { most = row.most; full = row.full; past = row.filler }

share_places-prop : (n : ℕ) (shares : List SeatRow) → IsProp (Places no_amounts n shares)
share_places-prop n shares = hlevel props

share_row : (n : ℕ) (shares : List SeatRow) → Places no_amounts n shares → ShareRow
share_row n shares p =
    record { count = n; shares = shares; most = p.most; full = p.full; filler = p.past }

pub share_row_same : (a b : ShareRow) → a.count ≡ b.count → a.shares ≡ b.shares → a ≡ b
unfolding share_row share_places
share_row_same a b n e =
    let P : ℕ → List SeatRow → Type 0 =
    λ n shares. (p : Places no_amounts n shares) → a ≡ share_row n shares p in
    let here : P a.count a.shares =
    λ p. ap (share_row a.count a.shares) (share_places-prop a.count a.shares (share_places a) p) in
    subst (λ shares. P b.count shares) e (subst (λ n. P n a.shares) n here) (share_places b)

-- rows with the same shares are equal
pub share_row_same_by_shares : (a b : ShareRow) → shares_in a ≡ shares_in b → a ≡ b
share_row_same_by_shares a b e =
    share_row_same a b
    (same_count no_amounts a.count b.count a.shares b.shares (share_places a) (share_places b) e)
    (same_places no_amounts a.count b.count a.shares b.shares (share_places a) (share_places b) e)
