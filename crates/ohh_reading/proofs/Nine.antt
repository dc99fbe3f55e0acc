-- Nine digits, the last of them zeros, with one more of the first.
use Rattle.std.proofs.Common.{◌≡◌, ℕ, suc, ◌+◌, ◌-◌, ◌<◌, ◌≤◌, List, [], ◌∷◌, ◌++◌, length, take, set, get_or, replicate, sym, ap, ◌∙◌, append_assoc, arith}
use Rattle.std.proofs.lemmas.List.{take_more, length-take-le}
use Rattle.card_set.proofs.Entries.{set_at}

-- one more digit
pub one_more : (digits nine : List ℕ) (i x : ℕ) → i < length digits → length digits ≤ 9 → x ≡ get_or digits i 0 → nine ≡ take i digits ++ replicate (9 - i) 48 → set nine i x ≡ take (i + 1) digits ++ replicate (9 - (i + 1)) 48
one_more digits nine i x within few is so_far =
    let left : 9 - i ≡ suc (9 - (i + 1)) = omega (arith, within, few) in
    let front : length (take i digits) ≡ i = length-take-le i digits (omega (arith, within)) in
    ap (λ ds. set ds i x) (so_far ∙ ap (λ n. take i digits ++ replicate n 48) left)
    ∙ set_at (take i digits) i (9 - (i + 1)) x 48 front
    ∙ ap (λ y. take i digits ++ y ∷ replicate (9 - (i + 1)) 48) is
    ∙ sym (append_assoc (take i digits) (get_or digits i 0 ∷ []) (replicate (9 - (i + 1)) 48))
    ∙ ap (λ ds. ds ++ replicate (9 - (i + 1)) 48) (sym (take_more digits i 0 within))
