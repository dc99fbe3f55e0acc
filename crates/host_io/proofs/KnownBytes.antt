-- What a series of calls does to known bytes, and what is left if they end early.
use Rattle.std.proofs.Common.{◌≡◌, ◌≤◌, ℕ, ◌+◌, ◌-◌, List, ◌++◌, length, take, drop, Option, None, Some, sym, ap, subst, ◌∙◌, arith, length-append}
use Rattle.std.proofs.lemmas.List.{drop_at, take_rest}
use Rattle.std.proofs.Math.Seq.{take-add}
use Rattle.std.specs.Io.KnownBytes.{Appends, Consumes}
use Rattle.std.proofs.KnownBytes.{Appends-trans}
use Rattle.host_io.specs.Bytes.{Loses, LosesAtMost}

-- bytes that were taken are lost
pub Loses-from_taken : (n : ℕ) (old new : Option (List ℕ)) (bs : List ℕ) → Consumes old new bs → length bs ≡ n → Loses n old new
Loses-from_taken n None new bs taken len = tt
Loses-from_taken n (Some xs) None bs taken len = taken
Loses-from_taken n (Some xs) (Some ys) bs taken len = sym (ap (drop n) taken ∙ drop_at bs ys n len)

pub LosesAtMost-from_taken : (n : ℕ) (old new : Option (List ℕ)) (bs : List ℕ) → Consumes old new bs → length bs ≤ n → LosesAtMost n old new
LosesAtMost-from_taken n None new bs taken len = tt
LosesAtMost-from_taken n (Some xs) None bs taken len = taken
LosesAtMost-from_taken n (Some xs) (Some ys) bs taken len =
    let whole : length xs ≡ length bs + length ys = ap length taken ∙ length-append bs ys in
    let front : length bs ≡ length xs - length ys = omega arith in
    (sym (ap (drop (length xs - length ys)) taken ∙ drop_at bs ys (length xs - length ys) front), omega arith)

-- a front of bs was written, and then a front of what is left of bs
pub Appends-more : (old mid new : Option (List ℕ)) (bs : List ℕ) (i n : ℕ) → Appends old mid (take i bs) → Appends mid new (take n (take (length bs - i) (drop i bs)))
    → Appends old new (take (i + n) bs)
Appends-more old mid new bs i n before more =
    let front : take i bs ++ take n (take (length bs - i) (drop i bs)) ≡ take (i + n) bs = ap (λ l. take i bs ++ take n l) (take_rest bs i) ∙ sym (take-add i n bs) in
    subst (Appends old new) front (Appends-trans old mid new _ _ before more)
