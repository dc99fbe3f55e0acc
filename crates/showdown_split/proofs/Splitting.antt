-- One more pot is shared, or it is the first without a shown hand.
use Rattle.std.proofs.Common.{◌≡◌, ◌<◌, ◌+◌, ℕ, suc, Bool, true, false, List, [], ◌∷◌, ◌++◌, Some, None, All, length, length-take, map, take, drop, take-append-drop, get_or, if◌then◌else◌, subst, sym, ◌∙◌, ap, arith}
use Rattle.std.proofs.lemmas.List.{length-map, map-append, take_more}
use Rattle.std.proofs.lemmas.List.Elements.{All-push}
use Rattle.chip_ledger.specs.declared.pots.Pot.{Pot}
use Rattle.chip_ledger.specs.declared.seat_row.SeatRow.{SeatRow}
use Rattle.chip_ledger.specs.PotRow.{plain}
use Rattle.chip_ledger.specs.Pots.{PlainPot}
use Rattle.chip_ledger.specs.SeatRow.{amount_of}
use Rattle.play_event.specs.declared.code.Code.{Code}
use Rattle.variant_table.specs.Shares.{AllShared, AreSharesOf, Showdown, first_unshown, first_unshown_from, is_unshown}

shared_more : (code : Code) (showdown : Showdown) (pots : List PlainPot) (shares : List (ℕ → ℕ)) (pot : PlainPot) (share : ℕ → ℕ)
    → AllShared code showdown pots shares
    → AreSharesOf code showdown pot share
    → AllShared code showdown (pots ++ pot ∷ []) (shares ++ share ∷ [])
shared_more code showdown [] [] pot share all one = (one, tt)
shared_more code showdown [] (s ∷ shares) pot share all one = absurd all
shared_more code showdown (p ∷ pots) [] pot share all one = absurd all
shared_more code showdown (p ∷ pots) (s ∷ shares) pot share all one = (all.0, shared_more code showdown pots shares pot share all.1 one)

-- the lists of pots and of shares, each with one more
pub shared_next : (code : Code) (showdown : Showdown) (pots new_pots : List PlainPot) (rows new_rows : List SeatRow) (pot : PlainPot) (row : SeatRow)
    → new_pots ≡ pots ++ pot ∷ []
    → new_rows ≡ rows ++ row ∷ []
    → AllShared code showdown pots (map amount_of rows)
    → AreSharesOf code showdown pot (amount_of row)
    → AllShared code showdown new_pots (map amount_of new_rows)
shared_next code showdown pots new_pots rows new_rows pot row next pushed all one =
    subst (λ (xs : List PlainPot). AllShared code showdown xs (map amount_of new_rows)) (sym next)
    (subst (λ (ys : List (ℕ → ℕ)). AllShared code showdown (pots ++ pot ∷ []) ys) (sym (ap (map amount_of) pushed ∙ map-append amount_of rows (row ∷ [])))
    (shared_more code showdown pots (map amount_of rows) pot (amount_of row) all one))

-- one more row of this many seats
pub seats_next : (seats : ℕ) (rows new : List SeatRow) (row : SeatRow) → new ≡ rows ++ row ∷ [] → All (λ (r : SeatRow). r.seats ≡ seats) rows → row.seats ≡ seats → All (λ (r : SeatRow). r.seats ≡ seats) new
seats_next seats rows new row pushed all one =
    subst (λ (ys : List SeatRow). All (λ (r : SeatRow). r.seats ≡ seats) ys) (sym pushed) (All-push (λ (r : SeatRow). r.seats ≡ seats) rows row all one)

-- one more pot that has a shown hand
pub still_shown : (number : ℕ) (showdown : Showdown) (pots : List PlainPot) (pot : PlainPot) → first_unshown_from number showdown pots ≡ None → is_unshown showdown pot ≡ false → first_unshown_from number showdown (pots ++ pot ∷ []) ≡ None
still_shown number showdown [] pot none shown = ap (λ (b : Bool). if b then Some number else None) shown
still_shown number showdown (p ∷ pots) pot none shown = by (is_unshown showdown p) none (λ rest. still_shown (suc number) showdown pots pot rest shown)
  where
    by : (b : Bool) → (if b then Some number else first_unshown_from (suc number) showdown pots) ≡ None → (first_unshown_from (suc number) showdown pots ≡ None → first_unshown_from (suc number) showdown (pots ++ pot ∷ []) ≡ None) → (if b then Some number else first_unshown_from (suc number) showdown (pots ++ pot ∷ [])) ≡ None
    by true none more = absurd (cc (none))
    by false none more = more none

-- one more pot without one is the first such, whatever comes after it
pub now_unshown : (number : ℕ) (showdown : Showdown) (pots : List PlainPot) (pot : PlainPot) (rest : List PlainPot) → first_unshown_from number showdown pots ≡ None → is_unshown showdown pot ≡ true → first_unshown_from number showdown ((pots ++ pot ∷ []) ++ rest) ≡ Some (number + length pots)
now_unshown number showdown [] pot rest none unshown =
    ap (λ (b : Bool). if b then Some number else first_unshown_from (suc number) showdown rest) unshown
    ∙ ap (λ (n : ℕ). Some n) (omega arith)
now_unshown number showdown (p ∷ pots) pot rest none unshown = by (is_unshown showdown p) none (λ before. now_unshown (suc number) showdown pots pot rest before unshown ∙ ap (λ (n : ℕ). Some n) (omega arith))
  where
    by : (b : Bool) → (if b then Some number else first_unshown_from (suc number) showdown pots) ≡ None → (first_unshown_from (suc number) showdown pots ≡ None → first_unshown_from (suc number) showdown ((pots ++ pot ∷ []) ++ rest) ≡ Some (number + length (p ∷ pots))) → (if b then Some number else first_unshown_from (suc number) showdown ((pots ++ pot ∷ []) ++ rest)) ≡ Some (number + length (p ∷ pots))
    by true none more = absurd (cc (none))
    by false none more = more none

-- the pots up to one more
pub taken_more : (items : List Pot) (i : ℕ) (pot : Pot) → i < length items → pot ≡ get_or items i pot → take (i + 1) items ≡ take i items ++ pot ∷ []
taken_more items i pot inside is = take_more items i pot inside ∙ ap (λ (p : Pot). take i items ++ p ∷ []) (sym is)

pub plain_more : (items : List Pot) (i : ℕ) (pot : Pot) → i < length items → pot ≡ get_or items i pot → map plain (take (i + 1) items) ≡ map plain (take i items) ++ plain pot ∷ []
plain_more items i pot inside is = ap (map plain) (taken_more items i pot inside is) ∙ map-append plain (take i items) (pot ∷ [])

-- the first pot without a shown hand, found after this many shares
pub unshown_at : (showdown : Showdown) (items : List Pot) (i : ℕ) (pot : Pot) (count : ℕ) → i < length items → pot ≡ get_or items i pot → first_unshown showdown (map plain (take i items)) ≡ None → is_unshown showdown (plain pot) ≡ true → count ≡ i → first_unshown showdown (map plain items) ≡ Some (count + 1)
unshown_at showdown items i pot count inside is none unshown same =
    let rest = map plain (drop (i + 1) items) in
    let all : map plain items ≡ (map plain (take i items) ++ plain pot ∷ []) ++ rest =
    ap (map plain) (sym (take-append-drop (i + 1) items))
    ∙ map-append plain (take (i + 1) items) (drop (i + 1) items)
    ∙ ap (λ (xs : List PlainPot). xs ++ rest) (plain_more items i pot inside is) in
    let long = length-map (take i items) plain in
    let taken = length-take i items in
    ap (first_unshown showdown) all
    ∙ now_unshown 1 showdown (map plain (take i items)) (plain pot) rest none unshown
    ∙ ap (λ (n : ℕ). Some n) (omega arith)
