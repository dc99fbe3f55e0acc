-- The stakes of the first seats of a hand, and what one more seat changes.
use Rattle.std.proofs.Common.{◌≡◌, ℕ, ◌+◌, ◌-◌, ◌<◌, Bool, true, false, not, ◌&&◌, ◌||◌, ◌==◌, cond, if◌then◌else◌, List, [], ◌∷◌, ◌++◌, Some, refl, sym, ap, ◌∙◌, arith, nat_lt, nat_le, map, filter, max, min, sum_by, get_or}
use Rattle.std.specs.List.{list_all}
use Rattle.std.proofs.lemmas.Bool.{ltb-false, le-ltb, lt-leb, not_from_true, or_from}
use Rattle.std.proofs.lemmas.List.{map-append, append-nil}
use Rattle.std.proofs.lemmas.List.Elements.{filter-append}
use Rattle.std.proofs.lemmas.List.Sums.{fold_push, sum_by_push}
use Rattle.std.proofs.lemmas.List.Folds.{list_all-append, list_all_at}
use Rattle.std.proofs.lemmas.List.FromFn.{get_or-map-range_with_len, length-map-range_with_len}
use Rattle.card_set.proofs.Tests.{and_one}
use Rattle.chip_ledger.specs.declared.live_row.LiveRow.{LiveRow}
use Rattle.chip_ledger.specs.declared.seat_row.SeatRow.{SeatRow}
use Rattle.chip_ledger.specs.LiveRow.{flag_of}
use Rattle.chip_ledger.specs.SeatRow.{amount_of}
use Rattle.chip_ledger.specs.PotRow.{stake_of, stakes_of}
use Rattle.chip_ledger.specs.Greatest.{greatest}
use Rattle.chip_ledger.specs.Pots.{Stake, is_reached_by_all, between, different, folded_above, greatest_other, levels, with_number}
use Rattle.chip_ledger.specs.Seat.{seats_of}
use Rattle.chip_ledger.proofs.Different.{first_above, first_above-with_number, lesser}
use Rattle.chip_ledger.proofs.PotLevels.{makes_level}
use Rattle.chip_ledger.proofs.Seats.{seats_of_more}

-- the stakes of the first seats
abbrev pub stakes_upto : SeatRow → LiveRow → ℕ → List Stake
stakes_upto puts live n = map (stake_of puts live) (seats_of n)

pub stakes_upto_more : (puts : SeatRow) (live : LiveRow) (n : ℕ)
    → stakes_upto puts live (n + 1) ≡ stakes_upto puts live n ++ stake_of puts live (n + 1) ∷ []
stakes_upto_more puts live n =
    ap (map (stake_of puts live)) (seats_of_more n)
    ∙ map-append (stake_of puts live) (seats_of n) ((n + 1) ∷ [])

-- a sum over one more seat
pub sum_of_stakes_more : (f : Stake → ℕ) (puts : SeatRow) (live : LiveRow) (n : ℕ)
    → sum_by f (stakes_upto puts live (n + 1))
    ≡ sum_by f (stakes_upto puts live n) + f (stake_of puts live (n + 1))
sum_of_stakes_more f puts live n =
    ap (sum_by f) (stakes_upto_more puts live n)
    ∙ sum_by_push f (stakes_upto puts live n) (stake_of puts live (n + 1))

-- the greatest of some numbers and of one more
pub greatest-push : (numbers : List ℕ) (n : ℕ) → greatest (numbers ++ n ∷ []) ≡ max (greatest numbers) n
greatest-push [] n = omega arith
greatest-push (first ∷ rest) n = omega (arith, greatest-push rest n)

one_more : (kept : Bool) (chips : List ℕ) (s : Stake)
    → greatest (chips ++ map (λ (t : Stake). t.chips) (cond kept (s ∷ []) []))
    ≡ (if kept then max (greatest chips) s.chips else greatest chips)
one_more true chips s = greatest-push chips s.chips
one_more false chips s = ap greatest (append-nil chips)

greatest_other-push : (stakes : List Stake) (s : Stake) (seat : ℕ)
    → greatest_other (stakes ++ s ∷ []) seat
    ≡ (if not (s.seat == seat) then max (greatest_other stakes seat) s.chips else greatest_other stakes seat)
greatest_other-push stakes s seat =
    let other : Stake → Bool = λ t. not (t.seat == seat) in
    let chips : Stake → ℕ = λ t. t.chips in
    ap (λ ts. greatest (map chips ts)) (filter-append other stakes (s ∷ []))
    ∙ ap greatest (map-append chips (filter other stakes) (filter other (s ∷ [])))
    ∙ one_more (other s) (map chips (filter other stakes)) s

one_level_more : (makes : Bool) (xs : List ℕ) (s : Stake)
    → different (xs ++ map (λ (t : Stake). t.chips) (cond makes (s ∷ []) []))
    ≡ (if makes then with_number (different xs) s.chips else different xs)
one_level_more true xs s = fold_push with_number [] xs s.chips
one_level_more false xs s = ap different (append-nil xs)

levels-push : (stakes : List Stake) (s : Stake)
    → levels (stakes ++ s ∷ [])
    ≡ (if makes_level s then with_number (levels stakes) s.chips else levels stakes)
unfolding levels
levels-push stakes s =
    let chips : Stake → ℕ = λ t. t.chips in
    ap (λ ts. different (map chips ts)) (filter-append makes_level stakes (s ∷ []))
    ∙ ap different (map-append chips (filter makes_level stakes) (filter makes_level (s ∷ [])))
    ∙ one_level_more (makes_level s) (map chips (filter makes_level stakes)) s

above_zero : (live : Bool) (b n : ℕ) (ys : List ℕ) (makes : Bool)
    → makes ≡ (live && nat_lt 0 n)
    → first_above b (if makes then with_number ys n else ys)
    ≡ (if live && nat_lt b n then Some (lesser n (first_above b ys)) else first_above b ys)
above_zero true b n ys true e = first_above-with_number b ys n
above_zero true b n ys false e =
    let none : nat_lt b n ≡ false = let z = ltb-false 0 n (sym e) in le-ltb b n (omega arith) in
    ap (λ t. cond t (Some (lesser n (first_above b ys))) (first_above b ys)) (sym none)
above_zero false b n ys true e = cc
above_zero false b n ys false e = refl

-- the first level above b, with one more seat
pub first_level_more : (b : ℕ) (puts : SeatRow) (live : LiveRow) (n : ℕ)
    → first_above b (levels (stakes_upto puts live (n + 1)))
    ≡ (if flag_of live (n + 1) && nat_lt b (amount_of puts (n + 1)) then Some (lesser (amount_of puts (n + 1)) (first_above b (levels (stakes_upto puts live n)))) else first_above b (levels (stakes_upto puts live n)))
first_level_more b puts live n =
    let stakes = stakes_upto puts live n in
    let s = stake_of puts live (n + 1) in
    ap (λ ts. first_above b (levels ts)) (stakes_upto_more puts live n)
    ∙ ap (first_above b) (levels-push stakes s)
    ∙ above_zero s.live b s.chips (levels stakes) (makes_level s) refl

-- whether all reach a level, with one more seat
pub all_reach_more : (puts : SeatRow) (live : LiveRow) (n level : ℕ)
    → is_reached_by_all (stakes_upto puts live (n + 1)) level
    ≡ (is_reached_by_all (stakes_upto puts live n) level && (not (flag_of live (n + 1)) || nat_le level (amount_of puts (n + 1))))
all_reach_more puts live n level =
    let reaches : Stake → Bool = λ t. not t.live || nat_le level t.chips in
    let s = stake_of puts live (n + 1) in
    ap (list_all reaches) (stakes_upto_more puts live n)
    ∙ list_all-append reaches (stakes_upto puts live n) (s ∷ [])
    ∙ and_one (list_all reaches (stakes_upto puts live n)) (reaches s)

-- one seat that does not reach a level decides that not all do
pub all_reach_fails : (puts : SeatRow) (live : LiveRow) (n level : ℕ)
    → n < puts.seats
    → flag_of live (n + 1) ≡ true
    → amount_of puts (n + 1) < level
    → is_reached_by_all (stakes_of puts live) level ≡ false
all_reach_fails puts live n level inside is_live short =
    let reaches : Stake → Bool = λ t. not t.live || nat_le level t.chips in
    let s = stake_of puts live (n + 1) in
    let at : get_or (stakes_of puts live) n s ≡ s =
    get_or-map-range_with_len (stake_of puts live) 1 puts.seats n (n + 1) s inside (omega arith) in
    let fails : reaches s ≡ false =
    or_from (not s.live) (nat_le level s.chips) (not_from_true s.live is_live)
    (lt-leb level s.chips short) in
    list_all_at reaches (stakes_of puts live) n s
    (let long = length-map-range_with_len (stake_of puts live) 1 puts.seats in omega arith)
    (ap reaches at ∙ fails)

-- the greatest chips of others, with one more seat
pub greatest_other_more : (puts : SeatRow) (live : LiveRow) (n seat : ℕ)
    → greatest_other (stakes_upto puts live (n + 1)) seat
    ≡ (if not (n + 1 == seat) then max (greatest_other (stakes_upto puts live n) seat) (amount_of puts (n + 1)) else greatest_other (stakes_upto puts live n) seat)
greatest_other_more puts live n seat =
    ap (λ ts. greatest_other ts seat) (stakes_upto_more puts live n)
    ∙ greatest_other-push (stakes_upto puts live n) (stake_of puts live (n + 1)) seat

-- the chips between two levels, with one more seat
pub between_more : (puts : SeatRow) (live : LiveRow) (n below level : ℕ)
    → between (stakes_upto puts live (n + 1)) below level
    ≡ between (stakes_upto puts live n) below level + (min (amount_of puts (n + 1)) level - below)
between_more puts live n below level = sum_of_stakes_more (λ s. min s.chips level - below) puts live n

-- the folded chips above a level, with one more seat
pub folded_above_more : (puts : SeatRow) (live : LiveRow) (n level : ℕ)
    → folded_above (stakes_upto puts live (n + 1)) level
    ≡ folded_above (stakes_upto puts live n) level +
    (if flag_of live (n + 1) then 0 else amount_of puts (n + 1) - level)
folded_above_more puts live n level =
    sum_of_stakes_more (λ s. if s.live then 0 else s.chips - level) puts live n
