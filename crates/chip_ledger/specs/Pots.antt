-- The pots of a hand: what is returned, the levels at which chips are cut, and who may win each
-- pot.
use Rattle.std.specs.Prelude.{ℕ, ◌+◌, ◌-◌, ◌==◌, ◌&&◌, ◌||◌, Bool, not, if◌then◌else◌, List, [], ◌∷◌, min, nat_lt, nat_le, map, filter, fold, sum, sum_by}
use Rattle.std.specs.List.{list_all, list_any}
use Rattle.chip_ledger.specs.Greatest.{greatest}

-- a seat at the end of a hand: its number, the chips that it put and that count, and whether it is
-- live
pub record Stake : Type 0 where
  pub seat : ℕ
  pub chips : ℕ
  pub live : Bool

-- a pot: its chips, and the numbers of the seats that may win it
pub record PlainPot : Type 0 where
  pub chips : ℕ
  pub eligible : List ℕ

-- whether a seat may win a pot
abbrev pub may_win : PlainPot → ℕ → Bool
may_win pot seat = list_any (λ n. n == seat) pot.eligible

-- what a seat gets of a pot that only one seat may win
abbrev pub whole_share : PlainPot → ℕ → ℕ
whole_share pot seat = if may_win pot seat then pot.chips else 0

-- the chips of a seat that count: what it put, without its ante if antes are dead
abbrev pub counted : Bool → ℕ → ℕ → ℕ
counted dead_antes put ante = if dead_antes then put - ante else put

-- the dead chips of a hand: the antes of all seats if antes are dead
abbrev pub dead_chips : Bool → List ℕ → ℕ
dead_chips dead_antes antes = if dead_antes then sum antes else 0

-- the most that any other seat put, folded seats included
abbrev pub greatest_other : List Stake → ℕ → ℕ
greatest_other stakes seat =
    greatest (map (λ stake. stake.chips) (filter (λ stake. not (stake.seat == seat)) stakes))

-- what a seat gets back: the chips by which a live seat put more than every other seat
abbrev pub returned : List Stake → Stake → ℕ
returned stakes stake = if stake.live then stake.chips - greatest_other stakes stake.seat else 0

-- a seat's stake without what is returned
abbrev pub without_returned : List Stake → Stake → Stake
without_returned stakes stake = record stake { chips = stake.chips - returned stakes stake }

-- the stakes after the return
unfoldable pub after_return : List Stake → List Stake
after_return stakes = map (without_returned stakes) stakes

-- an ascending list of numbers with one more, without repeats
abbrev pub with_number : List ℕ → ℕ → List ℕ
with_number [] x = x ∷ []
with_number (y ∷ ys) x =
    if x == y then y ∷ ys else (if nat_lt x y then x ∷ y ∷ ys else y ∷ with_number ys x)

-- the different numbers of a list, ascending
abbrev pub different : List ℕ → List ℕ
different xs = fold with_number [] xs

-- the levels: the different amounts above 0 that live seats put, ascending
unfoldable pub levels : List Stake → List ℕ
levels stakes =
    different
    (map (λ stake. stake.chips) (filter (λ stake. stake.live && nat_lt 0 stake.chips) stakes))

-- the chips of every seat above one level and up to the next
abbrev pub between : List Stake → ℕ → ℕ → ℕ
between stakes below level = sum_by (λ stake. min stake.chips level - below) stakes

-- the chips of folded seats above a level
abbrev pub folded_above : List Stake → ℕ → ℕ
folded_above stakes level = sum_by (λ stake. if stake.live then 0 else stake.chips - level) stakes

-- the live seats that reach a level
abbrev pub reaching : List Stake → ℕ → List ℕ
reaching stakes level =
    map (λ stake. stake.seat) (filter (λ stake. stake.live && nat_le level stake.chips) stakes)

-- the chips above a level that join the pot of this level: those of folded seats, if this is the
-- last level
abbrev pub joining : List Stake → ℕ → List ℕ → ℕ
joining stakes level [] = folded_above stakes level
joining stakes level (_ ∷ _) = 0

-- one pot for each of these levels; `below` is the level under the first of them
unfoldable pub layers : List Stake → ℕ → List ℕ → List PlainPot
layers stakes below [] = []
layers stakes below (level ∷ rest) =
    record {
      chips = between stakes below level + joining stakes level rest;
      eligible = reaching stakes level;
    } ∷ layers stakes level rest

-- the pots with the dead chips added to the lowest
abbrev pub with_dead : ℕ → List PlainPot → List PlainPot
with_dead dead [] = []
with_dead dead (pot ∷ pots) = record pot { chips = pot.chips + dead } ∷ pots

-- whether every live seat reaches a level
abbrev pub is_reached_by_all : List Stake → ℕ → Bool
is_reached_by_all stakes level =
    list_all (λ stake. not stake.live || nat_le level stake.chips) stakes

-- the pots with the dead chips, empty pots included: the dead chips are a pot of their own for all
-- live seats, or join the first pot if all live seats may win it; without levels all chips are in
-- one pot
unfoldable pub pots_at : List Stake → ℕ → List ℕ → List PlainPot
pots_at stakes dead [] =
    record { chips = sum_by (λ stake. stake.chips) stakes + dead; eligible = reaching stakes 0 }
    ∷ []
pots_at stakes dead (first ∷ rest) =
    if is_reached_by_all stakes first
    then with_dead dead (layers stakes 0 (first ∷ rest))
    else record { chips = dead; eligible = reaching stakes 0 } ∷ layers stakes 0 (first ∷ rest)

-- the pots that have chips
abbrev pub with_chips : List PlainPot → List PlainPot
with_chips pots = filter (λ pot. nat_lt 0 pot.chips) pots

-- the pots of a hand from its stakes and dead chips, lowest first
unfoldable pub pots_of : List Stake → ℕ → List PlainPot
pots_of stakes dead =
    let left = after_return stakes in with_chips (pots_at left dead (levels left))
