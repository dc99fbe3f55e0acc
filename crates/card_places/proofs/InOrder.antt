-- The index of a place among those of several owners and streets.
use Rattle.std.proofs.Common.{◌≡◌, ℕ, zero, suc, ◌+◌, ◌-◌, ◌<◌, ◌≤◌, Option, Some, None, List, [], ◌∷◌, ◌++◌, map, flat_map, length, count_by, slice_get, refl, sym, ap, subst, ◌∙◌, arith, length-append, append_assoc}
use Rattle.std.specs.List.{range_with_len}
use Rattle.std.proofs.lemmas.List.{append-nil}
use Rattle.std.proofs.lemmas.List.Sums.{length-filter}
use Rattle.play_event.specs.declared.code.Code.{Code}
use Rattle.play_event.specs.Games.{street_count}
use Rattle.play_event.specs.Places.{Place, is_in_group, group_of}
use Rattle.card_places.specs.Ordered.{on_seats, on_street, on_streets, ordered}
use Rattle.card_places.specs.Room.{IsWithin, sum_from}
use Rattle.card_places.proofs.Rooms.{all_counted}
use Rattle.card_places.proofs.Rooms as rooms

-- an element of the first of two lists
got_first : (xs ys : List Place) (i : ℕ) (x : Place) → slice_get xs i ≡ Some x → slice_get (xs ++ ys) i ≡ Some x
got_first [] ys i x is = absurd cc
got_first (y ∷ xs) ys zero x is = is
got_first (y ∷ xs) ys (suc i) x is = got_first xs ys i x is

-- an element of the second
got_second : (xs ys : List Place) (i k : ℕ) → i ≡ k + length xs → slice_get (xs ++ ys) i ≡ slice_get ys k
got_second [] ys i k is = ap (slice_get ys) (omega (arith, is))
got_second (x ∷ xs) ys zero k is = absurd (omega (arith, is))
got_second (x ∷ xs) ys (suc i) k is = got_second xs ys i k (omega (arith, is))

-- the cards at the front, and those after them
pub record Splits (all front behind : List Place) : Type 0 where
  pub is : all ≡ front ++ behind

pub in_front : (all front behind : List Place) (i : ℕ) (x : Place) → Splits all front behind → slice_get front i ≡ Some x → slice_get all i ≡ Some x
in_front all front behind i x splits got = ap (λ (l : List Place). slice_get l i) splits.is ∙ got_first front behind i x got

pub is_behind : (all front behind : List Place) (i left : ℕ) (x : Place) → Splits all front behind → i ≡ left + length front → slice_get behind left ≡ Some x → slice_get all i ≡ Some x
is_behind all front behind i left x splits past got = ap (λ (l : List Place). slice_get l i) splits.is ∙ got_second front behind i left past ∙ got

pub past_both : (all front behind : List Place) (i left rest : ℕ) → Splits all front behind → i ≡ left + length front → left ≡ rest + length behind → i ≡ rest + length all
past_both all front behind i left rest splits first second = omega (arith, ap (λ (l : List Place). length l) splits.is, length-append front behind, first, second)

pub split_seats : (placed : List Place) (street first count : ℕ) → 0 < count → Splits (on_seats placed street first count) (group_of placed street (Some first)) (on_seats placed street (first + 1) (count - 1))
split_seats placed street first zero some = absurd (omega (arith, some))
split_seats placed street first (suc n) some = let same : n ≡ suc n - 1 = omega arith in record { is = ap (λ (k : ℕ). group_of placed street (Some first) ++ on_seats placed street (first + 1) k) same }

pub split_streets : (seats : ℕ) (placed : List Place) (first count : ℕ) → 0 < count → Splits (on_streets seats placed first count) (on_street seats placed first) (on_streets seats placed (first + 1) (count - 1))
split_streets seats placed first zero some = absurd (omega (arith, some))
split_streets seats placed first (suc n) some = let same : n ≡ suc n - 1 = omega arith in record { is = ap (λ (k : ℕ). on_street seats placed first ++ on_streets seats placed (first + 1) k) same }

flat-append : (f : Option ℕ → List Place) (xs ys : List (Option ℕ)) → flat_map f (xs ++ ys) ≡ flat_map f xs ++ flat_map f ys
flat-append f [] ys = refl
flat-append f (x ∷ xs) ys = ap (λ (l : List Place). f x ++ l) (flat-append f xs ys) ∙ sym (append_assoc (f x) (flat_map f xs) (flat_map f ys))

pub split_board : (seats : ℕ) (placed : List Place) (street : ℕ) → Splits (on_street seats placed street) (on_seats placed street 1 seats) (group_of placed street None)
split_board seats placed street = record {
  is = flat-append (group_of placed street) (map Some (range_with_len 1 seats)) (None ∷ []) ∙ ap (λ (l : List Place). on_seats placed street 1 seats ++ l) (append-nil (group_of placed street None));
}

-- all cards are in the order
seats_long : (placed : List Place) (street first count : ℕ) → length (on_seats placed street first count) ≡ sum_from (λ seat. count_by (is_in_group (Some seat) street) placed) first count
seats_long placed street first zero = refl
seats_long placed street first (suc n) =
    omega (arith, length-append (group_of placed street (Some first)) (on_seats placed street (first + 1) n), length-filter (is_in_group (Some first) street) placed, seats_long placed street (first + 1) n)

street_long : (seats : ℕ) (placed : List Place) (street : ℕ) → length (on_street seats placed street) ≡ rooms.on_street seats placed street
street_long seats placed street =
    omega (arith, ap (λ (l : List Place). length l) (split_board seats placed street).is, length-append (on_seats placed street 1 seats) (group_of placed street None), length-filter (is_in_group None street) placed, seats_long placed street 1 seats)

streets_long : (seats : ℕ) (placed : List Place) (first count : ℕ) → length (on_streets seats placed first count) ≡ sum_from (rooms.on_street seats placed) first count
streets_long seats placed first zero = refl
streets_long seats placed first (suc n) =
    omega (arith, length-append (on_street seats placed first) (on_streets seats placed (first + 1) n), street_long seats placed first, streets_long seats placed (first + 1) n)

pub all_ordered : (code : Code) (seats : ℕ) (placed : List Place) → IsWithin code seats placed → length placed ≤ length (ordered code seats placed)
all_ordered code seats placed within = omega (arith, all_counted code seats placed within, streets_long seats placed 1 (street_count code))

-- the cards of a street and an owner, read from rows
pub split_rows : (all behind rows placed : List Place) (street : ℕ) (owner : Option ℕ) → rows ≡ placed → Splits all (group_of placed street owner) behind → Splits all (group_of rows street owner) behind
split_rows all behind rows placed street owner same splits = subst (λ (ps : List Place). Splits all (group_of ps street owner) behind) (sym same) splits
