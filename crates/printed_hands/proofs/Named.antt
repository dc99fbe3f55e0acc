-- The rows of all hands are the names in the order in which they are first seen, each with the sums
-- of its seats.
use Rattle.std.proofs.Common.{◌≡◌, ℕ, ◌+◌, ◌≤◌, ◌<◌, Bool, true, false, cond, ◌||◌, List, [], ◌∷◌, ◌++◌, map, fold, filter, flat_map, sum_by, bytes_eq, pos, ◌-ℤ◌, refl, sym, ap, subst, ◌∙◌, arith}
use Rattle.std.specs.List.{list_any}
use Rattle.std.proofs.lemmas.Bool.{eq-eqb, ne_eqb}
use Rattle.std.proofs.lemmas.List.{map-append}
use Rattle.std.proofs.lemmas.List.Elements.{filter-append}
use Rattle.std.proofs.lemmas.List.Sums.{fold-append, sum_by-cons, sum_by-append}
use Rattle.card_set.proofs.Counting.{count_by-cons}
use Rattle.printed_hands.specs.Names.{with_name}
use Rattle.printed_hands.specs.Report.{Hand, Seated, hands_with, name_line, names_of, net_of, seats_named, seats_of_all}
use Rattle.printed_hands.specs.Tallies.{tally_at, tally_line, tally_names, with_hands, with_play, with_seat, with_seats}
use Rattle.printed_hands.specs.declared.tally.Tally.{Tally}
use Rattle.printed_hands.proofs.ReportRows.{at_row, names_insert, step}

-- names in their order: the seats of a hand
names_seats : (number : ℕ) (rows : List (List ℕ × Tally)) (seats : List Seated)
    → tally_names (with_seats number rows seats) ≡ fold with_name (tally_names rows) (map (λ seat. seat.name) seats)
names_seats number rows [] = refl
names_seats number rows (seat ∷ seats) =
    names_seats number (with_play number rows seat) seats
    ∙ ap (λ names. fold with_name names (map (λ seat. seat.name) seats)) (names_insert rows seat.name (with_seat number (tally_at rows seat.name) seat))

-- and of more hands
pub names_hands : (number : ℕ) (rows : List (List ℕ × Tally)) (hands : List Hand)
    → tally_names (with_hands number rows hands) ≡ fold with_name (tally_names rows) (map (λ seat. seat.name) (seats_of_all hands))
names_hands number rows [] = refl
names_hands number rows (hand ∷ hands) =
    names_hands (number + 1) (with_seats number rows hand.seats) hands
    ∙ ap (λ names. fold with_name names (map (λ seat. seat.name) (seats_of_all hands))) (names_seats number rows hand.seats)
    ∙ sym (fold-append with_name (tally_names rows) (map (λ seat. seat.name) hand.seats) (map (λ seat. seat.name) (seats_of_all hands)))
    ∙ ap (λ names. fold with_name (tally_names rows) names) (sym (map-append (λ seat. seat.name) hand.seats (seats_of_all hands)))

-- the tally of a name after the seats of a hand
abbrev after : ℕ → List ℕ → Tally → List Seated → Tally
after number asked tally seats = fold (step number asked) tally seats

at_seats : (number : ℕ) (rows : List (List ℕ × Tally)) (seats : List Seated) (asked : List ℕ)
    → tally_at (with_seats number rows seats) asked ≡ after number asked (tally_at rows asked) seats
at_seats number rows [] asked = refl
at_seats number rows (seat ∷ seats) asked =
    at_seats number (with_play number rows seat) seats asked
    ∙ ap (λ tally. after number asked tally seats) (at_row number rows seat asked)

summed : (f : Seated → ℕ) (g : Tally → ℕ) (number : ℕ) (asked : List ℕ)
    → ((tally : Tally) (seat : Seated) → g (with_seat number tally seat) ≡ g tally + f seat)
    → (seats : List Seated) (tally : Tally)
    → g (after number asked tally seats) ≡ g tally + sum_by f (filter (λ seat. bytes_eq asked seat.name) seats)
summed f g number asked adds [] tally = omega arith
summed f g number asked adds (seat ∷ seats) tally = by (bytes_eq asked seat.name) (summed f g number asked adds seats)
  where
    by : (b : Bool)
        → ((other : Tally) → g (after number asked other seats) ≡ g other + sum_by f (filter (λ seat. bytes_eq asked seat.name) seats))
        → g (after number asked (cond b (with_seat number tally seat) tally) seats)
        ≡ g tally + sum_by f (cond b (seat ∷ filter (λ seat. bytes_eq asked seat.name) seats) (filter (λ seat. bytes_eq asked seat.name) seats))
    by true later =
        later (with_seat number tally seat)
        ∙ omega (arith, adds tally seat, sum_by-cons f seat (filter (λ seat. bytes_eq asked seat.name) seats))
    by false later = later tally

-- sums over all hands
summed_hands : (f : Seated → ℕ) (g : Tally → ℕ) (asked : List ℕ)
    → ((number : ℕ) (tally : Tally) (seat : Seated) → g (with_seat number tally seat) ≡ g tally + f seat)
    → (number : ℕ) (rows : List (List ℕ × Tally)) (hands : List Hand)
    → g (tally_at (with_hands number rows hands) asked)
    ≡ g (tally_at rows asked) + sum_by f (filter (λ seat. bytes_eq asked seat.name) (seats_of_all hands))
summed_hands f g asked adds number rows [] = omega arith
summed_hands f g asked adds number rows (hand ∷ hands) =
    let test : Seated → Bool = λ seat. bytes_eq asked seat.name in
    let later = summed_hands f g asked adds (number + 1) (with_seats number rows hand.seats) hands in
    let here : g (tally_at (with_seats number rows hand.seats) asked) ≡ g (tally_at rows asked) + sum_by f (filter test hand.seats) =
    ap g (at_seats number rows hand.seats asked) ∙ summed f g number asked (adds number) hand.seats (tally_at rows asked) in
    let both : sum_by f (filter test (hand.seats ++ seats_of_all hands)) ≡ sum_by f (filter test hand.seats) + sum_by f (filter test (seats_of_all hands)) =
    ap (sum_by f) (filter-append test hand.seats (seats_of_all hands)) ∙ sum_by-append f (filter test hand.seats) (filter test (seats_of_all hands)) in
    omega (arith, later, here, both)

-- a hand that already counts for a name does not count again
counted_no_more : (number : ℕ) (asked : List ℕ) (seats : List Seated) (tally : Tally) → tally.last ≡ number
    → (after number asked tally seats).hands ≡ tally.hands
counted_no_more number asked [] tally same = refl
counted_no_more number asked (seat ∷ seats) tally same = by (bytes_eq asked seat.name) (counted_no_more number asked seats)
  where
    by : (b : Bool) → ((other : Tally) → other.last ≡ number → (after number asked other seats).hands ≡ other.hands)
        → (after number asked (cond b (with_seat number tally seat) tally) seats).hands ≡ tally.hands
    by true later =
        later (with_seat number tally seat) refl
        ∙ ap (λ b. cond b tally.hands (tally.hands + 1)) (eq-eqb tally.last number same)
    by false later = later tally same

-- and one that does not yet counts once
counted_once : (number : ℕ) (asked : List ℕ) (seats : List Seated) (tally : Tally) → tally.last < number
    → (after number asked tally seats).hands ≡ tally.hands + cond (list_any (λ seat. bytes_eq asked seat.name) seats) 1 0
counted_once number asked [] tally before = omega arith
counted_once number asked (seat ∷ seats) tally before = by (bytes_eq asked seat.name) (counted_once number asked seats tally before)
  where
    by : (b : Bool)
        → (after number asked tally seats).hands ≡ tally.hands + cond (list_any (λ seat. bytes_eq asked seat.name) seats) 1 0
        → (after number asked (cond b (with_seat number tally seat) tally) seats).hands
        ≡ tally.hands + cond (b || list_any (λ seat. bytes_eq asked seat.name) seats) 1 0
    by true later =
        counted_no_more number asked seats (with_seat number tally seat) refl
        ∙ ap (λ b. cond b tally.hands (tally.hands + 1)) (ne_eqb tally.last number (λ same. omega (arith, same, before)))
    by false later = later

-- the last hand of a tally
last_after : (number : ℕ) (asked : List ℕ) (seats : List Seated) (tally : Tally) → tally.last ≤ number
    → (after number asked tally seats).last ≤ number
last_after number asked [] tally before = before
last_after number asked (seat ∷ seats) tally before = by (bytes_eq asked seat.name) (last_after number asked seats)
  where
    by : (b : Bool) → ((other : Tally) → other.last ≤ number → (after number asked other seats).last ≤ number)
        → (after number asked (cond b (with_seat number tally seat) tally) seats).last ≤ number
    by true later = later (with_seat number tally seat) (omega arith)
    by false later = later tally before

-- the hands of a name
counted_hands : (asked : List ℕ) (number : ℕ) (rows : List (List ℕ × Tally)) (hands : List Hand) → (tally_at rows asked).last < number
    → (tally_at (with_hands number rows hands) asked).hands ≡ (tally_at rows asked).hands + hands_with hands asked
counted_hands asked number rows [] before = omega arith
counted_hands asked number rows (hand ∷ hands) before =
    let test : Hand → Bool = λ hand. list_any (λ seat. bytes_eq asked seat.name) hand.seats in
    let is = at_seats number rows hand.seats asked in
    let last : (tally_at (with_seats number rows hand.seats) asked).last < number + 1 =
    subst (λ tally. tally.last < number + 1) (sym is) (let low = last_after number asked hand.seats (tally_at rows asked) (omega (arith, before)) in omega (arith, low)) in
    let later = counted_hands asked (number + 1) (with_seats number rows hand.seats) hands last in
    let here : (tally_at (with_seats number rows hand.seats) asked).hands ≡ (tally_at rows asked).hands + cond (test hand) 1 0 =
    ap (λ tally. tally.hands) is ∙ counted_once number asked hand.seats (tally_at rows asked) before in
    omega (arith, later, here, count_by-cons test hand hands)

from_nothing : (all start more : ℕ) → all ≡ start + more → start ≡ 0 → all ≡ more
from_nothing all start more is none = omega (arith, is, none)

-- the line of each name
one_line : (hands : List Hand) (name : List ℕ)
    → tally_line (with_hands 1 [] hands) name ≡ name_line (net_of hands name) (hands_with hands name) name
one_line hands name =
    let its : Tally = tally_at (with_hands 1 [] hands) name in
    let finished : its.finished ≡ sum_by (λ seat. seat.finished) (seats_named hands name) =
    from_nothing _ _ _ (summed_hands (λ seat. seat.finished) (λ tally. tally.finished) name (λ number tally seat. refl) 1 [] hands) refl in
    let started : its.started ≡ sum_by (λ seat. seat.started) (seats_named hands name) =
    from_nothing _ _ _ (summed_hands (λ seat. seat.started) (λ tally. tally.started) name (λ number tally seat. refl) 1 [] hands) refl in
    let counted : its.hands ≡ hands_with hands name = from_nothing _ _ _ (counted_hands name 1 [] hands (omega arith)) refl in
    λ i. name_line (pos (finished i) -ℤ pos (started i)) (counted i) name

-- the lines of all names
pub names_text : (hands : List Hand)
    → flat_map (tally_line (with_hands 1 [] hands)) (tally_names (with_hands 1 [] hands))
    ≡ flat_map (λ name. name_line (net_of hands name) (hands_with hands name) name) (names_of hands)
names_text hands = λ i. flat_map (λ name. one_line hands name i) (names_hands 1 [] hands i)
